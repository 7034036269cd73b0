-- From what the lines of a schedule come to, to what a listing and these lines do.
use Rattle.std.proofs.Common.{◌≡◌, ℕ, List, refl}
use Rattle.coy_io.specs.Lines.{Part}
use Rattle.kernel_core.specs.State.{State}
use Rattle.image_builder.specs.Boot.{booted}
use Rattle.listing_read.specs.Statement.{ListingValue}
use Rattle.courses.specs.Course.{HasEntries}
use Rattle.courses.proofs.Lasts.{none-entries}
use Rattle.courses.proofs.Sound.{IsSound, ends-sound}
use Rattle.schedule_commands.specs.declared.command.ScheduleCommand.{ScheduleCommand}
use Rattle.schedule_replay.specs.Replay.{count_answer}
use Rattle.schedule_replay.specs.Scheduled.{scheduled}
use Rattle.schedule_commands.specs.Finished.{check_course, counted, course_of, schedule_course}

-- what lines come to on the machine of the listing is what is done with it and them
pub of-listing : (command : ScheduleCommand) (listing : ListingValue) (last harts : ℕ) (s : State) → harts ≡ listing.sizes.harts → s ≡ booted listing
    → (parts : List Part) → course_of command s (scheduled harts last parts) ≡ schedule_course command listing last parts
of-listing command listing last harts s few state parts = rw (few, state) refl

-- what is counted has no entries
pub check-entries : (listing : ListingValue) (last : ℕ) (rest : List Part) → HasEntries (check_course listing last rest)
check-entries listing last rest = none-entries (counted (count_answer (scheduled listing.sizes.harts last rest)))

-- and is within the bounds
pub check-sound : (listing : ListingValue) (last : ℕ) (rest : List Part) → IsSound (check_course listing last rest)
check-sound listing last rest = ends-sound (counted (count_answer (scheduled listing.sizes.harts last rest)))
