-- From what the lines of a schedule come to, to what a listing and these lines do.
use Rattle.std.proofs.Common.{◌≡◌, ℕ, List, refl}
use Rattle.coy_io.specs.Lines.{Part}
use Rattle.machine_state.specs.State.{State}
use Rattle.image_builder.specs.Boot.{booted}
use Rattle.listing_read.specs.Statement.{ListingValue}
use Rattle.schedule_replay.specs.Scheduled.{scheduled}
use Rattle.back_command.specs.Back.{back_course, undoing}

-- what lines come to on the machine of the listing is what is done with it and them
pub of-listing : (number : ℕ) (listing : ListingValue) (last harts : ℕ) (s : State) → harts ≡ listing.sizes.harts → s ≡ booted listing
    → (parts : List Part) → undoing number s (scheduled harts last parts) ≡ back_course number listing last parts
of-listing number listing last harts s few state parts = rw (few, state) refl
