-- No more slots are read for a cut than there are, and no entry is told.
use Rattle.std.proofs.Common.{ℕ, List, arith}
use Rattle.coy_io.specs.Lines.{Part}
use Rattle.image_builder.specs.Boot.{booted}
use Rattle.kernel_core.specs.State.{State}
use Rattle.listing_read.specs.Statement.{ListingValue}
use Rattle.confine_check.specs.Sides.{all_right, cut_of}
use Rattle.confine_check.proofs.Found.{reads-most}
use Rattle.courses.specs.Course.{HasEntries}
use Rattle.courses.proofs.Lasts.{none-entries}
use Rattle.courses.proofs.Sound.{IsSound, ends-sound}
use Rattle.courses.specs.Ending.{told_end}
use Rattle.courses.specs.declared.exit.Exit.TheVariants.{CutRefused, TooLong}
use Rattle.confine_command.specs.Confine.{checked, confine_course, told}
use Rattle.confine_command.specs.Stated.{PastEnd, RefusedAt, Stated, StatesSides, stated}

checked-sound : (s : State) (all : Stated) → IsSound (checked s all)
checked-sound s (StatesSides sides) =
    let most = reads-most (cut_of sides) s in
    record { run = omega (arith, most); economy = λ fits. omega (arith, most); sharp_run = omega (arith, most); sharp_economy = λ fits. omega (arith, most) }
checked-sound s (RefusedAt line fault) = ends-sound (told_end (CutRefused line fault))
checked-sound s PastEnd = ends-sound (told_end TooLong)

-- what the command does with a listing is within the bounds
pub confine-sound : (listing : ListingValue) (last : ℕ) (rest : List Part) → IsSound (confine_course listing last rest)
confine-sound listing last rest = checked-sound (booted listing) (stated (all_right listing.sizes) last rest)

checked-entries : (s : State) (all : Stated) → HasEntries (checked s all)
checked-entries s (StatesSides sides) = none-entries (told s sides)
checked-entries s (RefusedAt line fault) = none-entries (told_end (CutRefused line fault))
checked-entries s PastEnd = none-entries (told_end TooLong)

-- and it has no entries
pub confine-entries : (listing : ListingValue) (last : ℕ) (rest : List Part) → HasEntries (confine_course listing last rest)
confine-entries listing last rest = checked-entries (booted listing) (stated (all_right listing.sizes) last rest)
