-- From what the lines of a schedule come to, to what a listing and these lines do.
use Rattle.std.proofs.Common.{◌≡◌, ℕ, List, refl}
use Rattle.coy_io.specs.Lines.{Part}
use Rattle.image_builder.specs.Boot.{booted}
use Rattle.kernel_core.specs.State.{State}
use Rattle.listing_read.specs.Statement.{ListingValue}
use Rattle.schedule_replay.specs.Scheduled.{scheduled}
use Rattle.share_command.specs.Share.{share_course, sharing}

-- what lines come to on the machine of the listing is what is done with it and them
pub of-listing : (listing : ListingValue) (last harts : ℕ) (s : State) → harts ≡ listing.sizes.harts → s ≡ booted listing
    → (parts : List Part) → sharing s (scheduled harts last parts) ≡ share_course listing last parts
of-listing listing last harts s few state parts = rw (few, state) refl
