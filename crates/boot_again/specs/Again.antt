-- What a machine that is booted from a listing prints makes the same machine again.
use Rattle.std.specs.Prelude.{◌≡◌, true}
use Rattle.std.specs.List.{All}
use Rattle.std.specs.Option.{is_some}
use Rattle.listing_read.specs.Statement.{ListingValue, IsTyped, IsListing}
use Rattle.image_builder.specs.Boot.{booted}
use Rattle.read_back.specs.Laws.{runs_of}
use Rattle.read_back.specs.Listable.{IsListable}
use Rattle.boot_again.specs.Boots.{printed_listing}

-- each process of the machine of a listing runs or was stopped: none was refused for want of a schedule
abbrev pub AllAccepted : ListingValue → Type 0
AllAccepted listing = All (λ process. is_some (runs_of process.state) ≡ true) (booted listing).store.contents.processes

-- a listing of which every process is accepted at its start
pub record IsAccepted (listing : ListingValue) : Type 0 where
  -- it keeps what every listing keeps, and its values are in the ranges of their types
  pub listing_is : IsListing listing
  pub typed : All IsTyped listing.statements
  -- none of its processes is refused for want of a schedule
  pub accepted : AllAccepted listing

-- a listing can say the objects of the machine that it makes
abbrev pub BootedIsListable : Type 0
BootedIsListable = (listing : ListingValue) → IsAccepted listing → IsListable (booted listing).store

-- and the listing of what is printed of these objects makes that machine: the same objects, queues and harts
abbrev pub BootedAgain : Type 0
BootedAgain =
    (listing : ListingValue) → IsAccepted listing → booted (printed_listing (booted listing).store) ≡ booted listing
