-- The machine of a listing starts in its ranges.
use Rattle.std.specs.List.{All}
use Rattle.run_ranges.specs.Ranges.{AreInRanges}
use Rattle.listing_read.specs.Statement.{ListingValue, IsTyped, IsListing}
use Rattle.image_builder.specs.Boot.{booted}

-- where the values of a listing are in the ranges of their types, all that the objects of its machine hold is in its
-- ranges
abbrev pub BootedIsInRanges : Type 0
BootedIsInRanges =
    (listing : ListingValue) → IsListing listing → All IsTyped listing.statements → AreInRanges (booted listing).store
