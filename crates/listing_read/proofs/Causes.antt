-- Why there is no further line, or none that could be read.
use Rattle.std.proofs.Common.{ℕ, ap, List, Option, Some, None}
use Rattle.coy_io.specs.Lines.{Part, LongLine, PastLimit}
use Rattle.coy_io.specs.Reader.{Begins, IsDone}
use Rattle.listing_read.specs.declared.fault.Fault.TheVariants.{LineTooLong}
use Rattle.listing_read.specs.declared.fault.ListingFault.TheVariants as faults
use Rattle.listing_read.specs.declared.place.Place.{Place}
use Rattle.listing_read.specs.Listing.{listing_of, fault_at_end, IsCause}

-- the input ends
pub cause_at_end : (place : Place) (n : ℕ) (parts : Option (List Part)) → IsDone parts → IsCause (faults.Refused n (fault_at_end place)) place n parts
unfolding listing_of
cause_at_end place n None done = tt
cause_at_end place n (Some parts) done = ap (listing_of place n) done

-- a line is too long
pub cause_long : (place : Place) (n : ℕ) (parts : Option (List Part)) → Begins parts LongLine → IsCause (faults.Refused n LineTooLong) place n parts
unfolding listing_of
cause_long place n None begins = tt
cause_long place n (Some parts) (rest, begins) = ap (listing_of place n) begins

-- the input goes on behind the last byte that is read
pub cause_past : (place : Place) (n : ℕ) (parts : Option (List Part)) → Begins parts PastLimit → IsCause faults.TooLong place n parts
unfolding listing_of
cause_past place n None begins = tt
cause_past place n (Some parts) (rest, begins) = ap (listing_of place n) begins

-- the source failed
pub cause_read : (place : Place) (n : ℕ) (parts : Option (List Part)) → IsCause faults.ReadFault place n parts
cause_read place n None = tt
cause_read place n (Some parts) = tt
