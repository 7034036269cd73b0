-- What reading a listing does to its reader: which lines were given, and that no byte of others was lost.
use Rattle.std.specs.Prelude.{◌≡◌, ◌≤◌, ℕ, ◌+◌, false, List, [], ◌∷◌, ◌++◌, length, Option}
use Rattle.std.specs.Io.KnownBytes.{Keeps, prepend_known}
use Rattle.coy_io.specs.Limits.{window_limit}
use Rattle.coy_io.specs.Lines.{Part, Line, IsFront}
use Rattle.coy_io.specs.Reader.{Reader, bytes_ahead, ahead, last_taken, Advances, GivesLines, GivesNear}
use Rattle.listing_read.specs.Listing.{Good, Refused, listing_of}
use Rattle.listing_read.specs.Statement.{ListingValue}
use Rattle.listing_read.specs.declared.fault.Fault.{Fault}
use Rattle.listing_read.specs.declared.place.Place.TheVariants.{Header}

-- one line more was read: it is the next, and where the input goes on behind it, its bytes alone were lost
pub record ReadsLine (old new : Reader) (held held' : Option (List ℕ)) : Type 0 where
  pub counted : new.number ≡ old.number + 1
  pub before : old.ended ≡ false
  pub line : Advances (ahead old held) (ahead new held') (Line new.line ∷ [])
  pub given : new.ended ≡ false → GivesLines (bytes_ahead old held) (bytes_ahead new held') (Line new.line ∷ [])
  pub near : GivesNear old new held held'

-- the source failed: no byte was lost, and the reader holds the front of a line
pub record IsStopped (old new : Reader) (held held' : Option (List ℕ)) : Type 0 where
  pub counted : new.number ≡ old.number
  pub before : old.ended ≡ false
  pub unended : new.ended ≡ false
  pub unfinished : IsFront new.rest
  pub kept : Keeps (bytes_ahead old held) (bytes_ahead new held')

-- the lines given make this listing, whatever lines follow them
pub record GivesListing (old new : Reader) (held held' : Option (List ℕ)) (listing : ListingValue) : Type 0 where
  pub before : old.ended ≡ false
  pub given : List Part
  pub gives : GivesLines (bytes_ahead old held) (bytes_ahead new held') given
  pub makes : (rest : List Part) → listing_of Header (old.number + 1) (given ++ rest) ≡ Good listing new.number rest

-- the lines given have no fault but that they end before their listing does, which is one of the line behind them all, and
-- the reader holds the front of that line
pub record GivesFront (old new : Reader) (held held' : Option (List ℕ)) : Type 0 where
  pub unended : new.ended ≡ false
  pub unfinished : IsFront new.rest
  pub given : List Part
  pub gives : GivesLines (bytes_ahead old held) (bytes_ahead new held') given
  pub counted : new.number ≡ old.number + length given
  pub fault : Fault
  pub ends_early : listing_of Header (old.number + 1) given ≡ Refused (new.number + 1) fault

-- the lines given before the last have no fault but that they end before their listing does, which is one of the line behind
-- them all; and that last line, with the bytes that were taken behind it, stood in the room that a reader has
pub record GivesBefore (old new : Reader) (held held' : Option (List ℕ)) : Type 0 where
  pub given : List Part
  pub gives : GivesLines (bytes_ahead old held) (prepend_known (last_taken new) held') given
  pub near : length (last_taken new) ≤ window_limit
  pub fault : Fault
  pub ends_early : listing_of Header (old.number + 1) given ≡ Refused (old.number + length given + 1) fault
