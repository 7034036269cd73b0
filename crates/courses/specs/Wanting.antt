-- Where memory may be wanting (this project's own).
use Rattle.std.specs.Prelude.{◌≡◌, ◌≤◌, ◌+◌, ◌++◌, ℕ, List, [], length, Option}
use Rattle.std.specs.Io.KnownBytes.{Consumes}
use Rattle.coy_io.specs.Limits.{window_limit}
use Rattle.coy_io.specs.Lines.{whole_lines}
use Rattle.listing_read.specs.Listing.{Refused, listing_of}
use Rattle.listing_read.specs.declared.fault.Fault.{Fault}
use Rattle.listing_read.specs.declared.place.Place.TheVariants.{Header}

-- A source stands at its listing: before the last bytes that were taken of it, which are no more than a reader has room for,
-- stand whole lines that make no listing yet, and have no fault but that. So the listing goes on in those last bytes or behind
-- them, and no byte behind its line `end` was taken but such as came into the reader's room with that line.
pub record StandsAtListing (held held' : Option (List ℕ)) : Type 0 where
  pub bytes : List ℕ
  pub last : List ℕ
  pub read : Consumes held held' (bytes ++ last)
  pub near : length last ≤ window_limit
  pub fault : Fault
  pub ends_early : let lines = whole_lines [] bytes in listing_of Header 1 lines ≡ Refused (length lines + 1) fault
