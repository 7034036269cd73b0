-- What stands where reading failed (this project's own).
use Rattle.std.specs.Prelude.{◌≡◌, ℕ, ◌+◌, false, List, [], length, Option}
use Rattle.std.specs.Io.KnownBytes.{Consumes, Appends}
use Rattle.coy_io.specs.Lines.{Part, IsFront, whole_lines}
use Rattle.coy_io.specs.Reader.{Reader, GivesLines, bytes_ahead}
use Rattle.kernel_core.specs.Outcome.{Touch}
use Rattle.courses.specs.Course.{Course}
use Rattle.courses.specs.Ending.{AwaitsMore, EndsNothing}

-- reading failed behind these bytes, no whole line of which ended the call, and the records that they make sure were
-- written, no more and no less
pub record WritesSure (held held' taken taken' : Option (List ℕ)) (course : List ℕ → Course) : Type 0 where
  pub bytes : List ℕ
  pub read : Consumes held held' bytes
  pub goes_on : EndsNothing (length (whole_lines [] bytes)) (course bytes).last.exit
  pub written : Appends taken taken' (course bytes).records

-- and exactly the slots were fetched that the touches of these lines cost
pub record StandsSure (held held' taken taken' : Option (List ℕ)) (fetches fetches' : ℕ) (count : List Touch → ℕ) (course : List ℕ → Course) : Type 0 where
  pub writes : WritesSure held held' taken taken' course
  pub fetched : fetches' ≡ fetches + count (course writes.bytes).touches

-- the same of the lines behind a listing: reading failed behind whole lines that end nothing, the records that they come to
-- were written, and the slots fetched that their touches cost
pub record StandsOn (old new : Reader) (held held' taken taken' : Option (List ℕ)) (fetches fetches' : ℕ) (count : List Touch → ℕ) (course : List Part → Course) : Type 0 where
  pub before : old.ended ≡ false
  pub going : new.ended ≡ false
  pub unfinished : IsFront new.rest
  pub given : List Part
  pub gives : GivesLines (bytes_ahead old held) (bytes_ahead new held') given
  pub goes_on : AwaitsMore (course given).last.exit
  pub written : Appends taken taken' (course given).records
  pub fetched : fetches' ≡ fetches + count (course given).touches
