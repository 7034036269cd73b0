-- No more slots are fetched than the bounds on what lines come to.
use Rattle.std.proofs.Common.{◌≤◌, ◌+◌, ℕ, List, arith}
use Rattle.coy_io.specs.Lines.{Part}
use Rattle.listing_read.specs.Listing.{Listed, Good, Refused, Past, listing_of}
use Rattle.listing_read.specs.Statement.{ListingValue}
use Rattle.listing_read.specs.declared.place.Place.TheVariants.{Header}
use Rattle.courses.specs.Bounds.{IsBounded}
use Rattle.courses.specs.Course.{Course, cached, course_fetches, ends_in}
use Rattle.courses.specs.Ending.{Output}
use Rattle.courses.specs.Listed.{Behind, lines_course, listed_course}

-- all that a command comes to is within the bounds
abbrev pub IsSound : Course → Type 0
IsSound course = IsBounded 0 (course_fetches cached course) course

-- a text by itself is
pub ends-sound : (last : Output) → IsSound (ends_in last)
ends-sound last = record { run = omega arith; economy = λ fits. omega arith; sharp_run = omega arith; sharp_economy = λ fits. omega arith }

-- with whatever listing, if what is done with each of them is
pub lines-sound : (behind : Behind) → ((listing : ListingValue) (last : ℕ) (rest : List Part) → IsSound (behind listing last rest))
    → (parts : List Part) → IsSound (lines_course behind parts)
lines-sound behind sound parts = by (listing_of Header 1 parts)
  where
    by : (listed : Listed) → IsSound (listed_course behind listed)
    by (Good listing last rest) = sound listing last rest
    by (Refused line fault) = ends-sound _
    by Past = ends-sound _

-- and so is what a call fetches that fetches no more
pub sound-bounded : (course : Course) (fetches fetches' : ℕ) → IsSound course → fetches' ≤ fetches + course_fetches cached course → IsBounded fetches fetches' course
sound-bounded course fetches fetches' s most =
    let run = s.run in
    let sharp_run = s.sharp_run in
    record {
      run = omega (arith, most, run);
      economy = λ fits. let economy = s.economy fits in omega (arith, most, economy);
      sharp_run = omega (arith, most, sharp_run);
      sharp_economy = λ fits. let economy = s.sharp_economy fits in omega (arith, most, economy);
    }
