-- No slot is fetched for the text of a listing, and no entry is told.
use Rattle.std.proofs.Common.{ℕ, List, arith}
use Rattle.coy_io.specs.Lines.{Part}
use Rattle.listing_read.specs.Statement.{ListingValue}
use Rattle.courses.specs.Course.{HasEntries}
use Rattle.courses.proofs.Lasts.{none-entries}
use Rattle.courses.proofs.Sound.{IsSound}
use Rattle.courses.specs.Migrated.{migrate_course}

-- what the command does with a listing is within the bounds
pub migrate-sound : (listing : ListingValue) (last : ℕ) (rest : List Part) → IsSound (migrate_course listing last rest)
migrate-sound listing last rest = record { run = omega arith; economy = λ fits. omega arith; sharp_run = omega arith; sharp_economy = λ fits. omega arith }

-- and it has no entries
pub migrate-entries : (listing : ListingValue) (last : ℕ) (rest : List Part) → HasEntries (migrate_course listing last rest)
migrate-entries listing last rest = none-entries (migrate_course listing last rest).last
