-- What a place of a form has, as `clap`'s getters read it.
use Rattle.std.specs.Prelude.{ℕ, ◌≡◌, List}
use Rattle.clap.proofs.WalkLemmas.{first_value-rows}
use Rattle.clap.specs.Matches.{first_value}
use Rattle.clap.specs.Walk.{first_of, rows_of}
use Rattle.clap.specs.declared.parser.matches.Found.{Found}

-- the first word in a place is the first of its row
pub first_value_rows : (found : Found) (id : List ℕ) → first_value found id ≡ first_of id (rows_of found)
first_value_rows = first_value-rows
