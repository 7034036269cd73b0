-- Texts that are written in pieces.
use Rattle.std.specs.Prelude.{◌≡◌, ℕ, List, ◌++◌, Option}
use Rattle.std.specs.Io.KnownBytes.{Appends}

-- what was written so far is a front of the whole text, and this is what is left of it
pub record LeavesText (old now : Option (List ℕ)) (whole rest : List ℕ) : Type 0 where
  pub front : List ℕ
  pub written : Appends old now front
  pub split : whole ≡ front ++ rest
