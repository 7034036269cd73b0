-- Permits: of which ledger a counter may be opened.
use Rattle.std.specs.Prelude.{ℕ}

-- the ledger by its name, and into how many parts its shares are cut
pub record PermitValue : Type 0 where
  pub name : ℕ
  pub parts : ℕ

-- a permit for a counter of the ledger with this name and so many parts
abbrev pub permit_for : ℕ → ℕ → PermitValue
permit_for name parts = record { name = name; parts = parts }
