-- What is searched: states, and the choices that lead from one to the next.
use Rattle.std.specs.Prelude.{◌≡◌, ℕ, Bool, Option, Decides}

-- a start, how many choices there are in each state, and where each leads; when two states are the same; the first of
-- some properties that a state violates; tests of states, by number; and from which states on each of them has to be passed,
-- where it has to be after some; the most that a choice of a state spends, and that any other look at a state does
pub record System (S : Type 0) : Type 0 where
  pub start : S
  pub choices : ℕ
  pub next : S → ℕ → S
  pub same : S → S → Bool
  pub violated : S → Option ℕ
  pub tests : ℕ
  pub test : ℕ → S → Bool
  pub first : ℕ → S → Bool
  pub cost : S → ℕ → ℕ
  pub look : ℕ

-- `same` is equality of states
abbrev pub IsEquality : {S : Type 0} → (S → S → Bool) → Type 0
IsEquality {S} same = (a b : S) → Decides (same a b) (a ≡ b)
