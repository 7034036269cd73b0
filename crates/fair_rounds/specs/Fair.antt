-- Schedules without end.
use Rattle.std.specs.Prelude.{◌≡◌, ℕ, zero, suc, ◌<◌, ◌≤◌, List, [], ◌∷◌}

-- each choice comes again and again, and no other
pub record IsFair (width : ℕ) (schedule : ℕ → ℕ) : Type 0 where
  pub choices : (n : ℕ) → schedule n < width
  pub again : (n c : ℕ) → c < width → (m : ℕ) × (n ≤ m) × (schedule m ≡ c)

-- so many choices of it, from a moment on
abbrev pub part : (ℕ → ℕ) → ℕ → ℕ → List ℕ
part schedule from zero = []
part schedule from (suc n) = schedule from ∷ part schedule (suc from) n
