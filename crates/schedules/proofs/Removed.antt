-- Taking a process out of a list, wherever it stands there.
use Rattle.std.proofs.Common.{◌≡◌, ℕ, ◌==◌, Bool, true, false, not, cond, List, [], ◌∷◌, filter, refl, ap}
use Rattle.std.specs.Bool.{if◌then◌else◌}
use Rattle.schedules.specs.Queues.{without}

-- what is left is every other process
pub others-left : (p : ℕ) (xs : List ℕ) → filter (λ x. not (x == p)) xs ≡ without p xs
others-left p [] = refl
others-left p (x ∷ xs) = on (x == p) (others-left p xs)
  where
    on : (b : Bool) → filter (λ y. not (y == p)) xs ≡ without p xs
        → cond (not b) (x ∷ filter (λ y. not (y == p)) xs) (filter (λ y. not (y == p)) xs) ≡ (if b then without p xs else x ∷ without p xs)
    on true rest = rest
    on false rest = ap (λ l. x ∷ l) rest
