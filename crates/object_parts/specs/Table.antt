-- Tables in which each value stands once.
use Rattle.std.specs.Prelude.{◌≡◌, ℕ, List, ◌++◌, slice_get, Some}

-- no two places have the same value
pub record AreApart {A : Type 0} (values : List A) : Type 0 where
  pub each : (i j : ℕ) (x : A) → slice_get values i ≡ Some x → slice_get values j ≡ Some x → i ≡ j

-- values were added behind those that were there
pub record Grows {A : Type 0} (old new : List A) : Type 0 where
  pub added : List A
  pub behind : new ≡ old ++ added
