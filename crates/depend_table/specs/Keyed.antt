-- Keys of frames: told apart by their numbers, in a list whose places are the frames (this project's own).
use Rattle.std.specs.Prelude.{ℕ, ◌≡◌, Bool, if◌then◌else◌, nat_eq, List, [], ◌∷◌, ◌++◌, slice_get, Option, Some}
use Rattle.std.specs.List.{list_any, position}
use Rattle.std.specs.Cmp.Lexicographic.{pointwise}

-- whether two keys are one: they have the same numbers
abbrev pub same_by : {K : Type 0} → (K → List ℕ) → K → K → Bool
same_by code j k = pointwise nat_eq (code j) (code k)

-- whether a key is among some
abbrev pub has_by : {K : Type 0} → (K → List ℕ) → List K → K → Bool
has_by code keys k = list_any (same_by code k) keys

-- the keys with one more, unless it is there
abbrev pub with_by : {K : Type 0} → (K → List ℕ) → List K → K → List K
with_by code keys k = if has_by code keys k then keys else keys ++ k ∷ []

-- the frame that has a key
abbrev pub frame_by : {K : Type 0} → (K → List ℕ) → List K → K → Option ℕ
frame_by code keys k = position (same_by code k) keys

-- no key stands at two places
abbrev pub AreApart : {K : Type 0} → List K → Type 0
AreApart {K} keys = (f g : ℕ) (k : K) → slice_get keys f ≡ Some k → slice_get keys g ≡ Some k → f ≡ g
