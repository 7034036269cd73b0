-- Paths as origins tell them.
use Rattle.std.specs.Prelude.{◌≡◌, ℕ, ◌<◌, List, [], ◌∷◌, Some, slice_get}
use Rattle.breadth_first.specs.declared.origins.Origin.{Origin}

module _ (origins : List Origin) where
  -- each but the first is of an earlier one
  abbrev pub AreEarlier : Type 0
  AreEarlier = (i : ℕ) (origin : Origin) → 0 < i → slice_get origins i ≡ Some origin → origin.parent < i

  -- the choices are those by which the state with the index `i` was found from the one with the index `at`
  abbrev pub LeadsBack : ℕ → ℕ → List ℕ → Type 0
  LeadsBack at i [] = at ≡ i
  LeadsBack at i (choice ∷ path) = (child : ℕ) × (origin : Origin) × (0 < child) × (slice_get origins child ≡ Some origin) × (origin.parent ≡ at) × (origin.choice ≡ choice) × LeadsBack child i path
