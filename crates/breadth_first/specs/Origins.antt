-- Where each state that was found came from, and the path that leads to it.
use Rattle.std.specs.Prelude.{◌≡◌, ℕ, suc, ◌+◌, ◌-◌, ◌<◌, ◌≤◌, ◌⊎◌, List, length, Some, slice_get}
use Rattle.breadth_first.specs.System.{System}
use Rattle.breadth_first.specs.Paths.{after, AreChoices, IsEarlier}
use Rattle.breadth_first.specs.Order.{trying, opened, reached}
use Rattle.breadth_first.specs.declared.origins.Origin.{Origin}

-- a state stands before the one with the index `i`, in the order in which states are found
pub record StandsBefore {S : Type 0} (g : System S) (i : ℕ) (s : S) : Type 0 where
  pub index : ℕ
  pub before : index < i
  pub at : slice_get (opened g i) index ≡ Some s

module _ {S : Type 0} (g : System S) (states : List S) where
  -- the state with the index `i` was found by a choice of an earlier one, when the choices of that one were tried; those
  -- before this choice led to states that stand before it
  pub record IsOrigin (i : ℕ) (origin : Origin) : Type 0 where
    pub parent : S
    pub at : slice_get states origin.parent ≡ Some parent
    pub choice : origin.choice < g.choices
    pub leads : slice_get states i ≡ Some (g.next parent origin.choice)
    pub earlier : origin.parent < i
    pub from : length (opened g origin.parent) ≤ i
    pub to : i < length (opened g (suc origin.parent))
    pub turn : slice_get (opened g origin.parent) origin.parent ≡ Some parent
    pub place : i ≡ length (trying g (opened g origin.parent) parent origin.choice)
    pub stands : slice_get (opened g (suc origin.parent)) i ≡ Some (g.next parent origin.choice)

  -- the first state is the start, and each other has its origin
  pub record AreOrigins (origins : List Origin) : Type 0 where
    pub many : length origins ≡ length states
    pub start : slice_get states 0 ≡ Some g.start
    pub each : (i : ℕ) (origin : Origin) → 0 < i → slice_get origins i ≡ Some origin → IsOrigin i origin

  -- the path leads to the state with the index `i`, and is as long as the state is far from the start; a path of this length
  -- that is earlier leads to a state that stands before
  pub record IsPathTo (i : ℕ) (path : List ℕ) : Type 0 where
    pub choices : AreChoices g path
    pub leads : slice_get states i ≡ Some (after g g.start path)
    pub few : (d : ℕ) → length path ≤ d → i < length (reached g d)
    pub least : (d : ℕ) → i < length (reached g d) → length path ≤ d
    pub earlier : (other : List ℕ) → AreChoices g other → length other ≡ length path → IsEarlier other path → StandsBefore g i (after g g.start other)

  -- the path leads from the state with the index `at` to the one with the index `i`, which is as much farther from the start; a
  -- path of this length that is earlier, or leads on from a state that stands before, leads to one that does
  pub record Continues (at i : ℕ) (path : List ℕ) : Type 0 where
    pub choices : AreChoices g path
    pub state : S
    pub from : slice_get states at ≡ Some state
    pub leads : slice_get states i ≡ Some (after g state path)
    pub few : (d : ℕ) → at < length (reached g d) → i < length (reached g (d + length path))
    pub least : (d : ℕ) → i < length (reached g d) → length path ≤ d
    pub farther : (d : ℕ) → i < length (reached g d) → at < length (reached g (d - length path))
    pub turn : slice_get (opened g at) at ≡ Some state
    pub earlier : (b : ℕ) (s : S) → slice_get (opened g at) b ≡ Some s → (other : List ℕ) → AreChoices g other → length other ≡ length path
        → (b < at) ⊎ ((b ≡ at) × IsEarlier other path) → StandsBefore g i (after g s other)
