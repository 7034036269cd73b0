-- Classes of nodes, and which choices lead within them.
use Rattle.std.specs.Prelude.{◌≡◌, ℕ, ◌+◌, ◌*◌, ◌<◌, ◌≤◌, true, false, Bool, List, length, slice_index}
use Rattle.reaches_back.specs.Edges.{end_of}
use Rattle.fair_rounds.specs.Table.{is_marked}

-- the class of a node
abbrev pub class_of : List ℕ → ℕ → ℕ
class_of classes at = slice_index classes at

module _ (width : ℕ) (ends classes : List ℕ) where
  -- no edge of the node leads to a higher class than its own
  abbrev pub FallsFrom : ℕ → Type 0
  FallsFrom at = (c : ℕ) → c < width → class_of classes (end_of width ends at c) ≤ class_of classes at

  -- each class is one of as many as there are nodes, and no edge leads to a higher one
  pub record IsFalling : Type 0 where
    pub few : (at : ℕ) → at < length classes → class_of classes at < length classes
    pub falls : (at : ℕ) → at < length classes → FallsFrom at

  -- the choices are marked by which edges of the node lead to its own class
  abbrev pub IsInnerFrom : ℕ → List Bool → Type 0
  IsInnerFrom at inner = (c : ℕ) → c < width → class_of classes (end_of width ends at c) ≡ class_of classes at → is_marked inner (class_of classes at * width + c) ≡ true

  -- so for each node
  pub record AreInner (inner : List Bool) : Type 0 where
    pub many : length inner ≡ length classes * width
    pub each : (at : ℕ) → at < length classes → IsInnerFrom at inner

-- some choice isn't marked for the class
pub record Lacks (width : ℕ) (inner : List Bool) (class : ℕ) : Type 0 where
  pub choice : ℕ
  pub within : choice < width
  pub none : is_marked inner (class * width + choice) ≡ false
