-- Nodes by number, each with as many edges, and where lists of edges lead.
use Rattle.std.specs.Prelude.{◌≡◌, ℕ, ◌+◌, ◌*◌, ◌<◌, Bool, true, false, List, [], ◌∷◌, length, All, slice_index, slice_index_or}

module _ (width : ℕ) (ends : List ℕ) where
  -- where an edge of a node leads
  abbrev pub end_of : ℕ → ℕ → ℕ
  end_of at edge = slice_index ends (at * width + edge)

  -- where a list of edges leads from a node, the first first
  abbrev pub walked : ℕ → List ℕ → ℕ
  walked at [] = at
  walked at (edge ∷ path) = walked (end_of at edge) path

  -- some edges lead from the node to a marked one
  pub record CanReach (marks : List Bool) (at : ℕ) : Type 0 where
    pub path : List ℕ
    pub edges : All (λ edge. edge < width) path
    pub marked : slice_index_or marks (walked at path) false ≡ true

  -- no edge of the node leads to a marked one
  abbrev pub NoneMarked : List Bool → ℕ → Type 0
  NoneMarked marks at = (edge : ℕ) → edge < width → slice_index_or marks (end_of at edge) false ≡ false

-- there are edges for so many nodes, and each ends at one of them
pub record AreEdges (width : ℕ) (ends : List ℕ) (nodes : ℕ) : Type 0 where
  pub many : length ends ≡ nodes * width
  pub each : All (λ at. at < nodes) ends
