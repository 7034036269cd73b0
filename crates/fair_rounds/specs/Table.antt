-- Tables of edges between numbered nodes.
use Rattle.std.specs.Prelude.{◌≡◌, ℕ, ◌+◌, ◌<◌, ◌^◌, ◌&&◌, ◌||◌, not, if◌then◌else◌, Bool, true, false, List, ◌++◌, length, map, replicate, All, slice_index_or}
use Rattle.reaches_back.specs.Edges.{walked, AreEdges}
use Rattle.fair_rounds.specs.Rounds.{IsRound}

-- there are edges for so many nodes, which four bytes can number
pub record IsTable (width : ℕ) (ends : List ℕ) (nodes : ℕ) : Type 0 where
  pub edges : AreEdges width ends nodes
  pub many : nodes < 2 ^ 32
  pub wide : width < 2 ^ 32

-- the node is marked
abbrev pub is_marked : List Bool → ℕ → Bool
is_marked marks node = slice_index_or marks node false

module _ (width : ℕ) (ends : List ℕ) where
  -- some edges lead from one node to the other
  pub record ComesTo (at to : ℕ) : Type 0 where
    pub path : List ℕ
    pub choices : All (λ c. c < width) path
    pub leads : walked width ends at path ≡ to

  -- a round leads from the node back to it
  pub record IsLoop (at : ℕ) (cycle : List ℕ) : Type 0 where
    pub round : IsRound width cycle
    pub back : walked width ends at cycle ≡ at

-- where an edge ends if goals are walls: what leads to one leads to a node of its own, behind the last
abbrev pub walled_end : List Bool → ℕ → ℕ
walled_end goals end = if slice_index_or goals end false then length goals else end

-- all edges so, and those of the node behind the last, which lead to itself
abbrev pub walled : ℕ → List ℕ → List Bool → List ℕ
walled width ends goals = map (walled_end goals) ends ++ replicate width (length goals)

-- whether a goal is wanted behind a node: it is no goal, and one was wanted before or the node is a first one
abbrev pub is_wanted : List Bool → List Bool → Bool → ℕ → Bool
is_wanted goals firsts before node = not (slice_index_or goals node false) && (before || slice_index_or firsts node false)

-- a node, or its double behind the last of so many
abbrev pub doubled : ℕ → Bool → ℕ → ℕ
doubled nodes wanted node = if wanted then nodes + node else node

-- where an edge ends among nodes and their doubles, at which a goal is wanted
abbrev pub wanting_end : List Bool → List Bool → Bool → ℕ → ℕ
wanting_end goals firsts before end = doubled (length goals) (is_wanted goals firsts before end) end

-- all edges so, and those of the doubles
abbrev pub wanting : List ℕ → List Bool → List Bool → List ℕ
wanting ends goals firsts = map (wanting_end goals firsts false) ends ++ map (wanting_end goals firsts true) ends
