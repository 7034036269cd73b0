-- What a breadth-first search finds.
use Rattle.std.specs.Prelude.{◌≡◌, ℕ, ◌+◌, ◌<◌, ◌≤◌, ◌⊎◌, Bool, true, false, not, List, length, All, Some, slice_get, slice_index_or, count_by, Option, MatchOption}
use Rattle.reaches_back.specs.Edges.{end_of, walked}
use Rattle.fair_rounds.specs.Rounds.{IsEarlier}
use Rattle.fair_rounds.specs.declared.breadth.Found.{Found}
use Rattle.fair_rounds.specs.declared.ways.Way.{Way}

-- the node was found, after at most so many edges
pub record IsFound (found : List Found) (node most : ℕ) : Type 0 where
  pub at : ℕ
  pub entry : Found
  pub there : slice_get found at ≡ Some entry
  pub is : entry.node ≡ node
  pub depth : entry.depth ≤ most

-- the node was found, before the one at this place
pub record IsFoundBefore (found : List Found) (node place : ℕ) : Type 0 where
  pub at : ℕ
  pub before : at < place
  pub entry : Found
  pub there : slice_get found at ≡ Some entry
  pub is : entry.node ≡ node

-- each but the first was found from an earlier one
abbrev pub AreEarlier : List Found → Type 0
AreEarlier found = (i : ℕ) (f : Found) → 0 < i → slice_get found i ≡ Some f → f.parent < i

-- those found later are as far from the first, or farther
abbrev pub AreInOrder : List Found → Type 0
AreInOrder found = (i j : ℕ) (a b : Found) → i ≤ j → slice_get found i ≡ Some a → slice_get found j ≡ Some b → a.depth ≤ b.depth

module _ (width : ℕ) (ends : List ℕ) where
  -- the node at the place was found by an edge of an earlier one; all edges before that lead to nodes that were found before
  pub record IsChild (found : List Found) (i : ℕ) (child : Found) : Type 0 where
    pub parent : Found
    pub there : slice_get found child.parent ≡ Some parent
    pub earlier : child.parent < i
    pub choice : child.choice < width
    pub leads : end_of width ends parent.node child.choice ≡ child.node
    pub depth : child.depth ≡ parent.depth + 1
    pub turn : (j : ℕ) (f : Found) → slice_get found j ≡ Some f → (c : ℕ) → c < width → (j < child.parent) ⊎ ((j ≡ child.parent) × (c < child.choice))
        → IsFoundBefore found (end_of width ends f.node c) i

  -- the first is nearest, and each other is the child of an earlier one
  pub record IsTree (found : List Found) : Type 0 where
    pub some : 0 < length found
    pub first : (f : Found) → slice_get found 0 ≡ Some f → f.depth ≡ 0
    pub each : (i : ℕ) (f : Found) → 0 < i → slice_get found i ≡ Some f → IsChild found i f

  -- by so many edges as one is farther than the other, the choices lead from its node to the other's; as many that are earlier,
  -- or from a node that was found before, lead to one that was
  pub record IsWay (found : List Found) (at to : ℕ) (path : List ℕ) : Type 0 where
    pub choices : All (λ c. c < width) path
    pub leads : (a b : Found) → slice_get found at ≡ Some a → slice_get found to ≡ Some b → walked width ends a.node path ≡ b.node
    pub long : (a b : Found) → slice_get found at ≡ Some a → slice_get found to ≡ Some b → length path + a.depth ≡ b.depth
    pub earliest : (j : ℕ) (f : Found) → slice_get found j ≡ Some f → (other : List ℕ) → All (λ c. c < width) other → length other ≡ length path
        → (j < at) ⊎ ((j ≡ at) × IsEarlier other path) → IsFoundBefore found (walked width ends f.node other) to

  -- all nodes to which edges lead from the start were found, in the order of their distance
  pub record IsSearched (nodes from : ℕ) (found : List Found) : Type 0 where
    pub tree : IsTree found
    pub inside : (i : ℕ) (f : Found) → slice_get found i ≡ Some f → f.node < nodes
    pub start : (f : Found) → slice_get found 0 ≡ Some f → f.node ≡ from
    pub order : AreInOrder found
    pub all : (path : List ℕ) → All (λ c. c < width) path → IsFound found (walked width ends from path) (length path)

  -- the marked nodes were found, and the edges of those before the place were followed
  pub record IsSpread (marks : List Bool) (found : List Found) (at : ℕ) : Type 0 where
    pub tree : IsTree found
    pub order : AreInOrder found
    pub inside : (i : ℕ) (f : Found) → slice_get found i ≡ Some f → (f.node < length marks) × (f.depth ≤ i)
    pub count : count_by not marks + length found ≡ length marks
    pub seen : (node : ℕ) → slice_index_or marks node false ≡ true → (i : ℕ) × (f : Found) × (slice_get found i ≡ Some f) × (f.node ≡ node)
    pub last : (f : Found) → slice_get found at ≡ Some f → (i : ℕ) (g : Found) → slice_get found i ≡ Some g → g.depth ≤ f.depth + 1
    pub followed : (i : ℕ) (f : Found) → i < at → slice_get found i ≡ Some f → (c : ℕ) → c < width → IsFound found (end_of width ends f.node c) (f.depth + 1)

-- none of the nodes found is marked, or one is
abbrev pub IsFirstMarked : List Found → List Bool → Option ℕ → Type 0
IsFirstMarked found marks first = MatchOption first ((i : ℕ) (f : Found) → slice_get found i ≡ Some f → slice_index_or marks f.node false ≡ false)
    (λ i. (f : Found) × (slice_get found i ≡ Some f) × (slice_index_or marks f.node false ≡ true))

-- no edges lead from the node to one that is marked, or some do
abbrev pub IsWayTo : ℕ → List ℕ → ℕ → List Bool → Option Way → Type 0
IsWayTo width ends from marks way = MatchOption way ((path : List ℕ) → All (λ c. c < width) path → slice_index_or marks (walked width ends from path) false ≡ false)
    (λ w. All (λ c. c < width) w.choices.items × (walked width ends from w.choices.items ≡ w.end) × (slice_index_or marks w.end false ≡ true))
