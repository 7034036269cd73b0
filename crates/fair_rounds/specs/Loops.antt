-- Rounds that lead from a node back to it, and how they are found.
use Rattle.std.specs.Prelude.{◌≡◌, ℕ, ◌-◌, ◌<◌, ◌≤◌, true, false, Bool, List, ◌++◌, length, All, Option, Some, slice_get, MatchOption}
use Rattle.std.specs.List.{Contains}
use Rattle.reaches_back.specs.Edges.{end_of, walked, CanReach}
use Rattle.fair_rounds.specs.Table.{is_marked, ComesTo, IsLoop}
use Rattle.fair_rounds.specs.declared.breadth.Found.{Found}

-- what is marked in one list is marked in the other
abbrev pub KeepsMarks : List Bool → List Bool → Type 0
KeepsMarks old new = (at : ℕ) → is_marked old at ≡ true → is_marked new at ≡ true

-- from each node that is marked in the second list, edges lead to one that is in the first
abbrev pub AllReach : ℕ → List ℕ → List Bool → List Bool → Type 0
AllReach width ends old new = (at : ℕ) → is_marked new at ≡ true → CanReach width ends old at

-- each node of the list is marked
abbrev pub AreMarkedNodes : List Bool → List ℕ → Type 0
AreMarkedNodes marks list = All (λ node. is_marked marks node ≡ true) list

module _ (width : ℕ) (ends : List ℕ) where
  -- of so many nodes those are marked from which edges lead to one
  pub record AreLeading (nodes to : ℕ) (marks : List Bool) : Type 0 where
    pub many : length marks ≡ nodes
    pub sound : (at : ℕ) → at < nodes → is_marked marks at ≡ true → ComesTo width ends at to
    pub all : (at : ℕ) → at < nodes → ComesTo width ends at to → is_marked marks at ≡ true

  -- of the nodes those are marked anew whose edge of one choice leads to one that was
  pub record HaveEdge (marks : List Bool) (choice : ℕ) (new : List Bool) : Type 0 where
    pub many : length new ≡ length marks
    pub each : (at : ℕ) → at < length marks → is_marked new at ≡ is_marked marks (end_of width ends at choice)

  -- choices were added that lead from one node to another, which is marked; and one choice is among them all
  pub record Adds (marks : List Bool) (choice from : ℕ) (old new : List ℕ) (to : ℕ) : Type 0 where
    pub path : List ℕ
    pub added : new ≡ old ++ path
    pub choices : All (λ c. c < width) path
    pub leads : walked width ends from path ≡ to
    pub marked : is_marked marks to ≡ true
    pub has : Contains new choice

  -- choices were added that do, or nowhere behind the node the edge of the choice leads to a node that is marked
  abbrev pub GoesOn : List Bool → ℕ → ℕ → List ℕ → List ℕ → Option ℕ → Type 0
  GoesOn marks choice from old new to = MatchOption to ((path : List ℕ) → All (λ c. c < width) path → is_marked marks (end_of width ends (walked width ends from path) choice) ≡ false)
      (Adds marks choice from old new)

  -- some choices lead on from one node to the other
  pub record Returns (from to : ℕ) (old new : List ℕ) : Type 0 where
    pub path : List ℕ
    pub added : new ≡ old ++ path
    pub choices : All (λ c. c < width) path
    pub leads : walked width ends from path ≡ to

  -- no round leads from the node back to it
  abbrev pub IsLoopless : ℕ → Type 0
  IsLoopless at = (cycle : List ℕ) → IsLoop width ends at cycle → ⊥

  -- the marks are of nodes that are so
  pub record AreLoopless (nodes : ℕ) (marks : List Bool) : Type 0 where
    pub many : length marks ≡ nodes
    pub each : (at : ℕ) → at < nodes → is_marked marks at ≡ true → IsLoopless at

-- where goals are walls: no round leads from the node with this double back to it
abbrev pub NoneFrom : ℕ → List ℕ → ℕ → ℕ → Type 0
NoneFrom width walls nodes double = nodes ≤ double → IsLoopless width walls (double - nodes)

-- one does
abbrev pub OneFrom : ℕ → List ℕ → ℕ → ℕ → List ℕ → Type 0
OneFrom width walls nodes double cycle = (nodes ≤ double) × IsLoop width walls (double - nodes) cycle

-- one leads back from the node with the double that was found at this place, and none from those before
pub record IsFirstCaught (width : ℕ) (walls : List ℕ) (nodes : ℕ) (found : List Found) (place : ℕ) (cycle : List ℕ) : Type 0 where
  pub entry : Found
  pub there : slice_get found place ≡ Some entry
  pub one : OneFrom width walls nodes entry.node cycle
  pub before : (i : ℕ) (f : Found) → i < place → slice_get found i ≡ Some f → NoneFrom width walls nodes f.node
