-- Marks that go backwards.
use Rattle.std.proofs.Common.{◌≡◌, ℕ, zero, suc, ◌+◌, ◌*◌, ◌<◌, ◌≤◌, ◌⊎◌, inl, inr, Bool, true, false, not, cond, List, [], ◌∷◌, ◌++◌, length, get_or, set, All, count_by, refl, sym, ap, ◌∙◌, subst, arith, true≢false}
use Rattle.std.proofs.lemmas.List.{get_or-set_same, get_or-set_other}
use Rattle.std.proofs.lemmas.List.Sums.{sum_by-set}
use Rattle.std.proofs.lemmas.Bool.{cases_eq, cases_lt}
use Rattle.reaches_back.specs.Edges.{end_of, walked, CanReach, NoneMarked, AreEdges}

-- an edge of a node has its place in the list
pub place-within : (nodes width at edge : ℕ) → at < nodes → edge < width → at * width + edge < nodes * width
place-within nodes width at edge a e = grind arith

module _ (width : ℕ) (ends : List ℕ) where
  -- a marked node reaches itself
  pub reach-here : (marks : List Bool) (at : ℕ) → get_or marks at false ≡ true → CanReach width ends marks at
  reach-here marks at h = record { path = []; edges = λ k d l. absurd (omega arith); marked = h }

  -- an edge to a node that reaches marks
  pub reach-edge : (marks : List Bool) (at edge : ℕ) → edge < width → CanReach width ends marks (end_of width ends at edge) → CanReach width ends marks at
  reach-edge marks at edge l r = record { path = edge ∷ r.path; edges = all; marked = r.marked }
    where
      all : All (λ e. e < width) (edge ∷ r.path)
      all zero d k = l
      all (suc n) d k = r.edges n d (omega arith)

  walked-append : (at : ℕ) (path more : List ℕ) → walked width ends at (path ++ more) ≡ walked width ends (walked width ends at path) more
  walked-append at [] more = refl
  walked-append at (edge ∷ path) more = walked-append (end_of width ends at edge) path more

  along : (marks : List Bool) (path : List ℕ) (at : ℕ) → All (λ e. e < width) path → CanReach width ends marks (walked width ends at path) → CanReach width ends marks at
  along marks [] at all r = r
  along marks (edge ∷ path) at all r =
      reach-edge marks at edge (all 0 edge (omega arith)) (along marks path (end_of width ends at edge) (λ k d l. all (suc k) d (omega arith)) r)

  -- what reaches nodes that reach marks reaches marks
  pub reach-trans : (marks news : List Bool) → ((i : ℕ) → get_or news i false ≡ true → CanReach width ends marks i) → (at : ℕ) → CanReach width ends news at → CanReach width ends marks at
  reach-trans marks news sound at r = along marks r.path at r.edges (sound (walked width ends at r.path) r.marked)

  -- where no edge leads from a node that isn't marked to one that is, no edges do
  unmarked-along : (marks : List Bool) (nodes : ℕ) → AreEdges width ends nodes
      → ((i : ℕ) → i < nodes → get_or marks i false ≡ false → NoneMarked width ends marks i)
      → (path : List ℕ) (at : ℕ) → at < nodes → All (λ e. e < width) path → get_or marks at false ≡ false → get_or marks (walked width ends at path) false ≡ false
  unmarked-along marks nodes are done [] at l all h = h
  unmarked-along marks nodes are done (edge ∷ path) at l all h =
      let e : edge < width = all 0 edge (omega arith) in
      let inside : at * width + edge < length ends = subst (λ n. at * width + edge < n) (sym are.many) (place-within nodes width at edge l e) in
      unmarked-along marks nodes are done path (end_of width ends at edge) (are.each (at * width + edge) 0 inside) (λ k d m. all (suc k) d (omega arith)) (done at l h edge e)

  pub reach-marked : (marks news : List Bool) (nodes : ℕ) → AreEdges width ends nodes
      → ((i : ℕ) → get_or marks i false ≡ true → get_or news i false ≡ true)
      → ((i : ℕ) → i < nodes → get_or news i false ≡ false → NoneMarked width ends news i)
      → (at : ℕ) → at < nodes → CanReach width ends marks at → get_or news at false ≡ true
  reach-marked marks news nodes are kept done at l r = by (get_or news at false) refl
    where
      by : (b : Bool) → get_or news at false ≡ b → get_or news at false ≡ true
      by true e = e
      by false e = absurd (true≢false (sym (kept (walked width ends at r.path) r.marked) ∙ unmarked-along news nodes are done r.path at l r.edges e))

-- a mark more is one fewer that isn't
pub fewer-set : (marks : List Bool) (at : ℕ) → at < length marks → get_or marks at false ≡ false → count_by not (set marks at true) < count_by not marks
fewer-set marks at l h =
    let count : Bool → ℕ = λ b. cond (not b) 1 0 in
    let one : count (get_or marks at false) ≡ count false = ap count h in
    omega (arith, sum_by-set count marks at true false l, one)

-- what a mark more changes: where a node leads to a mark
module _ (width : ℕ) (ends : List ℕ) (old marks : List Bool) (at : ℕ) (within : at < length marks) where
  pub sound-set : ((i : ℕ) → get_or marks i false ≡ true → CanReach width ends old i) → CanReach width ends marks at → (i : ℕ) → get_or (set marks at true) i false ≡ true → CanReach width ends old i
  sound-set sound reach i h = by (cases_eq i at)
    where
      by : (i ≡ at) ⊎ (i ≡ at → ⊥) → CanReach width ends old i
      by (inl e) = subst (CanReach width ends old) (sym e) (reach-trans width ends old marks sound at reach)
      by (inr apart) = sound i (sym (get_or-set_other marks at i true false apart) ∙ h)

  pub kept-set : (i : ℕ) → get_or marks i false ≡ true → get_or (set marks at true) i false ≡ true
  kept-set i h = by (cases_eq i at)
    where
      by : (i ≡ at) ⊎ (i ≡ at → ⊥) → get_or (set marks at true) i false ≡ true
      by (inl e) = ap (λ n. get_or (set marks at true) n false) e ∙ get_or-set_same marks at true false within
      by (inr apart) = get_or-set_other marks at i true false apart ∙ h
