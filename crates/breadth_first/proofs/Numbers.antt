-- Edges by numbers, and the choices that they stand for.
use Rattle.std.proofs.Common.{◌≡◌, ℕ, zero, suc, ◌+◌, ◌*◌, ◌/◌, ◌%◌, ◌<◌, Bool, true, false, List, [], ◌∷◌, length, map, slice_get, get_or, Option, Some, None, IfSome, sym, ◌∙◌, subst, arith, true≢false}
use Rattle.std.proofs.lemmas.Option.{slice_get_within, get_or_from_slice_get, same_Some}
use Rattle.reaches_back.specs.Edges.{walked, end_of, CanReach, AreEdges as AreNumbered}
use Rattle.breadth_first.specs.System.{System}
use Rattle.breadth_first.specs.Paths.{after, AreChoices, CanCome}
use Rattle.breadth_first.specs.Progress.{AreEdges, IsFirstMark, IsFirstStuck, IsFirstUnreached}
use Rattle.breadth_first.proofs.Fronts.{slice_get-some}
use Rattle.breadth_first.proofs.Endings.{All-from}
use Rattle.breadth_first.proofs.Counts.{mark-of, marks-many}

-- the first mark that isn't set, once marks went backwards
pub first-unreached : (width : ℕ) (ends : List ℕ) (marks reached : List Bool) → length reached ≡ length marks
    → ((at : ℕ) → at < length marks → (get_or reached at false ≡ true → CanReach width ends marks at) × (CanReach width ends marks at → get_or reached at false ≡ true))
    → (first : Option ℕ) → IsFirstMark reached false first → IsFirstUnreached width ends marks first
first-unreached width ends marks reached many says None none = λ at l. (says at l).0 (none at (omega (arith, many, l)))
first-unreached width ends marks reached many says (Some i) (l, here, before) =
    let inside : i < length marks = omega (arith, many, l) in
    (inside, (λ r. true≢false (sym ((says i inside).1 r) ∙ here)), (λ k m. (says k (omega (arith, m, inside))).0 (before k m)))

-- it is one of them
pub unreached-within : (width : ℕ) (ends : List ℕ) (marks : List Bool) (first : Option ℕ) → IsFirstUnreached width ends marks first → (n : ℕ) → length marks ≡ n → IfSome first (λ i. i < n)
unreached-within width ends marks None is n many = tt
unreached-within width ends marks (Some i) is n many = omega (arith, is.0, many)

module _ {S : Type 0} (g : System S) (states : List S) (ends : List ℕ) (are : AreEdges g states (length states * g.choices) ends) where
  -- the edge of a choice ends where the choice leads
  pub edge-ends : (at choice : ℕ) (s : S) → slice_get states at ≡ Some s → choice < g.choices → slice_get states (end_of g.choices ends at choice) ≡ Some (g.next s choice)
  edge-ends at choice s there l =
      let inside : at * g.choices + choice < length states * g.choices = place-in (length states) g.choices at choice (slice_get_within states at s there) l in
      let e = are.each at choice l inside in
      let same : e.state ≡ s = same_Some e.state s (sym e.from ∙ there) in
      let end : end_of g.choices ends at choice ≡ e.end = get_or_from_slice_get ends (at * g.choices + choice) e.end 0 e.told in
      subst (λ n. slice_get states n ≡ Some (g.next s choice)) (sym end) (subst (λ r. slice_get states e.end ≡ Some (g.next r choice)) same e.to)
    where
      place-in : (nodes width a c : ℕ) → a < nodes → c < width → a * width + c < nodes * width
      place-in nodes width a c m k = grind arith

  -- and so does a list of them
  walked-after : (path : List ℕ) (at : ℕ) (s : S) → slice_get states at ≡ Some s → AreChoices g path → slice_get states (walked g.choices ends at path) ≡ Some (after g s path)
  walked-after [] at s there all = there
  walked-after (choice ∷ path) at s there all =
      walked-after path (end_of g.choices ends at choice) (g.next s choice) (edge-ends at choice s there (all 0 choice (omega arith))) (λ k d l. all (suc k) d (omega arith))

  module _ (t : ℕ) (marks : List Bool) (is : marks ≡ map (g.test t) states) where
    -- what reaches a mark can come to a state that passes
    pub come-from_reach : (at : ℕ) (s : S) → slice_get states at ≡ Some s → CanReach g.choices ends marks at → CanCome g t s
    come-from_reach at s there r =
        (r.path, r.edges, sym (mark-of (g.test t) states marks is (walked g.choices ends at r.path) (after g s r.path) (walked-after r.path at s there r.edges)) ∙ r.marked)

    pub reach-from_come : (at : ℕ) (s : S) → slice_get states at ≡ Some s → CanCome g t s → CanReach g.choices ends marks at
    reach-from_come at s there (path, all, passes) =
        record { path = path; edges = all; marked = mark-of (g.test t) states marks is (walked g.choices ends at path) (after g s path) (walked-after path at s there all) ∙ passes }

    -- the first that reaches none
    pub first-stuck : (first : Option ℕ) → IsFirstUnreached g.choices ends marks first → IsFirstStuck g states t first
    first-stuck None all = All-from (CanCome g t) states (λ i s at. come-from_reach i s at (all i (omega (arith, slice_get_within states i s at, marks-many (g.test t) states marks is))))
    first-stuck (Some i) (l, none, before) =
        let place = slice_get-some states i (omega (arith, l, marks-many (g.test t) states marks is)) in
        (place.0, place.1, (λ come. none (reach-from_come i place.0 place.1 come)), (λ j s m at. come-from_reach j s at (before j m)))

  -- edges as they are numbered
  pub numbered : AreNumbered g.choices ends (length states)
  numbered = record { many = are.many; each = λ k d l. each k d (omega (arith, l, are.many)) }
    where
      positive : (n w k : ℕ) → k < n * w → 0 < w
      positive n zero k l = absurd (omega arith)
      positive n (suc w) k l = omega arith

      each : (k d : ℕ) → k < length states * g.choices → get_or ends k d < length states
      each k d l =
          let some : 0 < g.choices = positive (length states) g.choices k l in
          let sum : (k / g.choices) * g.choices + k % g.choices ≡ k = omega arith in
          let rest : k % g.choices < g.choices = omega arith in
          let e = are.each (k / g.choices) (k % g.choices) rest (omega (arith, l, sum)) in
          let told : slice_get ends k ≡ Some e.end = subst (λ n. slice_get ends n ≡ Some e.end) sum e.told in
          let is : get_or ends k d ≡ e.end = get_or_from_slice_get ends k e.end d told in
          omega (arith, is, slice_get_within states e.end (g.next e.state (k % g.choices)) e.to)
