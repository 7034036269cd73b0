-- Marks that go back along edges.
use Rattle.std.proofs.Common.{◌≡◌, ℕ, ◌+◌, ◌*◌, ◌/◌, ◌%◌, ◌<◌, ◌⊎◌, inl, inr, true, false, Bool, List, [], ◌∷◌, ◌++◌, length, set, sym, ap, ◌∙◌, subst, arith}
use Rattle.std.proofs.lemmas.Bool.{cases_eq}
use Rattle.std.proofs.lemmas.List.{get_or-set_same, get_or-set_other}
use Rattle.std.proofs.lemmas.List.Elements.{All-append, All-cons, All-nil, All-weaker, All-push}
use Rattle.reaches_back.specs.Edges.{end_of, walked, CanReach}
use Rattle.fair_rounds.specs.Table.{is_marked}
use Rattle.fair_rounds.specs.Loops.{AreMarkedNodes}
use Rattle.fair_rounds.proofs.Edges.{walked-append}

module _ (width : ℕ) (ends : List ℕ) where
  -- a marked node reaches itself
  pub reaches-here : (marks : List Bool) (at : ℕ) → is_marked marks at ≡ true → CanReach width ends marks at
  reaches-here marks at h = record { path = []; edges = All-nil (λ c. c < width); marked = h }

  -- what reaches nodes that reach marks reaches marks
  pub reaches-on : (marks news : List Bool) → ((i : ℕ) → is_marked news i ≡ true → CanReach width ends marks i) → (at : ℕ) → CanReach width ends news at → CanReach width ends marks at
  reaches-on marks news sound at r =
      let on = sound (walked width ends at r.path) r.marked in
      record {
        path = r.path ++ on.path;
        edges = All-append (λ c. c < width) r.path on.path r.edges on.edges;
        marked = ap (is_marked marks) (walked-append width ends at r.path on.path) ∙ on.marked;
      }

  -- an edge to a marked node
  pub reaches-edge : (marks : List Bool) (at choice node : ℕ) → choice < width → end_of width ends at choice ≡ node → is_marked marks node ≡ true → CanReach width ends marks at
  reaches-edge marks at choice node l leads h = record { path = choice ∷ []; edges = All-cons (λ c. c < width) choice [] l (All-nil (λ c. c < width)); marked = ap (is_marked marks) leads ∙ h }

  pub sound-more : (old marks : List Bool) (at : ℕ) → ((i : ℕ) → is_marked marks i ≡ true → CanReach width ends old i) → CanReach width ends old at
      → (i : ℕ) → is_marked (set marks at true) i ≡ true → CanReach width ends old i
  sound-more old marks at sound here i h = by (cases_eq i at)
    where
      by : (i ≡ at) ⊎ (i ≡ at → ⊥) → CanReach width ends old i
      by (inl e) = subst (CanReach width ends old) (sym e) here
      by (inr apart) = sound i (sym (get_or-set_other marks at i true false apart) ∙ h)

pub kept-more : (marks : List Bool) (at : ℕ) → at < length marks → (i : ℕ) → is_marked marks i ≡ true → is_marked (set marks at true) i ≡ true
kept-more marks at l i h = by (cases_eq i at)
  where
    by : (i ≡ at) ⊎ (i ≡ at → ⊥) → is_marked (set marks at true) i ≡ true
    by (inl e) = ap (is_marked (set marks at true)) e ∙ get_or-set_same marks at true false l
    by (inr apart) = get_or-set_other marks at i true false apart ∙ h

-- one marked node more
pub listed-more : (marks : List Bool) (list : List ℕ) (at : ℕ) → at < length marks → AreMarkedNodes marks list → AreMarkedNodes (set marks at true) (list ++ at ∷ [])
listed-more marks list at l all =
    All-push (λ n. is_marked (set marks at true) n ≡ true) list at
    (All-weaker (λ n. is_marked marks n ≡ true) (λ n. is_marked (set marks at true) n ≡ true) (λ n h. kept-more marks at l n h) list all)
    (get_or-set_same marks at true false l)

-- an edge by its node and choice
pub edge-place : (x n : ℕ) → 0 < n → (x / n) * n + x % n ≡ x
edge-place x n l = omega arith

pub edge-choice : (x n : ℕ) → 0 < n → x % n < n
edge-choice x n l = omega arith

-- marks that were added to others: sound, with those, and listed
pub record IsFlooding (width : ℕ) (ends : List ℕ) (old marks : List Bool) (list : List ℕ) : Type 0 where
  pub sound : (i : ℕ) → is_marked marks i ≡ true → CanReach width ends old i
  pub kept : (i : ℕ) → is_marked old i ≡ true → is_marked marks i ≡ true
  pub listed : AreMarkedNodes marks list

pub flooding-more : (width : ℕ) (ends : List ℕ) (old marks : List Bool) (list : List ℕ) → IsFlooding width ends old marks list → (at : ℕ) → at < length marks → CanReach width ends old at
    → IsFlooding width ends old (set marks at true) (list ++ at ∷ [])
flooding-more width ends old marks list is at l here = record {
  sound = sound-more width ends old marks at is.sound here;
  kept = λ i h. kept-more marks at l i (is.kept i h);
  listed = listed-more marks list at l is.listed;
}
