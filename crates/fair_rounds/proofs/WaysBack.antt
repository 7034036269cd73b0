-- Ways by those found.
use Rattle.std.proofs.Common.{◌≡◌, ℕ, suc, ◌<◌, ◌⊎◌, inl, inr, List, [], ◌∷◌, length, All, Some, slice_get, refl, sym, ap, ◌∙◌, subst, arith}
use Rattle.std.proofs.lemmas.List.Elements.{All-cons, All-nil}
use Rattle.std.proofs.lemmas.Option.{same_Some}
use Rattle.reaches_back.specs.Edges.{end_of, walked}
use Rattle.fair_rounds.specs.declared.breadth.Found.{Found}
use Rattle.fair_rounds.specs.Search.{AreEarlier, IsChild, IsFoundBefore, IsTree, IsWay, IsSearched}
use Rattle.fair_rounds.specs.Rounds.{IsEarlier}
use Rattle.fair_rounds.proofs.Places.{some-at}

module _ (width : ℕ) (ends : List ℕ) where
  pub tree-earlier : (found : List Found) → IsTree width ends found → AreEarlier found
  tree-earlier found tree i f l h = (tree.each i f l h).earlier

  pub way-none : (found : List Found) (to : ℕ) → IsWay width ends found to to []
  way-none found to = record {
    choices = All-nil (λ c. c < width);
    leads = λ a b h k. ap (λ (f : Found). f.node) (same_Some a b (sym h ∙ k));
    long = λ a b h k. (let same : a.depth ≡ b.depth = ap (λ (f : Found). f.depth) (same_Some a b (sym h ∙ k)) in omega (arith, same));
    earliest = earliest;
  }
    where
      earliest : (j : ℕ) (f : Found) → slice_get found j ≡ Some f → (other : List ℕ) → All (λ c. c < width) other → length other ≡ 0 → (j < to) ⊎ ((j ≡ to) × IsEarlier other [])
          → IsFoundBefore found (walked width ends f.node other) to
      earliest j f h [] all long (inl l) = record { at = j; before = l; entry = f; there = h; is = refl }
      earliest j f h [] all long (inr e) = absurd e.1
      earliest j f h (d ∷ other) all long before = absurd (omega (arith, long))

  -- one edge farther back
  pub way-back : (found : List Found) → IsTree width ends found → (at to : ℕ) (entry : Found) → 0 < at → slice_get found at ≡ Some entry → (path : List ℕ) → IsWay width ends found at to path
      → IsWay width ends found entry.parent to (entry.choice ∷ path)
  way-back found tree at to entry l there path way =
      let child = tree.each at entry l there in
      record {
        choices = All-cons (λ c. c < width) entry.choice path child.choice way.choices;
        leads = λ a b h k. (let same : child.parent ≡ a = same_Some child.parent a (sym child.there ∙ h) in
            ap (λ n. walked width ends n path) (ap (λ (f : Found). end_of width ends f.node entry.choice) (sym same) ∙ child.leads) ∙ way.leads entry b there k);
        long = λ a b h k. (let same : child.parent.depth ≡ a.depth = ap (λ (f : Found). f.depth) (same_Some child.parent a (sym child.there ∙ h)) in
            omega (arith, way.long entry b there k, child.depth, same));
        earliest = earliest;
      }
    where
      earliest : (j : ℕ) (f : Found) → slice_get found j ≡ Some f → (other : List ℕ) → All (λ c. c < width) other → length other ≡ length (entry.choice ∷ path)
          → (j < entry.parent) ⊎ ((j ≡ entry.parent) × IsEarlier other (entry.choice ∷ path)) → IsFoundBefore found (walked width ends f.node other) to
      earliest j f h [] all long before = absurd (omega (arith, long))
      earliest j f h (d ∷ other) all long before = by before
        where
          child : IsChild width ends found at entry
          child = tree.each at entry l there

          rest : All (λ c. c < width) other
          rest k e m = all (suc k) e (omega arith)

          as-long : length other ≡ length path
          as-long = omega (arith, long)

          on : IsFoundBefore found (end_of width ends f.node d) at → IsFoundBefore found (walked width ends (end_of width ends f.node d) other) to
          on y = subst (λ n. IsFoundBefore found (walked width ends n other) to) y.is (way.earliest y.at y.entry y.there other rest as-long (inl y.before))

          by : (j < entry.parent) ⊎ ((j ≡ entry.parent) × IsEarlier (d ∷ other) (entry.choice ∷ path)) → IsFoundBefore found (walked width ends f.node (d ∷ other)) to
          by (inl m) = on (child.turn j f h d (all 0 d (omega arith)) (inl m))
          by (inr e) = last e.1
            where
              last : (d < entry.choice) ⊎ ((d ≡ entry.choice) × IsEarlier other path) → IsFoundBefore found (walked width ends f.node (d ∷ other)) to
              last (inl m) = on (child.turn j f h d (all 0 d (omega arith)) (inr (e.0, m)))
              last (inr r) =
                  let same : child.parent ≡ f = same_Some child.parent f (sym child.there ∙ ap (slice_get found) (sym e.0) ∙ h) in
                  let leads : end_of width ends f.node d ≡ entry.node = ap (end_of width ends f.node) r.0 ∙ ap (λ (g : Found). end_of width ends g.node entry.choice) (sym same) ∙ child.leads in
                  subst (λ n. IsFoundBefore found (walked width ends n other) to) (sym leads) (way.earliest at entry there other rest as-long (inr (refl, r.1)))

  -- the way to one that was found
  pub way-found : (nodes from : ℕ) (found : List Found) → IsSearched width ends nodes from found → (place : ℕ) (entry : Found) → slice_get found place ≡ Some entry
      → (path : List ℕ) → IsWay width ends found 0 place path → walked width ends from path ≡ entry.node
  way-found nodes from found searched place entry there path way =
      let head = some-at found 0 searched.tree.some in
      ap (λ n. walked width ends n path) (sym (searched.start head.0 head.1)) ∙ way.leads head.0 entry head.1 there
