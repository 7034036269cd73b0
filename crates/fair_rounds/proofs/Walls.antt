-- A table with goals as walls: it leads where no goal is passed, and else behind the last node.
use Rattle.std.proofs.Common.{◌≡◌, ℕ, suc, ◌+◌, ◌*◌, ◌<◌, Bool, true, false, cond, List, [], ◌∷◌, length, map, get_or, replicate, All, refl, sym, ap, ◌∙◌, arith, length-append}
use Rattle.std.proofs.lemmas.List.{get_or_append_left, get_or-append-add, get_or-map, get_or-replicate, length-map, length-replicate}
use Rattle.std.proofs.lemmas.List.Elements.{All-append, All-map, All-replicate, All-weaker}
use Rattle.reaches_back.specs.Edges.{end_of, walked, AreEdges}
use Rattle.fair_rounds.specs.Rounds.{IsRound, after, passes}
use Rattle.fair_rounds.specs.Table.{is_marked, IsLoop, walled_end, walled}
use Rattle.fair_rounds.proofs.Passing.{passes-here, passes-next, passes-cons}
use Rattle.fair_rounds.proofs.Edges.{place-inside, end-inside}

module _ (width : ℕ) (ends : List ℕ) (goals : List Bool) (are : AreEdges width ends (length goals)) where
  wall-end : (at c : ℕ) → at < length goals → c < width → end_of width (walled width ends goals) at c ≡ walled_end goals (end_of width ends at c)
  wall-end at c a l =
      let inside = place-inside width ends (length goals) are at c a l in
      get_or_append_left (map (walled_end goals) ends) (replicate width (length goals)) 0 (at * width + c) (omega (arith, inside, length-map ends (walled_end goals)))
      ∙ get_or-map (walled_end goals) ends (at * width + c) 0 0 inside

  behind-end : (c : ℕ) → c < width → end_of width (walled width ends goals) (length goals) c ≡ length goals
  behind-end c l =
      let long : length (map (walled_end goals) ends) ≡ length goals * width = length-map ends (walled_end goals) ∙ are.many in
      ap (λ n. get_or (walled width ends goals) (n + c) 0) (sym long)
      ∙ get_or-append-add (map (walled_end goals) ends) (replicate width (length goals)) c 0
      ∙ get_or-replicate width c (length goals) 0 l

  behind-walk : (path : List ℕ) → All (λ c. c < width) path → walked width (walled width ends goals) (length goals) path ≡ length goals
  behind-walk [] all = refl
  behind-walk (c ∷ path) all =
      ap (λ n. walked width (walled width ends goals) n path) (behind-end c (all 0 c (omega arith)))
      ∙ behind-walk path (λ k d m. all (suc k) d (omega arith))

  open-walk : (at : ℕ) (path : List ℕ) → at < length goals → All (λ c. c < width) path → passes (end_of width ends) (is_marked goals) at path ≡ false
      → walked width (walled width ends goals) at path ≡ after (end_of width ends) at path
  open-walk at [] a all never = refl
  open-walk at (c ∷ path) a all never =
      let l = all 0 c (omega arith) in
      let on = passes-next (end_of width ends) (is_marked goals) at c path never in
      let no_goal = passes-here (end_of width ends) (is_marked goals) (end_of width ends at c) path on in
      let same : end_of width (walled width ends goals) at c ≡ end_of width ends at c =
      wall-end at c a l ∙ ap (λ b. cond b (length goals) (end_of width ends at c)) no_goal in
      ap (λ n. walked width (walled width ends goals) n path) same
      ∙ open-walk (end_of width ends at c) path (end-inside width ends (length goals) are at c a l) (λ k d m. all (suc k) d (omega arith)) on

  -- what leads to another node than the one behind the last passes no goal
  open-back : (at : ℕ) (path : List ℕ) → at < length goals → is_marked goals at ≡ false → All (λ c. c < width) path → (walked width (walled width ends goals) at path ≡ length goals → ⊥)
      → passes (end_of width ends) (is_marked goals) at path ≡ false
  open-back at [] a no_goal all apart = no_goal
  open-back at (c ∷ path) a no_goal all apart =
      let l = all 0 c (omega arith) in
      let rest : All (λ e. e < width) path = λ k d m. all (suc k) d (omega arith) in
      let end = end_of width ends at c in
      let is : end_of width (walled width ends goals) at c ≡ walled_end goals end = wall-end at c a l in
      let free = not-wall path rest end (is_marked goals end) refl (λ e. apart (ap (λ n. walked width (walled width ends goals) n path) is ∙ e)) in
      passes-cons (end_of width ends) (is_marked goals) at c path no_goal
      (open-back end path (end-inside width ends (length goals) are at c a l) free rest
      (λ e. apart (ap (λ n. walked width (walled width ends goals) n path) (is ∙ ap (λ b. cond b (length goals) end) free) ∙ e)))
    where
      not-wall : (path : List ℕ) → All (λ e. e < width) path → (end : ℕ) (b : Bool) → is_marked goals end ≡ b → (walked width (walled width ends goals) (walled_end goals end) path ≡ length goals → ⊥) → is_marked goals end ≡ false
      not-wall path all end true e apart = absurd (apart (ap (λ b. walked width (walled width ends goals) (cond b (length goals) end) path) e ∙ behind-walk path all))
      not-wall path all end false e apart = e

  -- a way round that passes no goal is a loop of the table
  pub loop-walled : (at : ℕ) (cycle : List ℕ) → at < length goals → IsRound width cycle → passes (end_of width ends) (is_marked goals) at cycle ≡ false → after (end_of width ends) at cycle ≡ at
      → IsLoop width (walled width ends goals) at cycle
  loop-walled at cycle a round never back = record { round = round; back = open-walk at cycle a round.choices never ∙ back }

  -- and each loop of the table is one
  pub walled-passes : (at : ℕ) (cycle : List ℕ) → at < length goals → is_marked goals at ≡ false → IsLoop width (walled width ends goals) at cycle → passes (end_of width ends) (is_marked goals) at cycle ≡ false
  walled-passes at cycle a no_goal loop = open-back at cycle a no_goal loop.round.choices (λ e. absurd (omega (arith, a, sym loop.back ∙ e)))

  pub walled-back : (at : ℕ) (cycle : List ℕ) → at < length goals → is_marked goals at ≡ false → IsLoop width (walled width ends goals) at cycle → after (end_of width ends) at cycle ≡ at
  walled-back at cycle a no_goal loop = sym (open-walk at cycle a loop.round.choices (walled-passes at cycle a no_goal loop)) ∙ loop.back

  -- there are edges for one node more
  pub walled-edges : AreEdges width (walled width ends goals) (length goals + 1)
  walled-edges = record {
    many = omega (arith, length-append (map (walled_end goals) ends) (replicate width (length goals)), length-map ends (walled_end goals), are.many, length-replicate width (length goals));
    each = All-append (λ at. at < length goals + 1) (map (walled_end goals) ends) (replicate width (length goals))
        (All-map (λ at. at < length goals + 1) (walled_end goals) ends (All-weaker (λ at. at < length goals) (λ at. walled_end goals at < length goals + 1) (λ at l. small (is_marked goals at) at l) ends are.each))
        (All-replicate (λ at. at < length goals + 1) width (length goals) (omega arith));
  }
    where
      small : (b : Bool) (at : ℕ) → at < length goals → cond b (length goals) at < length goals + 1
      small true at l = omega arith
      small false at l = omega arith
