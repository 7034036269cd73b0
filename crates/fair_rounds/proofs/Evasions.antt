-- From what a search found to rounds that pass a goal, or choices that evade the goals.
use Rattle.std.proofs.Common.{◌≡◌, ℕ, ◌+◌, ◌-◌, ◌<◌, ◌≤◌, ◌⊎◌, inl, inr, Bool, true, false, List, ◌++◌, length, All, Some, slice_get, refl, sym, ap, ◌∙◌, subst, arith}
use Rattle.std.proofs.lemmas.Bool.{cases_lt}
use Rattle.std.proofs.lemmas.List.Elements.{All-append}
use Rattle.reaches_back.specs.Edges.{end_of, walked, AreEdges}
use Rattle.fair_rounds.specs.declared.breadth.Found.{Found}
use Rattle.fair_rounds.specs.Rounds.{after, IsLasso, AlwaysComes, IsEarlier, IsEvasion, IsShortest}
use Rattle.fair_rounds.specs.Table.{is_marked, IsLoop, walled, is_wanted, doubled, wanting_end, wanting}
use Rattle.fair_rounds.specs.Search.{IsSearched, IsWay}
use Rattle.fair_rounds.specs.Loops.{NoneFrom, OneFrom, IsFirstCaught}
use Rattle.fair_rounds.proofs.Places.{some-at}
use Rattle.fair_rounds.proofs.Passing.{after-append, passes-front, passes-back, passes-both, passes-end, All-front, All-back}
use Rattle.fair_rounds.proofs.Lassos.{lasso-evades}
use Rattle.fair_rounds.proofs.Edges.{after-inside}
use Rattle.fair_rounds.proofs.Counting.{must-within}
use Rattle.fair_rounds.proofs.Walls.{loop-walled, walled-passes, walled-back}
use Rattle.fair_rounds.proofs.Wanting.{wants, IsWanted, doubled-far, wanting-walk, wanted-sound, wanted-all}

module _ (width : ℕ) (ends : List ℕ) (goals firsts : List Bool) (start : ℕ) (are : AreEdges width ends (length goals)) (within : start < length goals)
    (found : List Found) (searched : IsSearched width (wanting ends goals firsts) (length goals + length goals) (wanting_end goals firsts false start) found) where
  -- a lasso behind a first node ends at a node whose double was found
  pub record IsMet (path cycle : List ℕ) : Type 0 where
    pub place : ℕ
    pub entry : Found
    pub there : slice_get found place ≡ Some entry
    pub near : entry.depth ≤ length path
    pub is : entry.node ≡ walked width (wanting ends goals firsts) (wanting_end goals firsts false start) path
    pub one : OneFrom width (walled width ends goals) (length goals) entry.node cycle

  pub lasso-met : (stem rest cycle : List ℕ) → All (λ c. c < width) stem → is_marked firsts (after (end_of width ends) start stem) ≡ true
      → IsLasso (end_of width ends) (is_marked goals) width (after (end_of width ends) start stem) rest cycle → IsMet (stem ++ rest) cycle
  lasso-met stem rest cycle choices begins lasso =
      let next = end_of width ends in
      let all = All-append (λ c. c < width) stem rest choices lasso.choices in
      let f = searched.all (stem ++ rest) all in
      let middle = after next start stem in
      let last = after next middle rest in
      let a : middle < length goals = after-inside width ends (length goals) are start stem within choices in
      let b : last < length goals = after-inside width ends (length goals) are middle rest a lasso.choices in
      let wanted = wanted-all width ends goals firsts start stem rest begins (passes-front next (is_marked goals) middle rest cycle lasso.never) in
      let node : f.entry.node ≡ length goals + last =
      f.is ∙ wanting-walk width ends goals firsts are (is_wanted goals firsts false start) start (stem ++ rest) within all
      ∙ ap (λ w. doubled (length goals) w (after next start (stem ++ rest))) wanted
      ∙ ap (λ n. length goals + n) (after-append next start stem rest) in
      let loop = loop-walled width ends goals are last cycle b lasso.round (passes-back next (is_marked goals) middle rest cycle lasso.never) lasso.back in
      let same : last ≡ f.entry.node - length goals = omega (arith, node) in
      record {
        place = f.at;
        entry = f.entry;
        there = f.there;
        near = f.depth;
        is = f.is;
        one = (omega (arith, node), subst (λ n. IsLoop width (walled width ends goals) n cycle) same loop);
      }

  -- where none was found, a goal comes
  pub none-comes : ((i : ℕ) (f : Found) → slice_get found i ≡ Some f → NoneFrom width (walled width ends goals) (length goals) f.node)
      → AlwaysComes (end_of width ends) (is_marked goals) width (is_marked firsts) start (length goals)
  none-comes none stem choices begins =
      must-within width ends (is_marked goals) (length goals) are (after (end_of width ends) start stem) (after-inside width ends (length goals) are start stem within choices)
      (λ rest cycle lasso. (let met = lasso-met stem rest cycle choices begins lasso in none met.place met.entry met.there met.one.0 cycle met.one.1))

  module _ (place : ℕ) (cycle path : List ℕ) (caught : IsFirstCaught width (walled width ends goals) (length goals) found place cycle)
      (way : IsWay width (wanting ends goals firsts) found 0 place path) where
    head : (f : Found) × (slice_get found 0 ≡ Some f)
    head = some-at found 0 searched.tree.some

    long : length path ≡ caught.entry.depth
    long = omega (arith, way.long head.0 caught.entry head.1 caught.there, searched.tree.first head.0 head.1)

    node : doubled (length goals) (wants width ends goals firsts (is_wanted goals firsts false start) start path) (after (end_of width ends) start path) ≡ caught.entry.node
    node = sym (wanting-walk width ends goals firsts are (is_wanted goals firsts false start) start path within way.choices)
        ∙ ap (λ n. walked width (wanting ends goals firsts) n path) (sym (searched.start head.0 head.1)) ∙ way.leads head.0 caught.entry head.1 caught.there

    inside : after (end_of width ends) start path < length goals
    inside = after-inside width ends (length goals) are start path within way.choices

    wanted : wants width ends goals firsts (is_wanted goals firsts false start) start path ≡ true
    wanted = doubled-far (length goals) (wants width ends goals firsts (is_wanted goals firsts false start) start path) (after (end_of width ends) start path) inside
        (subst (λ n. length goals ≤ n) (sym node) caught.one.0)

    since : IsWanted width ends goals firsts start path
    since = wanted-sound width ends goals firsts start path wanted

    -- the node at the end of the path, by both its parts
    last : after (end_of width ends) (after (end_of width ends) start since.stem) since.rest ≡ caught.entry.node - length goals
    last =
        let one : length goals + after (end_of width ends) start path ≡ caught.entry.node =
        ap (λ w. doubled (length goals) w (after (end_of width ends) start path)) (sym wanted) ∙ node in
        sym (after-append (end_of width ends) start since.stem since.rest) ∙ ap (after (end_of width ends) start) (sym since.parts) ∙ omega (arith, one)

    ends-inside : after (end_of width ends) (after (end_of width ends) start since.stem) since.rest < length goals
    ends-inside = subst (λ n. n < length goals) (ap (after (end_of width ends) start) since.parts ∙ after-append (end_of width ends) start since.stem since.rest) inside

    looping : IsLoop width (walled width ends goals) (after (end_of width ends) (after (end_of width ends) start since.stem) since.rest) cycle
    looping = subst (λ n. IsLoop width (walled width ends goals) n cycle) (sym last) caught.one.1

    free : is_marked goals (after (end_of width ends) (after (end_of width ends) start since.stem) since.rest) ≡ false
    free = passes-end (end_of width ends) (is_marked goals) (after (end_of width ends) start since.stem) since.rest since.never

    lasso : IsLasso (end_of width ends) (is_marked goals) width (after (end_of width ends) start since.stem) since.rest cycle
    lasso = record {
      choices = All-back (λ c. c < width) since.stem since.rest (subst (All (λ c. c < width)) since.parts way.choices);
      round = looping.round;
      back = walled-back width ends goals are (after (end_of width ends) (after (end_of width ends) start since.stem) since.rest) cycle ends-inside free looping;
      never = passes-both (end_of width ends) (is_marked goals) (after (end_of width ends) start since.stem) since.rest cycle since.never
          (walled-passes width ends goals are (after (end_of width ends) (after (end_of width ends) start since.stem) since.rest) cycle ends-inside free looping);
    }

    shortest : (other round : List ℕ) → IsEvasion (end_of width ends) (is_marked goals) width (is_marked firsts) start other round → length path ≤ length other
    shortest other round e =
        let met = lasso-met e.stem e.rest round e.choices e.begins e.lasso in
        by met (cases_lt met.place place)
      where
        by : (met : IsMet (e.stem ++ e.rest) round) → (met.place < place) ⊎ (place ≤ met.place) → length path ≤ length other
        by met (inl l) = absurd (caught.before met.place met.entry l met.there met.one.0 round met.one.1)
        by met (inr l) = omega (arith, long, searched.order place met.place caught.entry met.entry l caught.there met.there, met.near, ap length e.parts)

    earliest : (other round : List ℕ) → IsEvasion (end_of width ends) (is_marked goals) width (is_marked firsts) start other round → length other ≡ length path → IsEarlier other path → ⊥
    earliest other round e as-long earlier =
        let met = lasso-met e.stem e.rest round e.choices e.begins e.lasso in
        let all : All (λ c. c < width) other = subst (All (λ c. c < width)) (sym e.parts) (All-append (λ c. c < width) e.stem e.rest e.choices e.lasso.choices) in
        let y = way.earliest 0 head.0 head.1 other all as-long (inr (refl, earlier)) in
        let same : y.entry.node ≡ met.entry.node =
        y.is ∙ ap (λ n. walked width (wanting ends goals firsts) n other) (searched.start head.0 head.1)
        ∙ ap (walked width (wanting ends goals firsts) (wanting_end goals firsts false start)) e.parts ∙ sym met.is in
        let one = subst (λ n. OneFrom width (walled width ends goals) (length goals) n round) (sym same) met.one in
        caught.before y.at y.entry y.before y.there one.0 round one.1

    -- the first that was found is a shortest evasion
    pub one-evades : IsShortest (end_of width ends) (is_marked goals) width (is_marked firsts) start path cycle
    one-evades = record {
      evasion = record {
        stem = since.stem;
        rest = since.rest;
        parts = since.parts;
        choices = All-front (λ c. c < width) since.stem since.rest (subst (All (λ c. c < width)) since.parts way.choices);
        begins = since.begins;
        lasso = lasso;
        evades = lasso-evades (end_of width ends) (is_marked goals) width (after (end_of width ends) start since.stem) since.rest cycle lasso;
      };
      shortest = shortest;
      earliest = earliest;
    }
