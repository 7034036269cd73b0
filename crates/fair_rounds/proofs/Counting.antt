-- Rounds that pass no goal come to one state twice, if there are as many as states: a lasso.
use Rattle.std.proofs.Common.{◌≡◌, ℕ, zero, suc, ◌+◌, ◌<◌, ◌≤◌, ◌⊎◌, inl, inr, Bool, true, false, not, List, [], ◌∷◌, ◌++◌, length, get_or, set, replicate, All, count_by, refl, sym, ap, ◌∙◌, subst, arith, append_assoc, length-set, true≢false}
use Rattle.std.proofs.lemmas.List.{get_or-set_other, length-replicate}
use Rattle.std.proofs.lemmas.List.Elements.{All-head, All-tail, All-append, All-nil}
use Rattle.std.proofs.lemmas.Bool.{cases_eq}
use Rattle.std.specs.List.{concat}
use Rattle.reaches_back.specs.Edges.{end_of, AreEdges}
use Rattle.fair_rounds.specs.Rounds.{IsRound, after, passes, MustWithin, IsLasso}
use Rattle.fair_rounds.proofs.Passing.{after-append, passes-front, round-more, All-front}
use Rattle.fair_rounds.proofs.Edges.{walked-after, walked-inside}
use Rattle.fair_rounds.proofs.Spreading.{count-set, count-none}

unmarked : (n i : ℕ) → get_or (replicate n false) i false ≡ false
unmarked zero i = refl
unmarked (suc n) zero = refl
unmarked (suc n) (suc i) = unmarked n i

module _ (width : ℕ) (ends : List ℕ) (goal : ℕ → Bool) (nodes : ℕ) (are : AreEdges width ends nodes) (start : ℕ) (inside : start < nodes)
    (free : (path cycle : List ℕ) → IsLasso (end_of width ends) goal width start path cycle → ⊥) where
  -- a state that was passed: rounds led from it to where the path has come
  record WasPassed (before : List ℕ) (v : ℕ) : Type 0 where
    pub path : List ℕ
    pub round : List ℕ
    pub parts : before ≡ path ++ round
    pub is : IsRound width round
    pub leads : after (end_of width ends) start path ≡ v

  -- where a state is passed again there is a lasso
  twice : (before : List ℕ) (v : ℕ) → All (λ c. c < width) before → after (end_of width ends) start before ≡ v → passes (end_of width ends) goal start before ≡ false → WasPassed before v → ⊥
  twice before v all leads never p = free p.path p.round (record {
    choices = All-front (λ c. c < width) p.path p.round (subst (All (λ c. c < width)) p.parts all);
    round = p.is;
    back = sym (after-append (end_of width ends) start p.path p.round) ∙ ap (after (end_of width ends) start) (sym p.parts) ∙ leads ∙ sym p.leads;
    never = subst (λ l. passes (end_of width ends) goal start l ≡ false) p.parts never;
  })

  module _ (marks : List Bool) (before : List ℕ) (s : ℕ) (many : length marks ≡ nodes) (all : All (λ c. c < width) before) (leads : after (end_of width ends) start before ≡ s)
      (never : passes (end_of width ends) goal start before ≡ false) (passed : (v : ℕ) → get_or marks v false ≡ true → WasPassed before v) where
    within : s < length marks
    within = omega (arith, many, subst (λ n. n < nodes) (walked-after width ends start before ∙ leads) (walked-inside width ends nodes are start before inside all))

    fresh : get_or marks s false ≡ false
    fresh = by (get_or marks s false) refl
      where
        by : (b : Bool) → get_or marks s false ≡ b → get_or marks s false ≡ false
        by true e = absurd (twice before s all leads never (passed s e))
        by false e = e

    fewer : count_by not (set marks s true) + 1 ≡ count_by not marks
    fewer = count-set marks s within fresh

    later : (round : List ℕ) → IsRound width round → (v : ℕ) → get_or (set marks s true) v false ≡ true → WasPassed (before ++ round) v
    later round is v h = by (cases_eq v s)
      where
        by : (v ≡ s) ⊎ (v ≡ s → ⊥) → WasPassed (before ++ round) v
        by (inl e) = record { path = before; round = round; parts = refl; is = is; leads = leads ∙ sym e }
        by (inr apart) =
            let p = passed v (sym (get_or-set_other marks s v true false apart) ∙ h) in
            record {
              path = p.path;
              round = p.round ++ round;
              parts = ap (λ l. l ++ round) p.parts ∙ append_assoc p.path p.round round;
              is = round-more width p.round round p.is is.choices;
              leads = p.leads;
            }

  hunt : (rounds : List (List ℕ)) (marks : List Bool) (before : List ℕ) (s : ℕ) → length marks ≡ nodes → count_by not marks ≤ length rounds → All (IsRound width) rounds
      → All (λ c. c < width) before → after (end_of width ends) start before ≡ s → passes (end_of width ends) goal start (before ++ concat rounds) ≡ false
      → ((v : ℕ) → get_or marks v false ≡ true → WasPassed before v) → ⊥
  hunt [] marks before s many few rounds all leads never passed =
      let none = fewer marks before s many all leads (passes-front (end_of width ends) goal start before [] never) passed in
      omega (arith, none, few)
  hunt (round ∷ rounds) marks before s many few are_rounds all leads never passed =
      let front = passes-front (end_of width ends) goal start before (round ++ concat rounds) never in
      let is = All-head (IsRound width) round rounds are_rounds in
      let one = fewer marks before s many all leads front passed in
      hunt rounds (set marks s true) (before ++ round) (after (end_of width ends) s round)
      (length-set marks s true ∙ many) (omega (arith, one, few)) (All-tail (IsRound width) round rounds are_rounds)
      (All-append (λ c. c < width) before round all is.choices)
      (after-append (end_of width ends) start before round ∙ ap (λ t. after (end_of width ends) t round) leads)
      (subst (λ l. passes (end_of width ends) goal start l ≡ false) (sym (append_assoc before round (concat rounds))) never)
      (later marks before s many all leads front passed round is)

  -- with no lasso, as many rounds as there are states pass a goal
  pub must-within : MustWithin (end_of width ends) goal width start nodes
  must-within rounds many are_rounds = by (passes (end_of width ends) goal start (concat rounds)) refl
    where
      none : (v : ℕ) → get_or (replicate nodes false) v false ≡ true → WasPassed [] v
      none v h = absurd (true≢false (sym h ∙ unmarked nodes v))

      by : (b : Bool) → passes (end_of width ends) goal start (concat rounds) ≡ b → passes (end_of width ends) goal start (concat rounds) ≡ true
      by true e = e
      by false e = absurd (hunt rounds (replicate nodes false) [] start (length-replicate nodes false) (omega (arith, count-none nodes, many)) are_rounds (All-nil (λ c. c < width)) refl e none)
