-- What runs evade, their steps evade.
use Rattle.std.proofs.Common.{◌≡◌, ℕ, zero, suc, ◌<◌, Bool, false, List, [], ◌∷◌, ◌++◌, replicate, All, refl, sym, ◌∙◌, ap, subst, append_assoc, arith}
use Rattle.std.proofs.lemmas.List.Elements.{All-append, All-cons, All-head, All-nil, All-replicate, All-tail, Contains-append_left, Contains-append_right}
use Rattle.std.specs.List.{Contains}
use Rattle.fair_rounds.specs.Rounds.{IsRound, after, passes, IsLasso, IsEvasion}
use Rattle.fair_rounds.proofs.Passing.{after-append, passes-here, passes-next, passes-cons, passes-both}
use Rattle.fair_rounds.proofs.Lassos.{lasso-evades}
use Rattle.machine_state.specs.State.{State}
use Rattle.quiet_runs.specs.Runs.{Watch, AreQuiet, RunsAreQuiet, SeesOnly, after_step, run_of, after_run}
use Rattle.quiet_runs.specs.Begun.{steps_of_runs}
use Rattle.quiet_runs.specs.RoundLaws.{LassoLaw, EvasionLaw}
use Rattle.quiet_runs.proofs.Steps.{by, many-same}
use Rattle.quiet_runs.proofs.Running.{run-is, steps-after}

module _ (more : State → ℕ → ℕ) where
  -- ---- the steps of runs

  -- of one run
  run-after : (s : State) (h : ℕ) → after after_step s (run_of more s h) ≡ after_run more s h
  run-after s h = sym (steps-after s (run_of more s h))

  -- they lead where the runs do
  pub spelled-after : (s : State) (hs : List ℕ)
      → after after_step s (steps_of_runs more s hs) ≡ after (after_run more) s hs
  spelled-after s [] = refl
  spelled-after s (h ∷ hs) =
      after-append after_step s (run_of more s h) (steps_of_runs more (after_run more s h) hs)
      ∙ (ap (λ (t : State). after after_step t (steps_of_runs more (after_run more s h) hs))
      (run-after s h) ∙ spelled-after (after_run more s h) hs)

  -- those of runs after runs
  pub spelled-append : (s : State) (gs hs : List ℕ)
      → steps_of_runs more s (gs ++ hs) ≡ steps_of_runs more s gs ++ steps_of_runs more
      (after (after_run more) s gs) hs
  spelled-append s [] hs = refl
  spelled-append s (g ∷ gs) hs =
      ap (λ (steps : List ℕ). run_of more s g ++ steps) (spelled-append (after_run more s g) gs hs)
      ∙ sym (append_assoc (run_of more s g) (steps_of_runs more (after_run more s g) gs)
      (steps_of_runs more (after (after_run more) s (g ∷ gs)) hs))

  -- each is of a hart that is run
  pub spelled-of : (which : ℕ → Type 0) (s : State) (hs : List ℕ) → All which hs
      → All which (steps_of_runs more s hs)
  spelled-of which s [] all = All-nil which
  spelled-of which s (h ∷ hs) all =
      let first = All-head which h hs all in
      let copies = replicate (more (after_step s h) h) h in
      All-append which (run_of more s h) (steps_of_runs more (after_run more s h) hs)
      (All-cons which h copies first (All-replicate which (more (after_step s h) h) h first))
      (spelled-of which (after_run more s h) hs (All-tail which h hs all))

  -- and each hart that is run has one
  pub spelled-has : (s : State) (hs : List ℕ) (c : ℕ) → Contains hs c
      → Contains (steps_of_runs more s hs) c
  spelled-has s [] c (k, l, e) = (k, l, e)
  spelled-has s (h ∷ hs) c (zero, l, is) =
      Contains-append_left (run_of more s h) (steps_of_runs more (after_run more s h) hs) c
      (0, omega arith, is)
  spelled-has s (h ∷ hs) c (suc k, l, e) =
      Contains-append_right (run_of more s h) (steps_of_runs more (after_run more s h) hs) c
      (spelled-has (after_run more s h) hs c (k, omega (arith, l), e))

  -- so those of a round are one
  pub spelled-round : (count : ℕ) (s : State) (hs : List ℕ) → IsRound count hs
      → IsRound count (steps_of_runs more s hs)
  spelled-round count s hs round =
      record {
        choices = spelled-of (λ c. c < count) s hs round.choices;
        each = λ c l. spelled-has s hs c (round.each c l);
      }

  module _ (watch : Watch) (quiet : RunsAreQuiet watch more)
      (goal : State → Bool) (sees : SeesOnly watch goal) where
    -- ---- what they pass

    -- quiet steps pass no goal where they lead to none
    quiet-avoids : (n : ℕ) (s : State) (h : ℕ) → AreQuiet watch n s h → goal (by n s h) ≡ false
        → passes after_step goal s (replicate n h) ≡ false
    quiet-avoids zero s h are end = end
    quiet-avoids (suc n) s h are end =
        passes-cons after_step goal s h (replicate n h)
        (sees s (by (suc n) s h) (many-same watch (suc n) s h are) ∙ end)
        (quiet-avoids n (after_step s h) h are.1 end)

    -- so does a run that begins and ends at none
    run-avoids : (s : State) (h : ℕ) → goal s ≡ false → goal (after_run more s h) ≡ false
        → passes after_step goal s (run_of more s h) ≡ false
    run-avoids s h begin end =
        let m = more (after_step s h) h in
        passes-cons after_step goal s h (replicate m h) begin
        (quiet-avoids m (after_step s h) h (quiet (after_step s h) h)
        (ap goal (sym (run-is more s h)) ∙ end))

    pub spelled-avoids : (s : State) (hs : List ℕ) → passes (after_run more) goal s hs ≡ false
        → passes after_step goal s (steps_of_runs more s hs) ≡ false
    spelled-avoids s [] never = never
    spelled-avoids s (h ∷ hs) never =
        let t = after_run more s h in
        let rest = passes-next (after_run more) goal s h hs never in
        passes-both after_step goal s (run_of more s h) (steps_of_runs more t hs)
        (run-avoids s h (passes-here (after_run more) goal s (h ∷ hs) never)
        (passes-here (after_run more) goal t hs rest))
        (subst (λ (r : State). passes after_step goal r (steps_of_runs more t hs) ≡ false)
        (sym (run-after s h)) (spelled-avoids t hs rest))

    -- ---- lassos

    module _ (count : ℕ) where
      pub lasso : (s : State) (path cycle : List ℕ)
          → IsLasso (after_run more) goal count s path cycle
          → IsLasso after_step goal count s (steps_of_runs more s path)
          (steps_of_runs more (after (after_run more) s path) cycle)
      lasso s path cycle is =
          let t = after (after_run more) s path in
          let there = spelled-after s path in
          record {
            choices = spelled-of (λ c. c < count) s path is.choices;
            round = spelled-round count t cycle is.round;
            back = ap (λ (r : State). after after_step r (steps_of_runs more t cycle)) there
                ∙ (spelled-after t cycle ∙ (is.back ∙ sym there));
            never = subst (λ (steps : List ℕ). passes after_step goal s steps ≡ false)
                (spelled-append s path cycle) (spelled-avoids s (path ++ cycle) is.never);
          }

      pub evasion : (first : State → Bool) (s : State) (path cycle : List ℕ)
          → IsEvasion (after_run more) goal count first s path cycle
          → IsEvasion after_step goal count first s (steps_of_runs more s path)
          (steps_of_runs more (after (after_run more) s path) cycle)
      evasion first s path cycle is =
          let stem = is.stem in
          let t = after (after_run more) s stem in
          let there = spelled-after s stem in
          let rest = steps_of_runs more t is.rest in
          let ends : after (after_run more) t is.rest ≡ after (after_run more) s path =
          sym (after-append (after_run more) s stem is.rest)
          ∙ ap (after (after_run more) s) (sym is.parts) in
          let round = steps_of_runs more (after (after_run more) s path) cycle in
          let turns : IsLasso after_step goal count
          (after after_step s (steps_of_runs more s stem)) rest round =
          subst (λ (r : State). IsLasso after_step goal count r rest round) (sym there)
          (subst (λ (r : State). IsLasso after_step goal count t rest
          (steps_of_runs more r cycle)) ends (lasso t is.rest cycle is.lasso)) in
          record {
            stem = steps_of_runs more s stem;
            rest = rest;
            parts = ap (steps_of_runs more s) is.parts ∙ spelled-append s stem is.rest;
            choices = spelled-of (λ c. c < count) s stem is.choices;
            begins = ap first there ∙ is.begins;
            lasso = turns;
            evades = lasso-evades after_step goal count
                (after after_step s (steps_of_runs more s stem)) rest round turns;
          }

pub lasso_law : LassoLaw
lasso_law count watch more goal s path cycle quiet sees is =
    lasso more watch quiet goal sees count s path cycle is

pub evasion_law : EvasionLaw
evasion_law count watch more goal first s path cycle quiet sees is =
    evasion more watch quiet goal sees count first s path cycle is
