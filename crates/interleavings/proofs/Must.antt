-- From rounds of a question's choices to rounds of the harts' steps.
use Rattle.std.proofs.Common.{◌≡◌, ◌∙◌, ℕ, ◌*◌, ◌<◌, Bool, List, ◌++◌, refl, sym, ap, subst, subst₂}
use Rattle.std.proofs.lemmas.List.Elements.{All-from_recursion}
use Rattle.fair_rounds.specs.Rounds.{IsEvasion, IsLasso, after}
use Rattle.fair_rounds.proofs.Fairness.{fair-passes}
use Rattle.fair_rounds.proofs.Lassos.{lasso-evades}
use Rattle.machine_state.specs.State.{State}
use Rattle.quiet_runs.specs.Runs.{after_run, after_step}
use Rattle.quiet_runs.specs.Begun.{steps_of_runs}
use Rattle.quiet_runs.specs.Laws.{FoundLaw}
use Rattle.quiet_runs.specs.RoundLaws.{AlwaysLaw, EvasionLaw, LassoLaw, MustLaw, ShortLaw}
use Rattle.questions.specs.Choice.{AreChoices}
use Rattle.questions.specs.Question.{QuestionValue, choices_of}
use Rattle.interleavings.specs.Laws.{EachHartRuns, OnlyRuns}
use Rattle.interleavings.specs.Rounds.{AlwaysFairLaw, AlwaysStepwiseLaw, EvasionStepwiseLaw, FairStepwiseLaw, LassoStepwiseLaw, MustStepwiseLaw, SeesFor, steps_chosen}
use Rattle.exploration.specs.Explored.{next_state}
use Rattle.interleavings.proofs.Paths.{AsRuns, as-runs}
use Rattle.interleavings.proofs.Rounds.{Runs, always-run, both, count, counted-steps, lasso-run, leads, more, must-run, watch, width}

-- ---- must

pub must_stepwise_law : MustLaw → FoundLaw → ShortLaw → MustStepwiseLaw
must_stepwise_law must found short question goal s rounds once sees within =
    must (count question) (watch question) (more question) 4096 goal s rounds
    (found (watch question)) (short (watch question)) sees
    (must-run question once goal s rounds within)

pub always_stepwise_law : AlwaysLaw → FoundLaw → ShortLaw → AlwaysStepwiseLaw
always_stepwise_law always found short question goal first s rounds once sees first_sees comes =
    always (count question) (watch question) (more question) 4096 goal first s rounds
    (found (watch question)) (short (watch question)) sees first_sees
    (always-run question once goal first s rounds comes)

pub fair_stepwise_law : MustStepwiseLaw → FairStepwiseLaw
fair_stepwise_law must question goal s rounds once sees within schedule fair =
    fair-passes (count question) schedule fair after_step goal s (rounds * 4097)
    (must question goal s rounds once sees within)

pub always_fair_law : AlwaysStepwiseLaw → AlwaysFairLaw
always_fair_law always question goal first s rounds once sees first_sees comes stem all begins
    schedule fair =
    fair-passes (count question) schedule fair after_step goal (after after_step s stem)
    (rounds * 4097)
    (always question goal first s rounds once sees first_sees comes stem all begins)

-- ---- lassos

module _ (question : QuestionValue) (each : EachHartRuns question) (only : OnlyRuns question) where
  -- the harts that these choices run
  ran : (path : List ℕ) → AreChoices (choices_of question) path
      → AsRuns (watch question) (choices_of question) (count question) path
  ran path all = as-runs (watch question) (choices_of question) (count question) only path all

  -- a lasso of runs
  abbrev Turns : (State → Bool) → State → List ℕ → List ℕ → Type 0
  Turns goal s gs hs = IsLasso (after_run (more question)) goal (count question) s gs hs

  -- runs of harts that these choices are, and that evade the goals
  record EvadingRuns (goal first : State → Bool) (s : State) (path cycle : List ℕ) : Type 0 where
    runs : List ℕ
    again : List ℕ
    path_runs : Runs question path runs
    cycle_runs : Runs question cycle again
    evasion : IsEvasion (after_run (more question)) goal (count question) first s runs again

  evading : (goal first : State → Bool) (s : State) (path cycle : List ℕ)
      → IsEvasion (next_state question) goal (width question) first s path cycle
      → EvadingRuns goal first s path cycle
  evading goal first s path cycle is =
      let turns = is.lasso in
      let round = turns.round in
      let stem = ran is.stem is.choices in
      let rest = ran is.rest turns.choices in
      let again = ran cycle round.choices in
      let there = leads question s is.stem stem.runs stem.chosen in
      let t = after (after_run (more question)) s stem.runs in
      let lasso : Turns goal t rest.runs again.runs =
      subst (λ (r : State). Turns goal r rest.runs again.runs) there
      (lasso-run question each goal (after (next_state question) s is.stem) is.rest cycle
      rest.runs again.runs rest.chosen again.chosen rest.of again.of turns) in
      record {
        runs = stem.runs ++ rest.runs;
        again = again.runs;
        path_runs = subst (λ (p : List ℕ). Runs question p (stem.runs ++ rest.runs)) (sym is.parts)
            (both question is.stem is.rest stem.runs rest.runs stem.chosen rest.chosen);
        cycle_runs = again.chosen;
        evasion = record {
          stem = stem.runs;
          rest = rest.runs;
          parts = refl;
          choices = All-from_recursion (λ h. h < count question) stem.runs stem.of;
          begins = ap first (sym there) ∙ is.begins;
          lasso = lasso;
          evades = lasso-evades (after_run (more question)) goal (count question) t
              rest.runs again.runs lasso;
        };
      }

  -- the steps of the cycle that are counted
  cycle-steps : (s : State) (path cycle gs hs : List ℕ) → Runs question path gs
      → Runs question cycle hs
      → steps_chosen question (after (next_state question) s path) cycle
      ≡ steps_of_runs (more question) (after (after_run (more question)) s gs) hs
  cycle-steps s path cycle gs hs first second =
      counted-steps question (after (next_state question) s path) cycle hs second
      ∙ ap (λ (t : State). steps_of_runs (more question) t hs) (leads question s path gs first)

  lasso-steps : LassoLaw → FoundLaw → (goal : State → Bool) (s : State) (path cycle : List ℕ)
      → SeesFor question goal
      → IsLasso (next_state question) goal (width question) s path cycle
      → IsLasso after_step goal (count question) s (steps_chosen question s path)
      (steps_chosen question (after (next_state question) s path) cycle)
  lasso-steps law found goal s path cycle sees is =
      let round = is.round in
      let gs = ran path is.choices in
      let hs = ran cycle round.choices in
      let runs : Turns goal s gs.runs hs.runs =
      lasso-run question each goal s path cycle gs.runs hs.runs gs.chosen hs.chosen
      gs.of hs.of is in
      subst₂ (λ (p c : List ℕ). IsLasso after_step goal (count question) s p c)
      (sym (counted-steps question s path gs.runs gs.chosen))
      (sym (cycle-steps s path cycle gs.runs hs.runs gs.chosen hs.chosen))
      (law (count question) (watch question) (more question) goal s gs.runs hs.runs
      (found (watch question)) sees runs)

  evasion-steps : EvasionLaw → FoundLaw
      → (goal first : State → Bool) (s : State) (path cycle : List ℕ) → SeesFor question goal
      → IsEvasion (next_state question) goal (width question) first s path cycle
      → IsEvasion after_step goal (count question) first s (steps_chosen question s path)
      (steps_chosen question (after (next_state question) s path) cycle)
  evasion-steps law found goal first s path cycle sees is =
      let runs = evading goal first s path cycle is in
      subst₂ (λ (p c : List ℕ). IsEvasion after_step goal (count question) first s p c)
      (sym (counted-steps question s path runs.runs runs.path_runs))
      (sym (cycle-steps s path cycle runs.runs runs.again runs.path_runs runs.cycle_runs))
      (law (count question) (watch question) (more question) goal first s runs.runs runs.again
      (found (watch question)) sees runs.evasion)

pub lasso_stepwise_law : LassoLaw → FoundLaw → LassoStepwiseLaw
lasso_stepwise_law law found question goal s path cycle each only sees is =
    lasso-steps question each only law found goal s path cycle sees is

pub evasion_stepwise_law : EvasionLaw → FoundLaw → EvasionStepwiseLaw
evasion_stepwise_law law found question goal first s path cycle each only sees is =
    evasion-steps question each only law found goal first s path cycle sees is
