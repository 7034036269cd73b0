-- Lists of choices of a search and of a question lead to the same states.
use Rattle.std.proofs.Common.{◌≡◌, ◌∙◌, ℕ, Bool, List, [], ◌∷◌, ◌++◌, flat_map, refl}
use Rattle.machine_state.specs.declared.event.Event.{Event}
use Rattle.machine_state.specs.State.{State}
use Rattle.kernel_core.specs.Run.{run_state}
use Rattle.kernel_core.proofs.Ran.{run_state-append, run_state-nil}
use Rattle.quiet_runs.specs.Runs.{Watch}
use Rattle.separation_policy.specs.Policy.{PolicyValue}
use Rattle.breadth_first.specs.Paths.{after as after_in}
use Rattle.questions.specs.declared.choice.Choice.{Choice}
use Rattle.questions.specs.Choice.{after, after_choice, choice_at, choice_events, counted_events, counted_path}
use Rattle.questions.specs.Question.{QuestionValue, choices_of, watch_for}
use Rattle.exploration.specs.Explored.{system_of}

module _ (question : QuestionValue) (policy : PolicyValue) (same : State → State → Bool) (s : State) where
  -- the state after a choice by its number
  abbrev next : State → ℕ → State
  next t i = after_choice (watch_for question.properties) t (choice_at (choices_of question) i)

  pub after-is : (t : State) (path : List ℕ) → after_in (system_of question policy same s) t path ≡ after (watch_for question.properties) (choices_of question) t path
  unfolding after
  after-is t [] = refl
  after-is t (i ∷ path) = after-is (next t i) path

  -- one list behind another
  pub after-on : (t : State) (path on : List ℕ)
      → after_in (system_of question policy same s) (after_in (system_of question policy same s) t path) on ≡ after (watch_for question.properties) (choices_of question) t (path ++ on)
  unfolding after
  after-on t [] on = after-is t on
  after-on t (i ∷ path) on = after-on (next t i) path on

-- The events of choices whose steps are counted lead to the state after the choices.
module _ (watch : Watch) (choices : List Choice) where
  pub counted-leads : (s : State) (path : List ℕ) → run_state s (flat_map counted_events (counted_path watch choices s path)) ≡ after watch choices s path
  unfolding after counted_path
  counted-leads s [] = run_state-nil s
  counted-leads s (i ∷ path) =
      let first : List Event = choice_events watch s (choice_at choices i) in
      let t : State = run_state s first in
      run_state-append s first (flat_map counted_events (counted_path watch choices t path)) ∙ counted-leads t path
