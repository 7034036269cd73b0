-- From the choices of a question to all steps of the harts.
use Rattle.std.proofs.Common.{◌≡◌, ◌∙◌, ℕ, false, List, ◌++◌, sym, ap, arith}
use Rattle.machine_state.specs.State.{State}
use Rattle.separation_policy.specs.Policy.{PolicyValue}
use Rattle.quiet_runs.specs.Runs.{after_runs, after_steps}
use Rattle.quiet_runs.specs.Finding.{quiet_steps}
use Rattle.quiet_runs.specs.Laws.{AreHarts, CanRun, EverLaw, FoundLaw, NeverLaw, SimulationLaw}
use Rattle.questions.specs.Choice.{AreChoices, after}
use Rattle.questions.specs.Question.{QuestionValue, choices_of, holds, watch_for}
use Rattle.exploration.specs.Explored.{AllCanCome, AsksEver, AsksNever, NoneFails}
use Rattle.interleavings.specs.Laws.{EachHartRuns, EverStepwiseLaw, NeverStepwiseLaw, OnlyRuns, WithinStepwiseLaw}
use Rattle.interleavings.proofs.Seeing.{sees_only_law}
use Rattle.interleavings.proofs.Paths.{Chosen, after-append, as-choices, as-runs, chosen-after, chosen-of}

module _ (question : QuestionValue) (policy : PolicyValue) (s : State) (each : EachHartRuns question) where
  abbrev more : State → ℕ → ℕ
  more = quiet_steps (watch_for question.properties)

  abbrev chosen : State → List ℕ → State
  chosen t path = after (watch_for question.properties) (choices_of question) t path

  abbrev Runs : List ℕ → List ℕ → Type 0
  Runs path runs = Chosen (watch_for question.properties) (choices_of question) path runs

  leads : (t : State) (path runs : List ℕ) → Runs path runs → chosen t path ≡ after_runs more t runs
  leads t path runs all = chosen-after (watch_for question.properties) (choices_of question) t path runs all

  are : (path runs : List ℕ) → Runs path runs → AreChoices (choices_of question) path
  are path runs all = chosen-of (watch_for question.properties) (choices_of question) path runs all

  -- no runs fail a `never`
  no-runs : NoneFails question policy s → (n : ℕ) → AsksNever question n → (runs : List ℕ) → AreHarts question.sizes.harts runs
      → holds question policy (after_runs more s runs) n ≡ false
  no-runs safe n asks runs all =
      let found = as-choices (watch_for question.properties) (choices_of question) question.sizes.harts each runs all in
      ap (λ (t : State). holds question policy t n) (sym (leads s found.path runs found.chosen)) ∙ safe found.path (are found.path runs found.chosen) n asks

  -- after any runs, some lead to a state in which the atoms of an `ever` hold
  some-runs : OnlyRuns question → AllCanCome question policy s → (n : ℕ) → AsksEver question n → (runs : List ℕ) → AreHarts question.sizes.harts runs
      → CanRun question.sizes.harts more (λ t. holds question policy t n) (after_runs more s runs)
  some-runs only comes n asks runs all =
      let before = as-choices (watch_for question.properties) (choices_of question) question.sizes.harts each runs all in
      let can = comes n asks before.path (are before.path runs before.chosen) in
      let on = as-runs (watch_for question.properties) (choices_of question) question.sizes.harts only can.on can.choices in
      let there : chosen s (before.path ++ can.on) ≡ after_runs more (after_runs more s runs) on.runs =
      after-append (watch_for question.properties) (choices_of question) s before.path can.on
      ∙ (ap (λ (t : State). chosen t can.on) (leads s before.path runs before.chosen) ∙ leads (after_runs more s runs) can.on on.runs on.chosen) in
      record { runs = on.runs; of = on.of; holds = ap (λ (t : State). holds question policy t n) (sym there) ∙ can.holds }

pub never_stepwise_law : NeverLaw → FoundLaw → NeverStepwiseLaw
never_stepwise_law never found question policy s each safe harts all n asks =
    let watch = watch_for question.properties in
    never question.sizes.harts watch (quiet_steps watch) (λ t. holds question policy t n) s
    (found watch) (sees_only_law question policy n) (no-runs question policy s each safe n asks) harts all

pub within_stepwise_law : SimulationLaw → FoundLaw → WithinStepwiseLaw
within_stepwise_law simulate found question policy s depth each safe harts all few n asks =
    let watch = watch_for question.properties in
    let simulation = simulate question.sizes.harts watch (quiet_steps watch) (found watch) s harts all in
    let behind = simulation.behind in
    let fewer = simulation.few in
    let leading = as-choices watch (choices_of question) question.sizes.harts each simulation.runs simulation.of in
    let of = chosen-of watch (choices_of question) leading.path simulation.runs leading.chosen in
    let there = chosen-after watch (choices_of question) s leading.path simulation.runs leading.chosen in
    let long = leading.long in
    sees_only_law question policy n (after_steps s harts) (after_runs (quiet_steps watch) s simulation.runs) behind.same
    ∙ (ap (λ (t : State). holds question policy t n) (sym there) ∙ safe leading.path of (omega (arith, few, fewer, long)) n asks)

pub ever_stepwise_law : EverLaw → FoundLaw → EverStepwiseLaw
ever_stepwise_law ever found question policy s each only comes n asks harts all =
    let watch = watch_for question.properties in
    ever question.sizes.harts watch (quiet_steps watch) (λ t. holds question policy t n) s
    (found watch) (sees_only_law question policy n) (some-runs question policy s each only comes n asks) harts all
