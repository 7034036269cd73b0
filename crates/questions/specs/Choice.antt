-- Choices: what may come next, and the states to which lists of them lead. (Own.)
use Rattle.std.specs.Prelude.{◌≡◌, ℕ, zero, suc, ◌<◌, ◌≤◌, ◌==◌, ◌&&◌, Bool, false, List, [], ◌∷◌, ◌++◌, Some, length, replicate, slice_get, slice_index_or}
use Rattle.std.specs.List.{All, list_any}
use Rattle.machine_state.specs.declared.event.Event.{Event}
use Rattle.machine_state.specs.declared.event.Event.TheVariants.{Step, Tick}
use Rattle.machine_state.specs.State.{State}
use Rattle.kernel_core.specs.Run.{run_state}
use Rattle.quiet_runs.specs.Runs.{Watch, after_step}
use Rattle.quiet_runs.specs.Finding.{quiet_steps}
use Rattle.questions.specs.declared.choice.Choice.{Choice}
use Rattle.questions.specs.declared.choice.Choice.TheVariants.{Steps, Run, Tick as TimerTick}

-- a choice on a machine with so many harts: its hart is one of them, and it has 1 to 1,000,000 steps
abbrev pub IsChoiceOf : ℕ → Choice → Type 0
IsChoiceOf harts (Steps hart times) = (hart < harts) × (1 ≤ times) × (times ≤ 1000000)
IsChoiceOf harts (Run hart) = hart < harts
IsChoiceOf harts (TimerTick hart) = hart < harts

-- two choices are the same
abbrev pub same_choice : Choice → Choice → Bool
same_choice (Steps hart times) (Steps other count) = (hart == other) && (times == count)
same_choice (Run hart) (Run other) = hart == other
same_choice (TimerTick hart) (TimerTick other) = hart == other
same_choice _ _ = false

-- a choice is among some
abbrev pub is_among : List Choice → Choice → Bool
is_among choices choice = list_any (same_choice choice) choices

-- no choice is in the list twice
abbrev pub EachOnce : List Choice → Type 0
EachOnce choices = (i j : ℕ) (choice : Choice) → slice_get choices i ≡ Some choice → slice_get choices j ≡ Some choice → i ≡ j

-- the choice with its steps counted: a run of a hart is one step of it, and then those that are quiet
abbrev pub counted_choice : Watch → State → Choice → Choice
counted_choice watch s (Steps hart times) = Steps hart times
counted_choice watch s (Run hart) = Steps hart (suc (quiet_steps watch (after_step s hart) hart))
counted_choice watch s (TimerTick hart) = TimerTick hart

-- the events of a choice whose steps are counted
abbrev pub counted_events : Choice → List Event
counted_events (Steps hart times) = replicate times (Step hart)
counted_events (Run hart) = Step hart ∷ []
counted_events (TimerTick hart) = Tick hart ∷ []

-- the events of a choice in a state
abbrev pub choice_events : Watch → State → Choice → List Event
choice_events watch s choice = counted_events (counted_choice watch s choice)

-- the state after a choice
abbrev pub after_choice : Watch → State → Choice → State
after_choice watch s choice = run_state s (choice_events watch s choice)

-- one step of each hart below `n`
unfoldable pub step_below : ℕ → List Choice
step_below zero = []
step_below (suc hart) = step_below hart ++ Steps hart 1 ∷ []

-- one tick of each
unfoldable pub tick_below : ℕ → List Choice
tick_below zero = []
tick_below (suc hart) = tick_below hart ++ TimerTick hart ∷ []

-- all choices of one event: a step of each hart, and then a tick of each
abbrev pub all_choices : ℕ → List Choice
all_choices harts = step_below harts ++ tick_below harts

-- choice `i` of a question's choices
abbrev pub choice_at : List Choice → ℕ → Choice
choice_at choices i = slice_index_or choices i (TimerTick 0)

-- the state after a list of choices, each by its number
unfoldable pub after : Watch → List Choice → State → List ℕ → State
after watch choices s [] = s
after watch choices s (i ∷ path) = after watch choices (after_choice watch s (choice_at choices i)) path

-- these choices with their steps counted, each in the state in which it is made
unfoldable pub counted_path : Watch → List Choice → State → List ℕ → List Choice
counted_path watch choices s [] = []
counted_path watch choices s (i ∷ path) =
    counted_choice watch s (choice_at choices i) ∷ counted_path watch choices (after_choice watch s (choice_at choices i)) path

-- each number of the list is that of a choice
abbrev pub AreChoices : List Choice → List ℕ → Type 0
AreChoices choices path = All (λ i. i < length choices) path
