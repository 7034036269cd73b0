-- What events lead to, as they are performed one after the other.
use Rattle.std.proofs.Common.{◌≡◌, ℕ, suc, [], ◌∷◌, replicate, sym, ap, ◌∙◌, subst}
use Rattle.machine_state.specs.declared.event.Event.{Event}
use Rattle.machine_state.specs.declared.event.Event.TheVariants.{Step, Tick}
use Rattle.machine_state.specs.State.{State}
use Rattle.kernel_core.specs.Event.{event_of}
use Rattle.kernel_core.specs.Run.{run_state}
use Rattle.kernel_core.proofs.Ran.{run_state-cons, run_state-nil}
use Rattle.quiet_runs.specs.Runs.{Watch}
use Rattle.questions.specs.declared.choice.Choice.{Choice}
use Rattle.questions.specs.declared.choice.Choice.TheVariants.{Tick as TimerTick}
use Rattle.questions.specs.Choice.{after_choice}
use Rattle.state_choices.specs.Steps.{after_steps}

-- one step more, before the others
pub steps-more : (hart n : ℕ) (s t : State) → t ≡ (event_of s (Step hart)).state → after_steps hart n t ≡ after_steps hart (suc n) s
steps-more hart n s t is = ap (after_steps hart n) is ∙ sym (run_state-cons s (Step hart) (replicate n (Step hart)))

-- none
pub steps-none : (hart : ℕ) (s : State) → after_steps hart 0 s ≡ s
steps-none hart s = run_state-nil s

-- one event alone
pub event-alone : (e : Event) (s t : State) → t ≡ (event_of s e).state → t ≡ run_state s (e ∷ [])
event-alone e s t is = is ∙ sym (run_state-nil (event_of s e).state) ∙ sym (run_state-cons s e [])

-- a tick of a hart's timer
pub tick-chosen : (watch : Watch) (choice : Choice) (hart : ℕ) (s t : State) → choice ≡ TimerTick hart → t ≡ (event_of s (Tick hart)).state → t ≡ after_choice watch s choice
tick-chosen watch choice hart s t is led = subst (λ (c : Choice). t ≡ after_choice watch s c) (sym is) (event-alone (Tick hart) s t led)
