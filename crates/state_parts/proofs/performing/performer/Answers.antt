use Rattle.std.proofs.Common.{◌≡◌, ◌<◌, length, None, sym, ap, ◌∙◌, subst, arith}
use Rattle.schedules.specs.Queues.{QueuesValue, dispatched, hart_of}
use Rattle.machine_state.specs.declared.event.Event.{Event}
use Rattle.machine_state.specs.Machine.{hart_in}
use Rattle.machine_state.specs.State.{state_of}
use Rattle.machine_state.specs.Outcome.{done}
use Rattle.kernel_core.specs.Event.{event_of}
use Rattle.state_parts.proofs.Idle.{nobody_steps, nobody_ticks}
use Rattle.state_parts.proofs.performing.performer.Goals as goal

pub returns-in-Step-clause-nobody : goal.returns-in-Step-clause-nobody
returns-in-Step-clause-nobody c = λ none.
    let m = c.args.machine.now in
    let hart = c.in-Step.hart in
    let Below : Event → Type 0 = λ e. hart_in e < m.objects.harts in
    let below = subst Below c.in-Step.is c.requires in
    let harts = c.queues.ensures.harts in
    let within : hart < length m.queues.harts = omega (arith, below, harts) in
    let here : hart_of (dispatched m.queues hart) hart ≡ None = ap (λ (q : QueuesValue). hart_of (dispatched q hart) hart) (sym c.queues.ensures.value) ∙ sym c.next_on.ensures.value ∙ none in
    let Is : Event → Type 0 = λ e. event_of (state_of m) e ≡ done (state_of m) in
    subst Is (sym c.in-Step.is) (nobody_steps (state_of m) hart within here)

pub returns-in-Tick-clause-nobody : goal.returns-in-Tick-clause-nobody
returns-in-Tick-clause-nobody c = λ none.
    let s = state_of c.args.machine.now in
    let Is : Event → Type 0 = λ e. event_of s e ≡ done s in
    subst Is (sym c.in-Tick.is) (nobody_ticks s c.in-Tick.hart (sym c.on_hart.ensures.process ∙ none))
