use Rattle.std.proofs.Common.{ℕ, Option, sym, subst}
use Rattle.cap_format.specs.declared.kind.CapKind.TheVariants.{Process}
use Rattle.object_store.specs.Store.{Store}
use Rattle.machine_state.specs.declared.event.Event.{Event}
use Rattle.machine_state.specs.State.{state_of}
use Rattle.machine_state.specs.Outcome.{names_on}
use Rattle.machine_state.specs.Taking.{names_of}
use Rattle.kernel_core.specs.Event.{event_of}
use Rattle.state_parts.specs.Marking.{HasProcesses, HasThere}
use Rattle.state_parts.proofs.Idle.{tick_names}
use Rattle.state_parts.proofs.marking.mark_performers.Goals as goal

pub returns-in_ok-mark_processes-in-Step-clause-has : goal.returns-in_ok-mark_processes-in-Step-clause-has
returns-in_ok-mark_processes-in-Step-clause-has c =
    let changed = (event_of (state_of c.args.machine.now) c.args.event).changed in
    let marked = names_of c.mark_processes.new.marked.items in
    let Has : Store → Type 0 = λ o. HasProcesses o changed marked in
    subst Has c.objects.ensures (record { each = λ n among there. c.in_ok-mark_processes-in-Step.ensures.all n there })

pub returns-in_ok-mark_on-in-Tick-clause-has : goal.returns-in_ok-mark_on-in-Tick-clause-has
returns-in_ok-mark_on-in-Tick-clause-has c =
    let m = c.args.machine.now in
    let hart = c.in-Tick.hart in
    let marked = names_of c.mark_on.new.marked.items in
    let In : Store → Type 0 = λ o. HasThere o (names_on c.on_hart.result) marked in
    let On : Option ℕ → Type 0 = λ on. HasThere m.objects (names_on on) marked in
    let has : On _ = subst On c.on_hart.ensures.process (subst In c.objects-in-Tick.ensures c.in_ok-mark_on-in-Tick.ensures.has) in
    let Has : Event → Type 0 = λ e. HasProcesses m.objects (event_of (state_of m) e).changed marked in
    subst Has (sym c.in-Tick.is) (record { each = λ n among there. has.each Process n (tick_names (state_of m) hart n among) there })
