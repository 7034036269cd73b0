use Rattle.std.proofs.Common.{ap, subst, arith}
use Rattle.object_store.specs.Store.{Store}
use Rattle.object_store.specs.Object.{Stays}
use Rattle.machine_state.specs.State.{State, state_of}
use Rattle.kernel_core.specs.Event.{event_of}
use Rattle.event_reach.specs.FreshWalks.{walked}
use Rattle.event_reach.proofs.Spent.{fetched_walked}
use Rattle.state_parts.proofs.performing.perform_marked.Goals as goal

pub returns-clause-stays : goal.returns-clause-stays
returns-clause-stays g c =
    let m = c.mark_event.new.machine in
    let By : State → Type 0 = λ s. Stays (event_of s c.args.event).changed m.objects c.event_into.new.machine.objects in
    let On : Store → Type 0 = λ s. Stays (event_of (state_of c.args.machine.now) c.args.event).changed s c.event_into.new.machine.objects in
    subst On c.mark_event.ensures.objects (subst By c.mark_event.ensures.state c.event_into.ensures.leaves.stays)

pub returns-clause-most : goal.returns-clause-most
returns-clause-most g c =
    let looked = c.mark_event.ensures.most in
    let read = fetched_walked _ _ _ _ _ _ _ c.walks_at_most.ensures.cached c.event_into.ensures.counted in
    let same = ap (λ (s : State). walked (event_of s c.args.event).touches) c.mark_event.ensures.state in
    omega (arith, looked, read, same)
