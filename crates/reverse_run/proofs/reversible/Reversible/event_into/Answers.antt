use Rattle.std.proofs.Common.{◌≡◌, ℕ, ◌+◌, ◌-◌, ◌∷◌, List, length, take, sym, ap, ◌∙◌, subst, arith}
use Rattle.std.specs.Vec.{vec_capacity}
use Rattle.std.specs.VecDeque.{deque_capacity}
use Rattle.object_store.specs.Store.{Store, sizes_of}
use Rattle.object_store.specs.Object.{Stays}
use Rattle.object_store.proofs.Restored.{there_same}
use Rattle.machine_state.specs.State.{State, state_of}
use Rattle.machine_state.specs.Outcome.{spent, kept_after}
use Rattle.machine_state.specs.Past.{names_in}
use Rattle.kernel_core.specs.Event.{event_of}
use Rattle.reverse_run.specs.Remembered.{MementoValue}
use Rattle.reverse_run.specs.Moments.{moment_of, moment_before, unwound, CanUnwind, ReversibleValue}
use Rattle.reverse_run.proofs.Unwinding.{restored_event, moment_event, can_unwind_take, can_unwind_event, kept_event, moments_event, history_event}
use Rattle.reverse_run.proofs.reversible.Reversible.event_into.Given as given
use Rattle.reverse_run.proofs.reversible.Reversible.event_into.Goals as goal

-- the machine that performs the event was looked at, and is the same: what the event does of the one it does of the other
state : (g : given.Over) (c : goal.After-push_front_reserved g) → state_of c.event_into.new.machine ≡ (event_of (state_of c.self.inside.machine) c.args.e).state
state g c = c.event_into.ensures.state ∙ ap (λ (s : State). (event_of s c.args.e).state) c.keep_event.ensures.looked.state

sizes : (g : given.Over) (c : goal.After-push_front_reserved g) → sizes_of c.event_into.new.machine.objects ≡ sizes_of c.self.inside.machine.objects
sizes g c = c.event_into.ensures.sizes ∙ ap (λ (o : Store). sizes_of o) c.keep_event.ensures.looked.objects

stays : (g : given.Over) (c : goal.After-push_front_reserved g) → Stays (event_of (state_of c.self.inside.machine) c.args.e).changed c.self.inside.machine.objects c.event_into.new.machine.objects
stays g c =
    let looked = c.keep_event.ensures.looked in
    let n = c.event_into.new.machine in
    let Of : State → Type 0 = λ s. Stays (event_of s c.args.e).changed c.keep_event.new.machine.objects n.objects in
    let From : Store → Type 0 = λ o. Stays (event_of (state_of c.self.inside.machine) c.args.e).changed o n.objects in
    subst From looked.objects (subst Of looked.state c.event_into.ensures.leaves.stays)

-- it leads back to the moment before the event
back : (g : given.Over) (c : goal.After-push_front_reserved g) → moment_before (moment_of c.event_into.new.machine) c.keep_event.new.kept ≡ moment_of c.self.inside.machine
back g c =
    let m = c.self.inside.machine in
    let kept = c.keep_event.new.kept in
    let n = c.event_into.new.machine in
    let outcome = event_of (state_of m) c.args.e in
    moment_event kept m n outcome.state c.keep_event.ensures.back (state g c)
    (restored_event kept m outcome.state n.objects outcome.changed c.tell_machine.ensures.even c.tell_machine-2.ensures.even (sizes g c) c.keep_event.ensures.back c.keep_event.ensures.remembers (stays g c))

-- the moments are that before the event, and of those before it the latest
moments : (g : given.Over) (c : goal.After-push_front_reserved g) → unwound (moment_of c.event_into.new.machine) c.push_front_reserved.new.self.items
    ≡ take (length c.self.inside.pasts.items + length c.self.inside.spare.items) (moment_of c.self.inside.machine ∷ unwound (moment_of c.self.inside.machine) c.self.inside.pasts.items)
moments g c =
    let i = c.self.inside in
    rw (c.push_front_reserved.ensures.items, c.take_past-kept.ensures.in_use)
    (moments_event c.keep_event.new.kept (moment_of i.machine) (moment_of c.event_into.new.machine) i.pasts.items (length i.pasts.items + length i.spare.items) c.self.invariant.least (back g c))

-- and it fetches as many slots, behind those that were read to remember it
counted : (g : given.Over) (c : goal.After-push_front_reserved g)
    → c.event_into.new.fetches ≡ c.keep_event.new.fetches + spent g.T.Translator.cost g.T.Translator.after g.T.Translator.without (g.T.Translator.kept c.self.inside.machine.translator) (event_of (state_of c.self.inside.machine) c.args.e).touches
counted g c =
    let t = g.T.Translator in
    let looked = c.keep_event.ensures.looked in
    let m = c.self.inside.machine in
    let n = c.keep_event.new.machine in
    let same = ap (λ k. spent t.cost t.after t.without k (event_of (state_of n) c.args.e).touches) looked.keeps ∙ ap (λ (s : State). spent t.cost t.after t.without (t.kept m.translator) (event_of s c.args.e).touches) looked.state in
    c.event_into.ensures.counted ∙ ap (λ (more : ℕ). c.keep_event.new.fetches + more) same

pub keep_event-requires-clause-sizes : goal.keep_event-requires-clause-sizes
keep_event-requires-clause-sizes g c = c.take_past-kept.ensures.sizes (sizes_of c.self.inside.machine.objects) c.self.invariant.in_use c.self.invariant.not_in_use

pub invariant_of-self : goal.invariant_of-self
invariant_of-self g c =
    let i = c.self.inside in
    let m = i.machine in
    let n = c.event_into.new.machine in
    let kept = c.keep_event.new.kept in
    let leads = c.keep_event.ensures.back in
    let taken = c.take_past-kept.ensures in
    let same_sizes = sizes g c in
    let there = there_same n.objects m.objects (names_in kept.past) same_sizes leads.there in
    let Unwinds : List MementoValue → Type 0 = λ pasts. CanUnwind (moment_of m) pasts in
    let before = subst Unwinds (sym taken.in_use) (can_unwind_take (moment_of m) (length i.pasts.items + length i.spare.items - 1) i.pasts.items c.self.invariant.unwinds) in
    let unwinds = can_unwind_event kept (moment_of m) (moment_of n) c.take_past-kept.new.pasts.items there (back g c) c.tell_machine.ensures.machine before in
    rw (c.push_front_reserved.ensures.items, c.push_front_reserved.ensures.capacity, taken.room, taken.spare_room)
    (kept_event (moment_of m) (moment_of n) kept i.pasts.items i.spare.items c.take_past-kept.new.pasts.items c.take_past-kept.new.spare.items (deque_capacity i.pasts) (vec_capacity i.spare) c.self.invariant same_sizes
    leads.sizes c.keep_event.ensures.few taken.in_use taken.not_in_use taken.one_less unwinds)

pub returns-clause-records : goal.returns-clause-records
returns-clause-records g c = rw (← c.self.view_is) (c.event_into.ensures.records ∙ ap (λ (s : State). (event_of s c.args.e).records) c.keep_event.ensures.looked.state)

pub returns-clause-history : goal.returns-clause-history
returns-clause-history g c =
    let i = c.self.inside in
    let before : ReversibleValue g.row.T.Denot = record { machine = i.machine; pasts = i.pasts.items; depth = length i.pasts.items + length i.spare.items } in
    let after : ReversibleValue g.row.T.Denot = record { machine = c.event_into.new.machine; pasts = c.push_front_reserved.new.self.items; depth = length c.push_front_reserved.new.self.items + length c.take_past-kept.new.spare.items } in
    rw (← c.self.view_is) (history_event before after c.args.e (state g c) (moments g c))

pub returns-clause-moments : goal.returns-clause-moments
returns-clause-moments g c = rw (← c.self.view_is) (moments g c)

pub returns-clause-kept : goal.returns-clause-kept
returns-clause-kept g c =
    let t = g.T.Translator in
    let looked = c.keep_event.ensures.looked in
    let m = c.self.inside.machine in
    let n = c.keep_event.new.machine in
    rw (← c.self.view_is)
    (c.event_into.ensures.kept
    ∙ (ap (λ k. kept_after t.cost t.after t.without k (event_of (state_of n) c.args.e).touches) looked.keeps
    ∙ ap (λ (s : State). kept_after t.cost t.after t.without (t.kept m.translator) (event_of s c.args.e).touches) looked.state))

pub returns-clause-fetched : goal.returns-clause-fetched
returns-clause-fetched g c =
    let counted = counted g c in
    let least = c.keep_event.ensures.least in
    let most = c.keep_event.ensures.most in
    rw (← c.self.view_is) (record { least = omega (arith, counted, least); most = omega (arith, counted, most) })
