use Rattle.std.proofs.Common.{true, subst}
use Rattle.object_store.specs.Store.{Store, sizes_of}
use Rattle.machine_state.specs.State.{state_of}
use Rattle.machine_state.specs.Machine.{hart_in}
use Rattle.machine_state.specs.Past.{IsFor, Holds}
use Rattle.kernel_core.specs.Event.{event_of}
use Rattle.event_reach.specs.Plain.{plain_names}
use Rattle.reverse_run.proofs.Keeping.{leads_plain, leads_whole, remembers_names, leads_looked}
use Rattle.reverse_run.proofs.remembering.keep_event.Goals as goal

pub returns-in-Some-clause-back : goal.returns-in-Some-clause-back
returns-in-Some-clause-back g c =
    let m = c.args.machine.now in
    let past = c.keep_plain.new.past in
    let kept = c.keep_plain.ensures in
    let alone = c.in-Some.ensures.alone in
    let same = c.in-Some.ensures.looked.objects in
    let sizes = subst (λ (o : Store). IsFor past (sizes_of o)) same kept.sizes in
    let holds = subst (λ (o : Store). Holds past o) same kept.holds in
    leads_plain past m (event_of (state_of m) c.args.e).state c.in-Some.plain c.in-Some.ensures.there sizes holds kept.names alone.queues alone.halted

pub returns-in-Some-clause-remembers : goal.returns-in-Some-clause-remembers
returns-in-Some-clause-remembers g c = rw c.in-Some.ensures.alone.changed (remembers_names c.keep_plain.new.past c.args.machine.now.objects (plain_names c.in-Some.plain) c.keep_plain.ensures.names)

pub returns-in-None-clause-back : goal.returns-in-None-clause-back
returns-in-None-clause-back g c =
    let t = g.T.Translator in
    let m = c.args.machine.now in
    let n = c.plain_of_event.new.machine in
    leads_looked t.kept t.cache (hart_in c.args.e) m n (record { past = c.remember.new.past; whole = true }) c.args.e c.in-None.ensures.looked
    (leads_whole c.remember.new.past n (event_of (state_of n) c.args.e).state c.remember.ensures.stands)
