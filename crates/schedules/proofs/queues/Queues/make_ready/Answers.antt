use Rattle.std.proofs.Common.{rules, refl, arith, ◌<◌, length}
use Rattle.std.proofs.lemmas.List.{get_or-set_same}
use Rattle.process_objects.specs.Process.{empty_process}
use Rattle.schedules.specs.Ready.{runs_of}
use Rattle.schedules.proofs.Agreement.{agrees-placed}
use Rattle.schedules.proofs.Meant.{ready_meant, ready_queues_meant, ready_stays, ready_behind}
use Rattle.schedules.proofs.queues.Queues.make_ready.Goals as goal

pub returns-then-eq-clause-places : goal.returns-then-eq-clause-places
returns-then-eq-clause-places c =
    let within : c.args.p < length c.args.objects.now.contents.processes = omega (arith, c.in_ranges.ensures.sized.processes, c.requires.there, c.requires.sizes) in
    let put = get_or-set_same c.args.objects.now.contents.processes c.args.p c.set_state.new.self empty_process within in
    λ x. rw (put, c.set_state.ensures.state) (c.enqueue.ensures.standing x)

pub returns-then-eq-clause-agrees : goal.returns-then-eq-clause-agrees
returns-then-eq-clause-agrees c = λ but.
    rw (c.set_state.ensures.state, c.process_mut.ensures.value)
    (agrees-placed (runs_of c.args.objects.now c.args.self.now) c.args.p _ c.enqueue.new.self c.requires.there but (rw c.enqueue.ensures.queues refl) c.enqueue.ensures.standing)

pub returns-then-eq-clause-means : goal.returns-then-eq-clause-means
returns-then-eq-clause-means c = ready_meant c.args.objects.now _ c.args.p c.args.self.now (search rules)

pub returns-then-eq-clause-queues_mean : goal.returns-then-eq-clause-queues_mean
returns-then-eq-clause-queues_mean c = ready_queues_meant c.args.objects.now _ c.args.p c.args.self.now (search rules)

pub returns-then-eq-clause-stays : goal.returns-then-eq-clause-stays
returns-then-eq-clause-stays c = ready_stays c.args.objects.now _ c.args.p c.args.self.now (search rules)

pub returns-then-eq-clause-behind : goal.returns-then-eq-clause-behind
returns-then-eq-clause-behind c = ready_behind c.args.objects.now _ c.args.p c.args.self.now (search rules)

pub returns-else-eq-clause-means : goal.returns-else-eq-clause-means
returns-else-eq-clause-means c = ready_meant c.args.objects.now _ c.args.p c.args.self.now (search rules)

pub returns-else-eq-clause-queues_mean : goal.returns-else-eq-clause-queues_mean
returns-else-eq-clause-queues_mean c = ready_queues_meant c.args.objects.now _ c.args.p c.args.self.now (search rules)

pub returns-else-eq-clause-stays : goal.returns-else-eq-clause-stays
returns-else-eq-clause-stays c = ready_stays c.args.objects.now _ c.args.p c.args.self.now (search rules)

pub returns-else-eq-clause-behind : goal.returns-else-eq-clause-behind
returns-else-eq-clause-behind c = ready_behind c.args.objects.now _ c.args.p c.args.self.now (search rules)
