use Rattle.std.proofs.Common.{rules, ◌≡◌, ◌<◌, length, true, arith}
use Rattle.object_store.specs.Store.{process_at}
use Rattle.object_store.proofs.Live.{live_process}
use Rattle.schedules.specs.Ready.{runs_of}
use Rattle.operations.specs.Control.{is_faulted}
use Rattle.operations.proofs.Placed.{agrees_but, nowhere_stopped}
use Rattle.control_caps.proofs.Done.{faulted_due}
use Rattle.control_caps.proofs.processes.resume.Goals as goal

pub returns-clause-agrees : goal.returns-clause-agrees
returns-clause-agrees c =
    let r = runs_of c.args.objects.now c.args.queues.now in
    let named = live_process c.args.objects.now.items c.args.cap c.requires.kind c.requires.live in
    let there : c.object-p.result < length c.args.objects.now.contents.processes = omega (arith, named, c.requires.sizes, c.requires.agrees.sizes, c.object-p.ensures.value) in
    let faulted : is_faulted (process_at c.args.objects.now c.object-p.result).state ≡ true = search rules in
    c.make_ready.ensures.agrees (agrees_but r c.object-p.result c.requires.agrees (nowhere_stopped r c.object-p.result c.requires.agrees there (faulted_due _ faulted)))
