use Rattle.std.proofs.Common.{ap}
use Rattle.object_store.specs.Meaning.{state_map}
use Rattle.object_store.specs.Store.{Store}
use Rattle.operations.specs.System.{system, Meant}
use Rattle.fault_path.proofs.FaultLaws.{reported_after, message_means}
use Rattle.fault_path.proofs.faults.report.Goals as goal

pub returns-clause-means : goal.returns-clause-means
returns-clause-means c =
    let s = c.args.objects.now in
    let meant = message_means s c.stop.new.objects c.args.p c.args.code c.args.address c.args.payload c.message_of-message.result c.requires.there (ap (λ (o : Store). o.items) c.stop.ensures.process) c.message_of-message.ensures in
    reported_after Meant (system (state_map s) c.args.queues.now) _ c.args.p c.args.code c.args.address c.args.payload c.args.endpoint c.args.to _ (system (state_map c.stop.new.objects) c.stop.new.queues) meant c.stop.ensures.means c.tell.ensures.means
