use Rattle.fault_path.proofs.Sleepers.{listening_means}
use Rattle.fault_path.proofs.message_path.listening.listen.Goals as goal

pub returns-clause-means : goal.returns-clause-means
returns-clause-means c =
    listening_means c.args.objects.now c.args.queues.now c.args.p c.args.accept c.receive.new.objects c.receive.new.queues _ _ c.receive.ensures.objects c.receive.ensures.queues c.wake.ensures.means c.wake.ensures.queues_mean
