use Rattle.std.proofs.Common.{rules}
use Rattle.fault_path.proofs.FaultLaws.{fault_means}
use Rattle.fault_path.proofs.faults.stop.Goals as goal

pub returns-clause-means : goal.returns-clause-means
returns-clause-means c = fault_means c.args.objects.now c.args.queues.now c.args.p c.args.code c.args.address _ _ (search rules) (search rules)
