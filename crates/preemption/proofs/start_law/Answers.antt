use Rattle.preemption.proofs.Beginning.{start}
use Rattle.preemption.proofs.start_law.Goals as goal

pub returns : goal.returns
returns c = start
