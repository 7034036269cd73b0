use Rattle.preemption.proofs.Beginning.{rest}
use Rattle.preemption.proofs.rest_law.Goals as goal

pub returns : goal.returns
returns c = rest
