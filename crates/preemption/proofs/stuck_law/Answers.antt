use Rattle.preemption.proofs.Nobody.{stuck}
use Rattle.preemption.proofs.stuck_law.Goals as goal

pub returns : goal.returns
returns c = stuck
