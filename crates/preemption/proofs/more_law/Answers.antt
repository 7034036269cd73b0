use Rattle.preemption.proofs.Idling.{more}
use Rattle.preemption.proofs.more_law.Goals as goal

pub returns : goal.returns
returns c = more
