use Rattle.preemption.proofs.Seeing.{sees}
use Rattle.preemption.proofs.sees_law.Goals as goal

pub returns : goal.returns
returns c = sees
