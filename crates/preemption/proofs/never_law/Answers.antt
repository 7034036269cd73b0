use Rattle.preemption.proofs.Runs.{never}
use Rattle.preemption.proofs.never_law.Goals as goal

pub returns : goal.returns
returns c = never
