use Rattle.preemption.proofs.Runs.{run}
use Rattle.preemption.proofs.run_law.Goals as goal

pub returns : goal.returns
returns c = run
