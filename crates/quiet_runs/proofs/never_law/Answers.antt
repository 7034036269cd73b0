use Rattle.quiet_runs.proofs.Simulating.{never_law}
use Rattle.quiet_runs.proofs.never_law.Goals as goal

pub returns : goal.returns
returns c = never_law
