use Rattle.quiet_runs.proofs.Simulating.{ever_law}
use Rattle.quiet_runs.proofs.ever_law.Goals as goal

pub returns : goal.returns
returns c = ever_law
