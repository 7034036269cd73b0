use Rattle.quiet_runs.proofs.Simulating.{begun_law}
use Rattle.quiet_runs.proofs.begun_law.Goals as goal

pub returns : goal.returns
returns c = begun_law
