use Rattle.quiet_runs.proofs.Simulating.{simulation_law}
use Rattle.quiet_runs.proofs.simulation_law.Goals as goal

pub returns : goal.returns
returns c = simulation_law
