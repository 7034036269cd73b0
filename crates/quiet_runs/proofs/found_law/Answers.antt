use Rattle.quiet_runs.proofs.Found.{found_law}
use Rattle.quiet_runs.proofs.found_law.Goals as goal

pub returns : goal.returns
returns c = found_law
