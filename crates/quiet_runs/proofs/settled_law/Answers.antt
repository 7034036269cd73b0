use Rattle.quiet_runs.proofs.Found.{found-within}
use Rattle.quiet_runs.proofs.Settled.{settled_found}
use Rattle.quiet_runs.proofs.settled_law.Goals as goal

pub returns-clause-page : goal.returns-clause-page
returns-clause-page c = settled_found

pub returns-clause-step : goal.returns-clause-step
returns-clause-step c = found-within
