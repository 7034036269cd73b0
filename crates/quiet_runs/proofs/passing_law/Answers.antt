use Rattle.quiet_runs.proofs.Rounds.{passing_law}
use Rattle.quiet_runs.proofs.passing_law.Goals as goal

pub returns : goal.returns
returns c = passing_law
