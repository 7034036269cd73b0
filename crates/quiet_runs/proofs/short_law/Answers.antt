use Rattle.quiet_runs.proofs.Found.{short_law}
use Rattle.quiet_runs.proofs.short_law.Goals as goal

pub returns : goal.returns
returns c = short_law
