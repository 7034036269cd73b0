use Rattle.quiet_runs.proofs.Held.{held_law}
use Rattle.quiet_runs.proofs.held_law.Goals as goal

pub returns : goal.returns
returns c = held_law
