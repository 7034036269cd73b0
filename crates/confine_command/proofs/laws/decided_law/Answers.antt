use Rattle.confine_command.proofs.Written.{decided_law}
use Rattle.confine_command.proofs.laws.decided_law.Goals as goal

pub returns : goal.returns
returns c = decided_law
