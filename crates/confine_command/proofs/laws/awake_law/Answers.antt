use Rattle.confine_command.proofs.Awake.{awake_law}
use Rattle.confine_command.proofs.laws.awake_law.Goals as goal

pub returns : goal.returns
returns c = awake_law
