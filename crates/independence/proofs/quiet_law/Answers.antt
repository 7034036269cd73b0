use Rattle.independence.proofs.Quieting.{quiet_law}
use Rattle.independence.proofs.quiet_law.Goals as goal

pub returns : goal.returns
returns c = quiet_law
