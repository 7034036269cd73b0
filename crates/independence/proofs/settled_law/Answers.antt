use Rattle.independence.proofs.Settling.{settled_law}
use Rattle.independence.proofs.settled_law.Goals as goal

pub returns : goal.returns
returns c = settled_law
