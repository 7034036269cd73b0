use Rattle.independence.proofs.Commuting.{independence_law}
use Rattle.independence.proofs.independence_law.Goals as goal

pub returns : goal.returns
returns c = independence_law
