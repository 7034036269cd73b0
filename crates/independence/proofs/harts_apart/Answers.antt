use Rattle.independence.proofs.Commuting.{harts_apart}
use Rattle.independence.proofs.harts_apart.Goals as goal

pub returns : goal.returns
returns c = harts_apart
