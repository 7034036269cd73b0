use Rattle.separation_check.proofs.Placed.{exactly_law}
use Rattle.separation_check.proofs.laws.exactly_law.Goals as goal

pub returns : goal.returns
returns c = exactly_law
