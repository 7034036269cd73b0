use Rattle.confinement.proofs.Bounding.{bounds_law}
use Rattle.confinement.proofs.authority.bounds.Goals as goal

pub returns : goal.returns
returns c = bounds_law
