use Rattle.confinement.proofs.Bounding.{beside_law}
use Rattle.confinement.proofs.authority.beside.Goals as goal

pub returns : goal.returns
returns c = beside_law
