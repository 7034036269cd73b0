use Rattle.confinement.proofs.Families.{family_law}
use Rattle.confinement.proofs.authority.family.Goals as goal

pub returns : goal.returns
returns c = family_law
