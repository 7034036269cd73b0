use Rattle.confinement.proofs.Isolating.Told.{all_told}
use Rattle.confinement.proofs.isolation.told_law.Goals as goal

pub returns : goal.returns
returns c = all_told
