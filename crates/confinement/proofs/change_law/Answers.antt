use Rattle.confinement.proofs.Operating.{acts-applied}
use Rattle.confinement.proofs.change_law.Goals as goal

pub returns : goal.returns
returns c cut side reading w change may holds = acts-applied cut side reading w change may holds
