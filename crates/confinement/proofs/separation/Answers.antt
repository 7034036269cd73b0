use Rattle.confinement.proofs.Runs.{separation}
use Rattle.confinement.proofs.separation.Goals as goal

pub returns : goal.returns
returns c = separation
