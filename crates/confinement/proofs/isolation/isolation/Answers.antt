use Rattle.confinement.proofs.Isolating.Runs.{isolation}
use Rattle.confinement.proofs.isolation.isolation.Goals as goal

pub returns : goal.returns
returns c = isolation
