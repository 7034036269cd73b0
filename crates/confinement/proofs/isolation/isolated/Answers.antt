use Rattle.confinement.proofs.Isolating.Runs.{isolation}
use Rattle.confinement.proofs.isolation.isolated.Goals as goal

pub returns : goal.returns
returns g c cut side apart = isolation cut side _ _ apart
