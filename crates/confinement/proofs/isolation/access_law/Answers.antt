use Rattle.confinement.proofs.Isolating.Runs.{same_access}
use Rattle.confinement.proofs.isolation.access_law.Goals as goal

pub returns : goal.returns
returns c = same_access
