use Rattle.confinement.proofs.Runs.{reach_law}
use Rattle.confinement.proofs.reach_law.Goals as goal

pub returns : goal.returns
returns c = reach_law
