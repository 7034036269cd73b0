use Rattle.confinement.proofs.Isolating.Runs.{same_turn}
use Rattle.confinement.proofs.isolation.turn_law.Goals as goal

pub returns : goal.returns
returns c = same_turn
