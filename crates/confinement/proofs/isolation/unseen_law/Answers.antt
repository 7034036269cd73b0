use Rattle.confinement.proofs.Isolating.Runs.{event_unseen}
use Rattle.confinement.proofs.isolation.unseen_law.Goals as goal

pub returns : goal.returns
returns c = event_unseen
