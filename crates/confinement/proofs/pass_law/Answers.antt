use Rattle.confinement.proofs.Passing.Events.{pass_law}
use Rattle.confinement.proofs.pass_law.Goals as goal

pub returns : goal.returns
returns c = pass_law
