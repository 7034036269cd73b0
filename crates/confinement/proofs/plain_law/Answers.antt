use Rattle.confinement.proofs.Plain.{plain_law}
use Rattle.confinement.proofs.plain_law.Goals as goal

pub returns : goal.returns
returns c = plain_law
