use Rattle.separation_policy.proofs.SendingHolding.{wider_law}
use Rattle.separation_policy.proofs.sending.wider_law.Goals as goal

pub returns : goal.returns
returns c = wider_law
