use Rattle.separation_policy.proofs.SendingHolding.{silent_law}
use Rattle.separation_policy.proofs.sending.silent_law.Goals as goal

pub returns : goal.returns
returns c = silent_law
