use Rattle.separation_policy.proofs.SendingHolding.{accept_law}
use Rattle.separation_policy.proofs.sending.accept_law.Goals as goal

pub returns : goal.returns
returns c = accept_law
