use Rattle.separation_policy.proofs.SendingHolding.{send_law}
use Rattle.separation_policy.proofs.sending.send_law.Goals as goal

pub returns : goal.returns
returns c = send_law
