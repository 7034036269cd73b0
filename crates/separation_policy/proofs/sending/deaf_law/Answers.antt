use Rattle.separation_policy.proofs.SendingHolding.{deaf_law}
use Rattle.separation_policy.proofs.sending.deaf_law.Goals as goal

pub returns : goal.returns
returns c = deaf_law
