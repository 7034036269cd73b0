use Rattle.separation_policy.proofs.SendingHolding.{deaf_to_law}
use Rattle.separation_policy.proofs.sending.deaf_to_law.Goals as goal

pub returns : goal.returns
returns c = deaf_to_law
