use Rattle.separation_policy.proofs.SendingHolding.{domain_cut_law}
use Rattle.separation_policy.proofs.sending.domain_cut_law.Goals as goal

pub returns : goal.returns
returns c = domain_cut_law
