use Rattle.separation_policy.proofs.Bounded.{authority_law}
use Rattle.separation_policy.proofs.laws.authority_law.Goals as goal

pub returns : goal.returns
returns c = authority_law
