use Rattle.separation_policy.proofs.Theorems.{noninterference_law}
use Rattle.separation_policy.proofs.laws.noninterference.Goals as goal

pub returns : goal.returns
returns c = noninterference_law c.isolation.ensures
