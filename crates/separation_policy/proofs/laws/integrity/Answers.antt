use Rattle.separation_policy.proofs.Theorems.{integrity_law}
use Rattle.separation_policy.proofs.laws.integrity.Goals as goal

pub returns : goal.returns
returns c = integrity_law c.bounds.ensures c.beside.ensures
