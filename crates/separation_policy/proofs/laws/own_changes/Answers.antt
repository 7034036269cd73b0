use Rattle.separation_policy.proofs.Theorems.{own_changes_law}
use Rattle.separation_policy.proofs.laws.own_changes.Goals as goal

pub returns : goal.returns
returns c = own_changes_law c.bounds.ensures c.beside.ensures
