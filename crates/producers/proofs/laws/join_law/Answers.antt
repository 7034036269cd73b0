use Rattle.producers.proofs.Joins.{join_law}
use Rattle.producers.proofs.laws.join_law.Goals as goal

pub returns : goal.returns
returns c = join_law
