use Rattle.producers.proofs.Joins.{key_law}
use Rattle.producers.proofs.laws.key_law.Goals as goal

pub returns : goal.returns
returns c = key_law
