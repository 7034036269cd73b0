use Rattle.producers.proofs.Joins.{same_key_law}
use Rattle.producers.proofs.laws.same_key_law.Goals as goal

pub returns : goal.returns
returns c = same_key_law
