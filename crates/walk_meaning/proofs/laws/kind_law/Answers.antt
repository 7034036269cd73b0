use Rattle.walk_meaning.proofs.KindLaw.{kind_law}
use Rattle.walk_meaning.proofs.laws.kind_law.Goals as goal

pub returns : goal.returns
returns c = kind_law
