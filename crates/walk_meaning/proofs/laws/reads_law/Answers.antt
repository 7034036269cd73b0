use Rattle.walk_meaning.proofs.ReadsLaw.{reads_law}
use Rattle.walk_meaning.proofs.laws.reads_law.Goals as goal

pub returns : goal.returns
returns c = reads_law
