use Rattle.walk_meaning.proofs.BlockLaw.{block_law}
use Rattle.walk_meaning.proofs.laws.block_law.Goals as goal

pub returns : goal.returns
returns c = block_law
