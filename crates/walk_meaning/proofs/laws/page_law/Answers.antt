use Rattle.walk_meaning.proofs.PageLaw.{page_law}
use Rattle.walk_meaning.proofs.laws.page_law.Goals as goal

pub returns : goal.returns
returns c = page_law
