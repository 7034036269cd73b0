use Rattle.walk_meaning.proofs.SlotsLaw.{slots_law}
use Rattle.walk_meaning.proofs.laws.slots_law.Goals as goal

pub returns : goal.returns
returns c = slots_law
