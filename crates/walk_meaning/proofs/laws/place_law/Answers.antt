use Rattle.walk_meaning.proofs.PlaceLaw.{place_law}
use Rattle.walk_meaning.proofs.laws.place_law.Goals as goal

pub returns : goal.returns
returns c = place_law
