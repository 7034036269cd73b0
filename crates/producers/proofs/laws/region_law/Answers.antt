use Rattle.producers.proofs.RegionLaw.{region_law}
use Rattle.producers.proofs.laws.region_law.Goals as goal

pub returns : goal.returns
returns c = region_law
