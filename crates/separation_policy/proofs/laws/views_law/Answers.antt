use Rattle.separation_policy.proofs.Reading.{views_law}
use Rattle.separation_policy.proofs.laws.views_law.Goals as goal

pub returns : goal.returns
returns c = views_law
