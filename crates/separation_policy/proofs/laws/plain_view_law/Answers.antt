use Rattle.separation_policy.proofs.Reading.{plain_view_law}
use Rattle.separation_policy.proofs.laws.plain_view_law.Goals as goal

pub returns : goal.returns
returns c = plain_view_law
