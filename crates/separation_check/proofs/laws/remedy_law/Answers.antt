use Rattle.separation_check.proofs.Remedies.{remedy_law}
use Rattle.separation_check.proofs.laws.remedy_law.Goals as goal

pub returns : goal.returns
returns c = remedy_law
