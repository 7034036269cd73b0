use Rattle.separation_check.proofs.Every.{all_law}
use Rattle.separation_check.proofs.laws.all_law.Goals as goal

pub returns : goal.returns
returns c = all_law
