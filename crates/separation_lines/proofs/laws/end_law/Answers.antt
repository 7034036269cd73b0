use Rattle.separation_lines.proofs.Ending.{end_law}
use Rattle.separation_lines.proofs.laws.end_law.Goals as goal

pub returns : goal.returns
returns c = end_law
