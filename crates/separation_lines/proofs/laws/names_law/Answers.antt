use Rattle.separation_lines.proofs.Kept.{names_law}
use Rattle.separation_lines.proofs.laws.names_law.Goals as goal

pub returns : goal.returns
returns c = names_law
