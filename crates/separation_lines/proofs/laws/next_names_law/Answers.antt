use Rattle.separation_lines.proofs.Kept.{next_names_law}
use Rattle.separation_lines.proofs.laws.next_names_law.Goals as goal

pub returns : goal.returns
returns c = next_names_law
