use Rattle.separation_lines.proofs.Replaced.{replaced_law}
use Rattle.separation_lines.proofs.laws.replaced_law.Goals as goal

pub returns : goal.returns
returns c = replaced_law
