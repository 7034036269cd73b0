use Rattle.separation_lines.proofs.ReadBack.{lines_read_back_law}
use Rattle.separation_lines.proofs.laws.lines_read_back_law.Goals as goal

pub returns : goal.returns
returns c = lines_read_back_law
