use Rattle.separation_lines.proofs.ReadBack.{read_back_law}
use Rattle.separation_lines.proofs.laws.read_back_law.Goals as goal

pub returns : goal.returns
returns c = read_back_law
