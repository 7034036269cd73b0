use Rattle.separation_program.proofs.FedBack.{fed_back_law}
use Rattle.separation_program.proofs.laws.fed_back_law.Goals as goal

pub returns : goal.returns
returns c = fed_back_law c.names_law.ensures c.read_back_law.ensures c.replaced_law.ensures c.end_law.ensures
