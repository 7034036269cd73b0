use Rattle.independence.proofs.Runs.{left_law}
use Rattle.independence.proofs.left_law.Goals as goal

pub returns : goal.returns
returns c = left_law
