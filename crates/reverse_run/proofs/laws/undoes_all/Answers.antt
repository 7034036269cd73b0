use Rattle.reverse_run.proofs.Called.{back}
use Rattle.reverse_run.proofs.laws.undoes_all.Goals as goal

pub returns : goal.returns
returns c = back
