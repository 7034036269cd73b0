use Rattle.separation_policy.proofs.Reading.{reads_law}
use Rattle.separation_policy.proofs.laws.reads_law.Goals as goal

pub returns : goal.returns
returns c = reads_law
