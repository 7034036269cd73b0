use Rattle.separation_policy.proofs.Reading.{writer_law}
use Rattle.separation_policy.proofs.laws.writer_law.Goals as goal

pub returns : goal.returns
returns c = writer_law
