use Rattle.confine_check.proofs.Decided.{verdict_law}
use Rattle.confine_check.proofs.laws.verdict_law.Goals as goal

pub returns : goal.returns
returns c = verdict_law
