use Rattle.policy_lines.proofs.With.{more_law}
use Rattle.policy_lines.proofs.laws.more_law.Goals as goal

pub returns : goal.returns
returns c = more_law
