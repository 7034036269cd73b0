use Rattle.policy_lines.proofs.Needing.{needed_law}
use Rattle.policy_lines.proofs.laws.needed_law.Goals as goal

pub returns : goal.returns
returns c = needed_law c.all_law.ensures c.remedy_law.ensures
