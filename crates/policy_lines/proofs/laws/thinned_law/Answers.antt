use Rattle.policy_lines.proofs.Leaving.{thinned_law}
use Rattle.policy_lines.proofs.laws.thinned_law.Goals as goal

pub returns : goal.returns
returns c = thinned_law
