use Rattle.std.proofs.Common.{◌∙◌, ap}
use Rattle.machine_state.specs.State.{state_of}
use Rattle.separation_policy.specs.Policy.{PolicyValue}
use Rattle.separation_check.specs.Crossings.{forbidden_in}
use Rattle.policy_lines.proofs.least_lines.bare_crossings.Goals as goal

pub returns-clause-means : goal.returns-clause-means
returns-clause-means g c = c.in_ok-found.ensures.means ∙ ap (λ (p : PolicyValue). forbidden_in p (state_of c.args.machine.now)) c.clear.ensures
