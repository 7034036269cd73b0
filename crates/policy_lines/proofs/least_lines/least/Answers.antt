use Rattle.std.proofs.Common.{sym, ◌∙◌, subst}
use Rattle.confine_check.specs.Full.{AreFull}
use Rattle.machine_state.specs.State.{state_of}
use Rattle.policy_lines.specs.Needed.{NeededValue, IsNeeded}
use Rattle.policy_lines.proofs.Deciding.{exact}
use Rattle.policy_lines.proofs.Needing.{needed_law}
use Rattle.policy_lines.proofs.Results.{if_ok}
use Rattle.policy_lines.proofs.least_lines.least.Goals as goal

pub returns-clause-least : goal.returns-clause-least
returns-clause-least g c =
    let policy = c.args.policy.now in
    let m = c.args.machine.now in
    if_ok c.find_needed-needed.result _ _
    (λ needed is. subst (λ (v : NeededValue). IsNeeded policy (state_of m) v) (sym is)
    (needed_law c.all_law.ensures c.remedy_law.ensures policy (state_of m) (exact m (subst AreFull c.objects.ensures c.tell_full.ensures))))
    c.find_needed-needed.ensures.value

pub returns-clause-after : goal.returns-clause-after
returns-clause-after g c = c.clear.ensures ∙ c.find_needed-needed.ensures.bare
