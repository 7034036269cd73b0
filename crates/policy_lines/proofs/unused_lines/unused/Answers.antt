use Rattle.std.proofs.Common.{subst}
use Rattle.confine_check.specs.Full.{AreFull}
use Rattle.policy_lines.proofs.Deciding.{each-unused}
use Rattle.policy_lines.proofs.Results.{if_ok}
use Rattle.policy_lines.proofs.unused_lines.unused.Goals as goal

pub returns-clause-each : goal.returns-clause-each
returns-clause-each g c =
    if_ok c.all_unused.result _ _
    (λ found is. each-unused c.args.machine.now (subst AreFull c.objects.ensures c.tell_full.ensures) c.args.policy.now found.items is)
    c.all_unused.ensures.value
