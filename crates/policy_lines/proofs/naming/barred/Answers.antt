use Rattle.std.proofs.Common.{is_none, refl, arith}
use Rattle.separation_check.specs.declared.crossing.Crossing.{Crossing}
use Rattle.policy_lines.specs.Needed.{made_line_for}
use Rattle.policy_lines.proofs.Filtered.{one-tried}
use Rattle.policy_lines.proofs.naming.barred.Goals as goal

pub each-preserved : goal.each-preserved
each-preserved c =
    one-tried (λ (x : Crossing). is_none (made_line_for c.args.count x)) c.args.found.now c.each.i c.crossing_at.result.now _ c.each.those.items _
    (omega arith) c.crossing_at.ensures refl c.each.invariant c.in_ok-push_barred.ensures
