use Rattle.std.proofs.Common.{◌++◌, Option, List, take, sym, ◌∙◌, ap, subst, arith}
use Rattle.std.specs.List.{All}
use Rattle.separation_check.specs.Crossings.{listed}
use Rattle.policy_lines.specs.declared.permission.Permission.{Permission}
use Rattle.policy_lines.specs.Permission.{IsMade}
use Rattle.policy_lines.proofs.Named.{one-named, made-named}
use Rattle.policy_lines.proofs.naming.named_by.Goals as goal

pub each-preserved : goal.each-preserved
each-preserved c =
    one-named c.args.count c.args.found.now c.each.i c.crossing_at.result.now c.each.lines.items _ (omega arith) c.crossing_at.ensures c.each.invariant
    (c.in_ok-push.ensures ∙ ap (λ (o : Option Permission). c.each.lines.items ++ listed o) c.made_line_for.ensures)

pub returns-clause-made : goal.returns-clause-made
returns-clause-made c =
    subst (λ (ls : List Permission). All (IsMade c.args.count) ls) (sym c.each.invariant) (made-named c.args.count (take c.each.i c.args.found.now))
