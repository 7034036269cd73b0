use Rattle.std.proofs.Common.{◌≡◌, ◌++◌, ◌∙◌, List, ℕ, length, sym, ap, arith}
use Rattle.separation_program.specs.Text.{one_if, related_other}
use Rattle.separation_program.proofs.Related.{related_below-more, related_below-none}
use Rattle.separation_program.proofs.names.put_related.Goals as goal

pub each-init : goal.each-init
each-init g c =
    let none : length c.new-found.result.items ≡ 0 = ap length c.new-found.ensures in
    record {
      items = c.new-found.ensures ∙ sym (related_below-none c.args.policy.now c.args.relation c.args.domain);
      few = omega (arith, none);
    }

pub each-preserved : goal.each-preserved
each-preserved g c =
    let few = c.push_if_related.ensures.few in
    let before = c.each.invariant.few in
    record {
      items =
          c.push_if_related.ensures.items
          ∙ ap (λ (list : List ℕ). list ++ one_if (related_other c.args.policy.now c.args.relation c.args.domain c.each.other) c.each.other) c.each.invariant.items
          ∙ sym (related_below-more c.args.policy.now c.args.relation c.args.domain c.each.other);
      few = omega (arith, few, before);
    }
