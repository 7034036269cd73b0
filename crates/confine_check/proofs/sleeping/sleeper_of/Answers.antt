use Rattle.std.proofs.Common.{◌≡◌, length, refl, sym, ap, ◌∙◌, arith}
use Rattle.confine_check.specs.Sides.{cut_of}
use Rattle.confine_check.specs.Breach.{least_below, least_on}
use Rattle.confine_check.proofs.Least.{least_zero, least_more}
use Rattle.confine_check.proofs.sleeping.sleeper_of.Goals as goal

pub each-init : goal.each-init
each-init c = sym (least_zero (least_on (cut_of c.args.cut.now) c.args.queues.now))

pub each-preserved : goal.each-preserved
each-preserved c = c.lesser-least.ensures ∙ least_more (least_on (cut_of c.args.cut.now) c.args.queues.now) c.each.on _ c.each.least c.least_on.result refl c.each.invariant c.least_on.ensures

pub returns : goal.returns
returns c =
    let end : c.each.on ≡ length c.args.queues.now.sleepers = omega arith in
    c.each.invariant ∙ ap (λ n. least_below (least_on (cut_of c.args.cut.now) c.args.queues.now) n) end
