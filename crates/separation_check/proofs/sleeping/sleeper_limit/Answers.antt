use Rattle.std.proofs.Common.{◌+◌, refl, sym, ◌∙◌, arith}
use Rattle.separation_check.specs.Crossings.{limit_on}
use Rattle.separation_check.proofs.Most.{most-zero, most-more}
use Rattle.separation_check.proofs.sleeping.sleeper_limit.Goals as goal

pub each-init : goal.each-init
each-init c = record { limit = sym (most-zero (limit_on c.args.queues.now)); most = omega arith }

pub each-preserved : goal.each-preserved
each-preserved c = record {
  limit = c.greater-limit.ensures
      ∙ most-more (limit_on c.args.queues.now) c.each.on (c.each.on + 1) c.each.limit c.limit_on.result refl c.each.invariant.limit c.limit_on.ensures.value;
  most = omega (arith, c.greater-limit.ensures, c.each.invariant.most, c.limit_on.ensures.most);
}
