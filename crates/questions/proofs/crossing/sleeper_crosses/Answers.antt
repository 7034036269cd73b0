use Rattle.std.proofs.Common.{◌∙◌, sym, arith}
use Rattle.separation_check.specs.Crossings.{process_crossings, sleeper_limit}
use Rattle.questions.proofs.Any.{any-here, any-more, any-zero}
use Rattle.questions.proofs.crossing.sleeper_crosses.Goals as goal

pub each-init : goal.each-init
each-init c = any-zero (process_crossings c.args.policy.now c.args.queues.now)

pub returns-then-process_crosses : goal.returns-then-process_crosses
returns-then-process_crosses c =
    any-here (process_crossings c.args.policy.now c.args.queues.now) (sleeper_limit c.args.queues.now) c.each.p
    (omega (arith, c.sleeper_limit-p-end.ensures.value, c.each-test.true)) (sym c.process_crosses.ensures ∙ c.if-process_crosses.true)

pub each-preserved : goal.each-preserved
each-preserved c =
    any-more (process_crossings c.args.policy.now c.args.queues.now) c.each.p c.each.invariant (sym c.process_crosses.ensures ∙ c.if-process_crosses.false)
