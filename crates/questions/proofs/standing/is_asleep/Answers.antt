use Rattle.std.proofs.Common.{◌∙◌, length, sym, arith}
use Rattle.schedules.specs.Queues.{sleepers_of, stands_in}
use Rattle.questions.proofs.Some.{some-here, some-more, some-zero}
use Rattle.questions.proofs.standing.is_asleep.Goals as goal

pub each-init : goal.each-init
each-init c = some-zero (λ on. stands_in (sleepers_of c.args.queues.now on) c.args.p)

pub returns-then-sleeps_on : goal.returns-then-sleeps_on
returns-then-sleeps_on c =
    let q = c.args.queues.now in
    sym (some-here (λ on. stands_in (sleepers_of q on) c.args.p) (length q.sleepers) c.each.on (omega (arith, c.requires, c.each-test.true))
    (sym c.sleeps_on.ensures ∙ c.if-sleeps_on.true))

pub each-preserved : goal.each-preserved
each-preserved c =
    some-more (λ on. stands_in (sleepers_of c.args.queues.now on) c.args.p) c.each.on c.each.invariant (sym c.sleeps_on.ensures ∙ c.if-sleeps_on.false)
