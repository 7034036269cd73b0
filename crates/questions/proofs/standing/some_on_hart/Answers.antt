use Rattle.std.proofs.Common.{◌≡◌, ◌∙◌, Option, ℕ, true, false, is_some, length, sym, ap, arith}
use Rattle.schedules.specs.Queues.{hart_of}
use Rattle.questions.proofs.Some.{some-here, some-more, some-zero}
use Rattle.questions.proofs.standing.some_on_hart.Goals as goal

pub each-init : goal.each-init
each-init c = some-zero (λ hart. is_some (hart_of c.args.queues.now hart))

pub returns-then-is_some : goal.returns-then-is_some
returns-then-is_some c =
    let q = c.args.queues.now in
    let there : is_some (hart_of q c.each.hart) ≡ true = ap (λ (on : Option ℕ). is_some on) (sym c.on_hart.ensures.value) ∙ sym c.is_some.ensures ∙ c.if-is_some.true in
    sym (some-here (λ hart. is_some (hart_of q hart)) (length q.harts) c.each.hart (omega (arith, c.requires, c.each-test.true)) there)

pub each-preserved : goal.each-preserved
each-preserved c =
    let q = c.args.queues.now in
    let none : is_some (hart_of q c.each.hart) ≡ false = ap (λ (on : Option ℕ). is_some on) (sym c.on_hart.ensures.value) ∙ sym c.is_some.ensures ∙ c.if-is_some.false in
    some-more (λ hart. is_some (hart_of q hart)) c.each.hart c.each.invariant none
