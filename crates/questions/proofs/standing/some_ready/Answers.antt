use Rattle.std.proofs.Common.{◌≡◌, ◌∙◌, ◌==◌, Option, ℕ, true, false, not, is_some, length, sym, ap, arith}
use Rattle.schedules.specs.Queues.{priorities, ready_queue}
use Rattle.questions.proofs.Some.{is_some-first, some-here, some-more, some-zero}
use Rattle.questions.proofs.standing.some_ready.Goals as goal

pub each-init : goal.each-init
each-init c = some-zero (λ priority. not (length (ready_queue c.args.queues.now priority) == 0))

pub returns-then-is_some : goal.returns-then-is_some
returns-then-is_some c =
    let q = c.args.queues.now in
    let there : not (length (ready_queue q c.each.priority) == 0) ≡ true =
    sym (is_some-first (ready_queue q c.each.priority)) ∙ ap (λ (on : Option ℕ). is_some on) (sym c.ready_at.ensures.value) ∙ sym c.is_some.ensures ∙ c.if-is_some.true in
    sym (some-here (λ priority. not (length (ready_queue q priority) == 0)) priorities c.each.priority (omega (arith, c.each-test.true)) there)

pub each-preserved : goal.each-preserved
each-preserved c =
    let q = c.args.queues.now in
    let none : not (length (ready_queue q c.each.priority) == 0) ≡ false =
    sym (is_some-first (ready_queue q c.each.priority)) ∙ ap (λ (on : Option ℕ). is_some on) (sym c.ready_at.ensures.value) ∙ sym c.is_some.ensures ∙ c.if-is_some.false in
    some-more (λ priority. not (length (ready_queue q priority) == 0)) c.each.priority c.each.invariant none
