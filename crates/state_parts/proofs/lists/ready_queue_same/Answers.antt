use Rattle.std.proofs.Common.{refl, arith}
use Rattle.std.specs.Option.{option_eq}
use Rattle.std.proofs.Common.{nat_eq}
use Rattle.std.proofs.lemmas.Option.{slice_get_past}
use Rattle.schedules.specs.Queues.{ready_queue}
use Rattle.state_parts.proofs.Ends.{ext_get, of_not, both_end}
use Rattle.state_parts.proofs.lists.ready_queue_same.Goals as goal

pub returns-then-is_none : goal.returns-then-is_none
returns-then-is_none c =
    let here = ready_queue c.args.a.now c.args.priority in
    let there = ready_queue c.args.b.now c.args.priority in
    let same = of_not (option_eq nat_eq c.ready_at-next.result c.ready_at.result) c.if-ne.ensures in
    (λ _. both_end here there c.loop-n.n c.loop-n.invariant c.ready_at-next.result c.ready_at.result c.ready_at-next.ensures.value c.ready_at.ensures.value same c.if-is_none.ensures, λ _. refl)

pub returns : goal.returns
returns c =
    let here = ready_queue c.args.a.now c.args.priority in
    let there = ready_queue c.args.b.now c.args.priority in
    let end = c.loop-n-test.false in
    let few = c.ready_at-here.ensures.bound in
    let few_too = c.ready_at-there.ensures.bound in
    (λ _. ext_get here there c.loop-n.n c.loop-n.invariant (slice_get_past here c.loop-n.n (omega (arith, end, few))) (slice_get_past there c.loop-n.n (omega (arith, end, few_too))), λ _. refl)
