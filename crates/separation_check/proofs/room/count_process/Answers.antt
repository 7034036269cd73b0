use Rattle.std.proofs.Common.{◌≡◌, ℕ, List, Option, length, sym, ap, ◌∙◌, arith}
use Rattle.separation_check.specs.declared.crossing.Crossing.{Crossing}
use Rattle.separation_check.specs.Crossings.{all_below, listed, sleeper_on}
use Rattle.separation_check.proofs.Lengths.{length-none, length-more}
use Rattle.separation_check.proofs.room.count_process.Goals as goal

pub each-init : goal.each-init
each-init c = record {
  crossings = sym (length-none (λ on. listed (sleeper_on c.args.policy.now c.args.queues.now c.args.p on)));
  most = omega arith;
}

pub overflow_add-crossings : goal.overflow_add-crossings
overflow_add-crossings c = omega (arith, c.each.invariant.most, c.count_of-crossings.ensures.most, c.each-test.true)

pub each-preserved : goal.each-preserved
each-preserved c =
    let f : ℕ → List Crossing = λ on. listed (sleeper_on c.args.policy.now c.args.queues.now c.args.p on) in
    let this = ap (λ (o : Option Crossing). length (listed o)) c.sleeper_on.ensures in
    let more = length-more f c.each.on in
    record {
      crossings = omega (arith, c.each.invariant.crossings, c.count_of-crossings.ensures.value, this, more);
      most = omega (arith, c.each.invariant.most, c.count_of-crossings.ensures.most);
    }

pub returns : goal.returns
returns c =
    let f : ℕ → List Crossing = λ on. listed (sleeper_on c.args.policy.now c.args.queues.now c.args.p on) in
    let end : c.each.on ≡ length c.args.queues.now.sleepers = omega arith in
    c.each.invariant.crossings ∙ ap (λ (n : ℕ). length (all_below f n)) end
