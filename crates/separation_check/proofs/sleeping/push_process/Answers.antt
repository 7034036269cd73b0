use Rattle.std.proofs.Common.{◌≡◌, ℕ, ◌+◌, ◌<◌, ◌++◌, List, Option, length, refl, ap, ◌∙◌, arith}
use Rattle.separation_check.specs.declared.crossing.Crossing.{Crossing}
use Rattle.separation_check.specs.Crossings.{all_below, listed, sleeper_on}
use Rattle.separation_check.proofs.Gathered.{none-yet, one-more}
use Rattle.separation_check.proofs.Lengths.{room-here}
use Rattle.separation_check.proofs.sleeping.push_process.Goals as goal

pub each-init : goal.each-init
each-init c = record {
  found = none-yet (λ on. listed (sleeper_on c.args.policy.now c.args.queues.now c.args.p on)) c.args.found.now.items;
  room = refl;
}

pub push-requires : goal.push-requires
push-requires c =
    let f : ℕ → List Crossing = λ on. listed (sleeper_on c.args.policy.now c.args.queues.now c.args.p on) in
    let count = length c.args.queues.now.sleepers in
    let there : c.each.on < count = omega (arith, c.requires.processes, c.each-test.true) in
    let here = room-here f count c.each.on c.args.found.now.items c.each.found.items there c.each.invariant.found in
    let this = ap (λ (o : Option Crossing). length (listed o)) c.sleeper_on.ensures in
    omega (arith, here, this, c.args.found.now.ok.0, c.each.found.ok.0, c.requires.room, c.each.invariant.room)

pub each-preserved : goal.each-preserved
each-preserved c = record {
  found = one-more (λ on. listed (sleeper_on c.args.policy.now c.args.queues.now c.args.p on)) c.each.on (c.each.on + 1) c.args.found.now.items c.each.found.items _ refl c.each.invariant.found
      (c.push.ensures.value ∙ ap (λ (o : Option Crossing). c.each.found.items ++ listed o) c.sleeper_on.ensures);
  room = c.push.ensures.capacity ∙ c.each.invariant.room;
}

pub returns-clause-value : goal.returns-clause-value
returns-clause-value c =
    let end : c.each.on ≡ length c.args.queues.now.sleepers = omega arith in
    c.each.invariant.found ∙ ap (λ (n : ℕ). c.args.found.now.items ++ all_below (λ on. listed (sleeper_on c.args.policy.now c.args.queues.now c.args.p on)) n) end
