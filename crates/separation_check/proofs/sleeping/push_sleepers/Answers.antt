use Rattle.std.proofs.Common.{◌+◌, ◌<◌, ◌∙◌, refl, arith}
use Rattle.separation_check.specs.Crossings.{process_crossings, sleeper_limit}
use Rattle.separation_check.proofs.Gathered.{none-yet, one-more}
use Rattle.separation_check.proofs.Lengths.{room-here}
use Rattle.separation_check.proofs.sleeping.push_sleepers.Goals as goal

pub each-init : goal.each-init
each-init c = record {
  found = none-yet (process_crossings c.args.policy.now c.args.queues.now) c.args.found.now.items;
  room = refl;
}

pub push_process-requires-clause-room : goal.push_process-requires-clause-room
push_process-requires-clause-room c =
    let f = process_crossings c.args.policy.now c.args.queues.now in
    let limit = sleeper_limit c.args.queues.now in
    let there : c.each.p < limit = omega (arith, c.sleeper_limit-p-end.ensures.value, c.each-test.true) in
    let here = room-here f limit c.each.p c.args.found.now.items c.each.found.items there c.each.invariant.found in
    omega (arith, here, c.args.found.now.ok.0, c.each.found.ok.0, c.requires.room, c.each.invariant.room)

pub each-preserved : goal.each-preserved
each-preserved c = record {
  found = one-more (process_crossings c.args.policy.now c.args.queues.now) c.each.p (c.each.p + 1) c.args.found.now.items c.each.found.items _ refl c.each.invariant.found c.push_process.ensures.value;
  room = c.push_process.ensures.capacity ∙ c.each.invariant.room;
}
