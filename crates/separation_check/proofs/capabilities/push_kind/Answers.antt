use Rattle.std.proofs.Common.{◌+◌, ◌<◌, refl, sym, ◌∙◌, arith}
use Rattle.object_store.specs.Store.{size_of}
use Rattle.separation_check.specs.Crossings.{object_crossings, stored_cap}
use Rattle.separation_check.specs.Marks.{object_marks}
use Rattle.separation_check.proofs.Marking.{marks_below-none, one-mark-more}
use Rattle.separation_check.proofs.Gathered.{none-yet, one-more}
use Rattle.separation_check.proofs.Lengths.{room-here}
use Rattle.separation_check.proofs.capabilities.push_kind.Goals as goal

pub each-init : goal.each-init
each-init g c = record {
  found = none-yet (object_crossings c.args.policy.now (stored_cap c.args.objects.now) c.args.kind) c.args.found.now.items;
  room = refl;
  marks = c.none-marks.ensures ∙ sym (marks_below-none (object_marks c.args.policy.now (stored_cap c.args.objects.now) c.args.kind));
  fetches = omega arith;
}

pub push_object-requires-clause-room : goal.push_object-requires-clause-room
push_object-requires-clause-room g c =
    let f = object_crossings c.args.policy.now (stored_cap c.args.objects.now) c.args.kind in
    let size = size_of c.args.objects.now.items c.args.kind in
    let there : c.each.n < size = omega (arith, c.size-n-end.ensures, c.each-test.true) in
    let here = room-here f size c.each.n c.args.found.now.items c.each.found.items there c.each.invariant.found in
    omega (arith, here, c.args.found.now.ok.0, c.each.found.ok.0, c.requires.room, c.each.invariant.room)

pub each-preserved : goal.each-preserved
each-preserved g c = record {
  found = one-more (object_crossings c.args.policy.now (stored_cap c.args.objects.now) c.args.kind) c.each.n (c.each.n + 1) c.args.found.now.items c.each.found.items _ refl c.each.invariant.found c.push_object.ensures.value;
  room = c.push_object.ensures.capacity ∙ c.each.invariant.room;
  marks = one-mark-more (object_marks c.args.policy.now (stored_cap c.args.objects.now) c.args.kind) c.each.n c.each.marks _ c.and-marks.result c.each.invariant.marks c.push_object.ensures.marks c.and-marks.ensures;
  fetches = omega (arith, c.push_object.ensures.counted, c.each.invariant.fetches);
}
