use Rattle.std.proofs.Common.{◌+◌, ◌<◌, ◌++◌, List, Option, length, refl, ap, ◌∙◌, arith, sym, ap₂, ℕ}
use Rattle.cap_format.specs.Capability.{Capability}
use Rattle.object_store.specs.Places.{places_in}
use Rattle.separation_check.specs.declared.crossing.Crossing.{Crossing}
use Rattle.separation_check.specs.Crossings.{listed, crossing_by, stored_cap}
use Rattle.separation_policy.specs.Policy.{domain_of}
use Rattle.separation_check.specs.Marks.{marks_by}
use Rattle.separation_check.proofs.Marking.{marks_below-none, one-mark-more}
use Rattle.separation_check.proofs.Gathered.{none-yet, one-more}
use Rattle.separation_check.proofs.Lengths.{room-here}
use Rattle.separation_check.proofs.capabilities.push_object.Goals as goal

pub each-init : goal.each-init
each-init g c = record {
  found = none-yet (λ i. listed (crossing_by c.args.policy.now c.args.kind c.args.n i (stored_cap c.args.objects.now c.args.kind c.args.n i))) c.args.found.now.items;
  room = refl;
  marks = c.none-marks.ensures ∙ sym (marks_below-none (λ i. marks_by (domain_of c.args.policy.now c.args.kind c.args.n) (stored_cap c.args.objects.now c.args.kind c.args.n i)));
  fetches = omega arith;
}

pub push-requires : goal.push-requires
push-requires g c =
    let policy = c.args.policy.now in
    let kind = c.args.kind in
    let f : ℕ → List Crossing = λ i. listed (crossing_by policy kind c.args.n i (stored_cap c.args.objects.now kind c.args.n i)) in
    let there : c.each.i < places_in kind = omega (arith, c.places-i-end.ensures, c.each-test.true) in
    let here = room-here f (places_in kind) c.each.i c.args.found.now.items c.each.found.items there c.each.invariant.found in
    let this = ap (λ (o : Option Crossing). length (listed o)) (c.crossing_by.ensures ∙ ap (λ (cap : Capability). crossing_by policy kind c.args.n c.each.i cap) c.stored_cap-cap.ensures.value) in
    omega (arith, here, this, c.args.found.now.ok.0, c.each.found.ok.0, c.requires.room, c.each.invariant.room)

pub each-preserved : goal.each-preserved
each-preserved g c =
    let policy = c.args.policy.now in
    let kind = c.args.kind in
    record {
      found = one-more (λ i. listed (crossing_by policy kind c.args.n i (stored_cap c.args.objects.now kind c.args.n i))) c.each.i (c.each.i + 1) c.args.found.now.items c.each.found.items _ refl c.each.invariant.found
          (c.push.ensures.value ∙ ap (λ (o : Option Crossing). c.each.found.items ++ listed o) (c.crossing_by.ensures ∙ ap (λ (cap : Capability). crossing_by policy kind c.args.n c.each.i cap) c.stored_cap-cap.ensures.value));
      room = c.push.ensures.capacity ∙ c.each.invariant.room;
      marks = one-mark-more (λ i. marks_by (domain_of policy kind c.args.n) (stored_cap c.args.objects.now kind c.args.n i)) c.each.i c.each.marks c.marks_by.result c.and-marks.result c.each.invariant.marks
          (c.marks_by.ensures ∙ ap₂ (λ (d : ℕ) (cap : Capability). marks_by d cap) c.domain_of-domain.ensures c.stored_cap-cap.ensures.value) c.and-marks.ensures;
      fetches = omega (arith, c.stored_cap-cap.ensures.counted, c.each.invariant.fetches);
    }
