use Rattle.std.proofs.Common.{◌≡◌, ◌∙◌, Bool, Option, true, false, is_some, sym, ap, arith}
use Rattle.object_store.specs.Places.{places_in}
use Rattle.separation_check.specs.declared.crossing.Crossing.{Crossing}
use Rattle.separation_check.specs.Crossings.{crossing_by, listed, stored_cap}
use Rattle.questions.specs.Atom.{is_any}
use Rattle.questions.proofs.Any.{any-here, any-listed, any-more, any-zero}
use Rattle.questions.proofs.crossing.object_crosses.Goals as goal

-- what is found in a place
found : (wanted got : Option Crossing) (there is : Bool) → got ≡ wanted → there ≡ is_some got → there ≡ is → is_any (listed wanted) ≡ is
found wanted got there is same some was = any-listed wanted ∙ ap (λ (o : Option Crossing). is_some o) (sym same) ∙ sym some ∙ was

pub each-init : goal.each-init
each-init g c = record {
  none = any-zero (λ i. listed (crossing_by c.args.policy.now c.args.kind c.args.n i (stored_cap c.args.objects.now c.args.kind c.args.n i)));
  fetches = omega arith;
}

pub returns-then-is_some-clause-value : goal.returns-then-is_some-clause-value
returns-then-is_some-clause-value g c =
    any-here (λ i. listed (crossing_by c.args.policy.now c.args.kind c.args.n i (stored_cap c.args.objects.now c.args.kind c.args.n i))) (places_in c.args.kind) c.each.i
    (omega (arith, c.places-i-end.ensures, c.each-test.true))
    (found _ c.crossing_by.result c.is_some.result true
    (c.crossing_by.ensures ∙ ap (crossing_by c.args.policy.now c.args.kind c.args.n c.each.i) c.stored_cap-cap.ensures.value) c.is_some.ensures c.if-is_some.true)

pub each-preserved : goal.each-preserved
each-preserved g c = record {
  none =
      any-more (λ i. listed (crossing_by c.args.policy.now c.args.kind c.args.n i (stored_cap c.args.objects.now c.args.kind c.args.n i))) c.each.i c.each.invariant.none
      (found _ c.crossing_by.result c.is_some.result false
      (c.crossing_by.ensures ∙ ap (crossing_by c.args.policy.now c.args.kind c.args.n c.each.i) c.stored_cap-cap.ensures.value) c.is_some.ensures c.if-is_some.false);
  fetches = omega (arith, c.stored_cap-cap.ensures.counted, c.each.invariant.fetches);
}
