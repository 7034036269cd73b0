use Rattle.std.proofs.Common.{◌∙◌, sym, arith}
use Rattle.object_store.specs.Meaning.{state_map}
use Rattle.object_store.specs.Places.{cap_in, places_in}
use Rattle.questions.specs.Atom.{is_held}
use Rattle.questions.proofs.Some.{some-here, some-more, some-zero}
use Rattle.questions.proofs.object_holds.object_holds.Goals as goal

pub each-init : goal.each-init
each-init g c = record {
  none = some-zero (λ i. is_held c.args.holding (cap_in (state_map c.args.objects.now) c.args.kind c.args.n i));
  fetches = omega arith;
}

pub returns-then-place_holds-clause-value : goal.returns-then-place_holds-clause-value
returns-then-place_holds-clause-value g c =
    sym (some-here (λ i. is_held c.args.holding (cap_in (state_map c.args.objects.now) c.args.kind c.args.n i)) (places_in c.args.kind) c.each.i
    (omega (arith, c.places-i-end.ensures, c.each-test.true)) (sym c.place_holds.ensures.value ∙ c.if-place_holds.true))

pub each-preserved : goal.each-preserved
each-preserved g c = record {
  none =
      some-more (λ i. is_held c.args.holding (cap_in (state_map c.args.objects.now) c.args.kind c.args.n i)) c.each.i c.each.invariant.none
      (sym c.place_holds.ensures.value ∙ c.if-place_holds.false);
  fetches = omega (arith, c.place_holds.ensures.counted, c.each.invariant.fetches);
}
