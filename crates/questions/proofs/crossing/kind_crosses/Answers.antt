use Rattle.std.proofs.Common.{◌∙◌, sym, arith}
use Rattle.object_store.specs.Store.{size_of}
use Rattle.separation_check.specs.Crossings.{object_crossings, stored_cap}
use Rattle.questions.proofs.Any.{any-here, any-more, any-zero}
use Rattle.questions.proofs.crossing.kind_crosses.Goals as goal

pub each-init : goal.each-init
each-init g c = record {
  none = any-zero (object_crossings c.args.policy.now (stored_cap c.args.objects.now) c.args.kind);
  fetches = omega arith;
}

pub returns-then-object_crosses-clause-value : goal.returns-then-object_crosses-clause-value
returns-then-object_crosses-clause-value g c =
    any-here (object_crossings c.args.policy.now (stored_cap c.args.objects.now) c.args.kind) (size_of c.args.objects.now.items c.args.kind) c.each.n
    (omega (arith, c.size-n-end.ensures, c.each-test.true)) (sym c.object_crosses.ensures.value ∙ c.if-object_crosses.true)

pub each-preserved : goal.each-preserved
each-preserved g c =
    let counted = c.object_crosses.ensures.counted c.if-object_crosses.false in
    record {
      none =
          any-more (object_crossings c.args.policy.now (stored_cap c.args.objects.now) c.args.kind) c.each.n c.each.invariant.none
          (sym c.object_crosses.ensures.value ∙ c.if-object_crosses.false);
      fetches = omega (arith, counted, c.each.invariant.fetches);
    }
