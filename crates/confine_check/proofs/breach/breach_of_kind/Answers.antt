use Rattle.std.proofs.Common.{◌<◌, ◌≤◌, sym, ◌∙◌, arith}
use Rattle.object_store.specs.Store.{size_of}
use Rattle.confine_check.specs.Sides.{cut_of}
use Rattle.confine_check.specs.Breach.{breach_of_object}
use Rattle.confine_check.proofs.First.{first_next, first_here, first_past}
use Rattle.confine_check.proofs.breach.breach_of_kind.Goals as goal

pub returns-in-Some-clause-value : goal.returns-in-Some-clause-value
returns-in-Some-clause-value g c =
    let inside : c.each.n < size_of c.args.objects.now.items c.args.kind = omega arith in
    sym (first_here (breach_of_object (cut_of c.args.cut.now) c.args.objects.now c.args.kind) c.each.n (size_of c.args.objects.now.items c.args.kind) _ inside (sym c.in-Some.ensures.value) c.each.invariant.rest)

pub each-preserved : goal.each-preserved
each-preserved g c =
    let inside : c.each.n < size_of c.args.objects.now.items c.args.kind = omega arith in
    let counted = c.breach_of_object.ensures.counted c.in_default.is in
    record {
      rest = first_next (breach_of_object (cut_of c.args.cut.now) c.args.objects.now c.args.kind) c.each.n _ (size_of c.args.objects.now.items c.args.kind) inside (omega arith) (sym c.breach_of_object.ensures.value ∙ c.in_default.is) c.each.invariant.rest;
      fetches = omega (arith, counted, c.each.invariant.fetches);
    }

pub returns-clause-value : goal.returns-clause-value
returns-clause-value g c =
    let past : size_of c.args.objects.now.items c.args.kind ≤ c.each.n = omega arith in
    sym (first_past (breach_of_object (cut_of c.args.cut.now) c.args.objects.now c.args.kind) c.each.n (size_of c.args.objects.now.items c.args.kind) past c.each.invariant.rest)
