use Rattle.std.proofs.Common.{◌≡◌, ℕ, ◌+◌, ◌*◌, ◌<◌, ◌≤◌, sym, ap, ◌∙◌, subst, arith}
use Rattle.cap_format.specs.declared.kind.CapKind.TheVariants.{Gpt}
use Rattle.object_store.specs.Store.{size_of}
use Rattle.confine_check.specs.Sides.{cut_of}
use Rattle.object_store.specs.Places.{places_in, reads_in, object_reads}
use Rattle.confine_check.specs.Breach.{breach_at, broken_by}
use Rattle.confine_check.specs.Found.{kinds_before, reads_to}
use Rattle.confine_check.proofs.First.{first_next, first_here, first_past, reads-more, reads-places}
use Rattle.confine_check.proofs.Found.{found-at}
use Rattle.confine_check.proofs.breach.breach_of_object.Goals as goal

pub returns-in-Some-clause-value : goal.returns-in-Some-clause-value
returns-in-Some-clause-value g c =
    let inside : c.each.i < places_in c.args.kind = omega arith in
    sym (first_here (breach_at (cut_of c.args.cut.now) c.args.objects.now c.args.kind c.args.n) c.each.i (places_in c.args.kind) _ inside (sym c.in-Some.ensures.value) c.each.invariant.rest)

pub returns-in-Some-clause-exact : goal.returns-in-Some-clause-exact
returns-in-Some-clause-exact g c =
    let here = found-at (cut_of c.args.cut.now) c.args.objects.now c.args.kind c.args.n c.each.i c.in-Some.found (sym c.breach_at.ensures.value ∙ c.in-Some.is) in
    let more = reads-more (reads_in c.args.kind) c.each.i in
    let gpts : ℕ = size_of c.args.objects.now.items Gpt in
    subst (λ v. c.breach_at.new.fetches + kinds_before c.args.kind gpts + object_reads c.args.kind * c.args.n ≡ c.args.fetches.now + reads_to (broken_by v) gpts) (sym here)
    (omega (arith, more, c.each.invariant.fetches, c.breach_at.ensures.counted))

pub each-preserved : goal.each-preserved
each-preserved g c =
    let inside : c.each.i < places_in c.args.kind = omega arith in
    record {
      rest = first_next (breach_at (cut_of c.args.cut.now) c.args.objects.now c.args.kind c.args.n) c.each.i _ (places_in c.args.kind) inside (omega arith) (sym c.breach_at.ensures.value ∙ c.in_default.is) c.each.invariant.rest;
      fetches = omega (arith, c.breach_at.ensures.counted, c.each.invariant.fetches);
    }

pub returns-clause-value : goal.returns-clause-value
returns-clause-value g c =
    let past : places_in c.args.kind ≤ c.each.i = omega arith in
    sym (first_past (breach_at (cut_of c.args.cut.now) c.args.objects.now c.args.kind c.args.n) c.each.i (places_in c.args.kind) past c.each.invariant.rest)

pub returns-clause-counted : goal.returns-clause-counted
returns-clause-counted g c = λ e.
    let end : c.each.i ≡ places_in c.args.kind = omega arith in
    let far : reads_in c.args.kind * c.each.i ≡ object_reads c.args.kind = ap (λ (n : ℕ). reads_in c.args.kind * n) end ∙ reads-places c.args.kind in
    omega (arith, far, c.each.invariant.fetches)
