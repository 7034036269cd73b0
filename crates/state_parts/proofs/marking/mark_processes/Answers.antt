use Rattle.std.proofs.Common.{◌<◌, inl, refl, ap, below_more, arith}
use Rattle.cap_format.specs.declared.kind.CapKind.TheVariants.{Process}
use Rattle.object_store.specs.declared.sizes.Sizes.{Sizes}
use Rattle.object_store.specs.Store.{size_of}
use Rattle.machine_state.specs.Taking.{names_of}
use Rattle.state_parts.proofs.Marked.{adds_none, adds_then}
use Rattle.state_parts.proofs.marking.mark_processes.Goals as goal

pub each-init : goal.each-init
each-init c = record {
  adds = adds_none c.args.objects.now (names_of c.args.marked.now.items);
  all = λ n below. absurd (omega (arith, below));
}

pub each-preserved : goal.each-preserved
each-preserved c =
    let l = c.each in
    let s = c.args.objects.now in
    let number = ap (λ (z : Sizes). z.processes) c.sizes-processes.ensures.value in
    let test = c.each-test.true in
    let there : l.p < size_of s.items Process = omega (arith, number, test) in
    let has = rw c.from.ensures at c.in_ok-mark_object.ensures.has in
    record {
      adds = adds_then s (names_of c.args.marked.now.items) (names_of l.marked.items) (names_of c.mark_object.new.marked.items) l.invariant.adds c.mark_object.ensures.adds;
      all = below_more _ _ (λ n below. c.mark_object.ensures.adds.before Process n (l.invariant.all n below)) (has.each Process l.p (inl (refl, refl)) there);
    }

pub returns-clause-all : goal.returns-clause-all
returns-clause-all c = λ n there.
    let number = ap (λ (z : Sizes). z.processes) c.sizes-processes.ensures.value in
    let test = c.each-test.false in
    c.each.invariant.all n (omega (arith, number, test, there))

pub returns-in_err-mark_object-clause-adds : goal.returns-in_err-mark_object-clause-adds
returns-in_err-mark_object-clause-adds c = adds_then c.args.objects.now (names_of c.args.marked.now.items) (names_of c.each.marked.items) (names_of c.mark_object.new.marked.items) c.each.invariant.adds c.mark_object.ensures.adds
