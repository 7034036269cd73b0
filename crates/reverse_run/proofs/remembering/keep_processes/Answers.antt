use Rattle.std.proofs.Common.{◌<◌, ap, below_more, arith}
use Rattle.cap_format.specs.declared.kind.CapKind.TheVariants.{Process}
use Rattle.object_store.specs.declared.sizes.Sizes.{Sizes}
use Rattle.object_store.specs.Store.{sizes_of, size_of}
use Rattle.object_store.specs.Object.{object_name}
use Rattle.reverse_run.proofs.Keeping.{stands_more, among_more, among_kept, other_kind}
use Rattle.reverse_run.proofs.remembering.keep_processes.Goals as goal

pub each-preserved : goal.each-preserved
each-preserved g c =
    let l = c.each in
    let kept = c.keep.ensures in
    let m = c.args.machine.now in
    let number = ap (λ (z : Sizes). z.processes) (rw c.objects.ensures at c.sizes-processes.ensures.value) in
    let test = c.each-test.true in
    let there : l.p < size_of m.objects.items Process = omega (arith, number, test) in
    record {
      stands = stands_more l.past c.keep.new.self m Process l.p there l.invariant.stands (kept.sizes (sizes_of m.objects) l.invariant.stands.sizes) kept.holds kept.names kept.queues kept.halted;
      all = below_more _ _ (λ n h. among_more l.past c.keep.new.self (object_name Process l.p) Process n kept.names (l.invariant.all n h)) (among_kept l.past c.keep.new.self Process l.p kept.names);
      others = λ k other. let before = l.invariant.others k other in let more = kept.used k in let none = other_kind k other in omega (arith, before, more, none);
      count = let before = l.invariant.count in let more = kept.count in omega (arith, before, more);
      unread = let before = l.invariant.unread in let counted = kept.counted in omega (arith, before, counted);
    }

pub returns-clause-all : goal.returns-clause-all
returns-clause-all g c = λ n there.
    let number = ap (λ (z : Sizes). z.processes) (rw c.objects.ensures at c.sizes-processes.ensures.value) in
    let test = c.each-test.false in
    c.each.invariant.all n (omega (arith, number, test, there))
