use Rattle.std.proofs.Common.{◌≡◌, ◌<◌, ℕ, List, get_or, refl, sym, ap, ◌∙◌, subst, arith}
use Rattle.cap_format.specs.declared.kind.CapKind.TheVariants.{Null}
use Rattle.object_store.specs.Store.{Store, size_of}
use Rattle.object_store.specs.Object.{ObjectName, object_at, with_object, Stays}
use Rattle.object_store.proofs.Same.{even_store, even_with_object, sizes_with_object}
use Rattle.object_store.proofs.Restored.{size_of_same}
use Rattle.machine_state.specs.Taking.{slots_taken}
use Rattle.machine_state.proofs.Taken.{stays_taken, stays_none, name_by, names_next, names_end, name_there, slots_next}
use Rattle.machine_state.proofs.taking.take_each.Goals as goal

pub each-init : goal.each-init
each-init g c = record {
  sizes = c.requires.sizes;
  even = even_store c.args.objects.now c.sizes-sizes.ensures.sized;
  others = c.requires.others;
  coherent = c.requires.coherent;
  harts = refl;
  counted = refl;
}

pub take_one-requires-clause-copy : goal.take_one-requires-clause-copy
take_one-requires-clause-copy g c =
    name_there c.args.from.now c.args.names.now c.each.i (name_by Null 0) c.each-test.true c.requires.there

pub take_one-requires-clause-there : goal.take_one-requires-clause-there
take_one-requires-clause-there g c =
    let l = c.each in
    let name = get_or c.args.names.now l.i (name_by Null 0) in
    let Within : ℕ → Type 0 = λ n. name.number < n in
    subst Within (sym (size_of_same l.objects c.args.from.now l.invariant.sizes name.kind)) (name_there c.args.from.now c.args.names.now l.i (name_by Null 0) c.each-test.true c.requires.there)

pub each-preserved : goal.each-preserved
each-preserved g c =
    let l = c.each in
    let from = c.args.from.now in
    let name = get_or c.args.names.now l.i (name_by Null 0) in
    let Within : ℕ → Type 0 = λ n. name.number < n in
    let there = subst Within (sym (size_of_same l.objects from l.invariant.sizes name.kind)) (name_there from c.args.names.now l.i (name_by Null 0) c.each-test.true c.requires.there) in
    let Others : List ObjectName → Type 0 = λ names. Stays names from l.objects in
    let others = subst Others (names_next c.args.names.now l.i (name_by Null 0) c.each-test.true) l.invariant.others in
    record {
      sizes = rw c.take_one.ensures.objects (sizes_with_object l.objects name.number (object_at from name.kind name.number) ∙ l.invariant.sizes);
      even = rw c.take_one.ensures.objects (even_with_object l.objects name.number (object_at from name.kind name.number) l.invariant.even);
      others = rw c.take_one.ensures.objects (stays_taken from l.objects name.kind name.number _ l.invariant.even there others);
      coherent = c.take_one.ensures.coherent;
      harts = c.take_one.ensures.harts ∙ l.invariant.harts;
      counted = let taken = c.take_one.ensures.counted in let slots = slots_next c.args.names.now l.i (name_by Null 0) c.each-test.true in let before = l.invariant.counted in omega (arith, taken, slots, before);
    }

pub returns-clause-objects : goal.returns-clause-objects
returns-clause-objects g c =
    let l = c.each in
    let from = c.args.from.now in
    let Others : List ObjectName → Type 0 = λ names. Stays names from l.objects in
    stays_none from l.objects (even_store from c.sizes-from.ensures.sized) l.invariant.even l.invariant.sizes (subst Others (names_end c.args.names.now l.i c.each-test.false) l.invariant.others)

pub returns-clause-counted : goal.returns-clause-counted
returns-clause-counted g c =
    let none = ap slots_taken (names_end c.args.names.now c.each.i c.each-test.false) in
    let before = c.each.invariant.counted in
    omega (arith, none, before)
