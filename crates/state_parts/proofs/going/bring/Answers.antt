use Rattle.std.proofs.Common.{◌≡◌, ◌<◌, ℕ, ◌+◌, inr, List, map, drop, length, get_or, slice_get, Some, refl, sym, ap, ◌∙◌, subst}
use Rattle.std.proofs.lemmas.List.{length-map}
use Rattle.std.proofs.lemmas.Option.{slice_get_within}
use Rattle.cap_format.specs.declared.kind.CapKind.TheVariants.{Null}
use Rattle.object_store.specs.declared.sizes.Sizes.{Sizes}
use Rattle.object_store.specs.Sizes.{size_in}
use Rattle.object_store.specs.Store.{Store, size_of, sizes_of}
use Rattle.object_store.specs.Object.{ObjectName, ObjectValue, object_at}
use Rattle.object_store.specs.Saved.{AreThere}
use Rattle.object_store.proofs.Same.{even_store, size_in_store}
use Rattle.object_store.proofs.Restored.{size_of_same}
use Rattle.machine_state.specs.declared.taking.Name.{Name}
use Rattle.machine_state.proofs.Taken.{name_by, name_there, names_next, names_end}
use Rattle.machine_state.specs.Taking.{name_of, names_of}
use Rattle.object_parts.specs.Objects.{object_in}
use Rattle.state_parts.specs.Keys.{in_order, named_in, objects_of, values_of, Reads, store_by}
use Rattle.state_parts.specs.Looking.{no_name, kind_of, IsPlace}
use Rattle.state_parts.proofs.Marked.{all_numbered}
use Rattle.state_parts.proofs.Boards.{brought_stays}
use Rattle.state_parts.proofs.Brought.{IsBringing, bring_step, bring_end, reads_at, kind_of_object}
use Rattle.state_parts.proofs.going.bring.Goals as goal

pub each-init : goal.each-init
each-init c =
    let s = c.args.objects.now in
    let z = sizes_of s in
    let T = map object_in c.args.table.now in
    let is = c.requires.new in
    let target = store_by z (in_order z) (values_of T c.args.new.now) in
    let even = even_store s c.sizes-sizes.ensures.sized in
    record {
      left = brought_stays T (in_order z) c.args.old.now c.args.new.now s target s (names_of c.args.marked.now) even is.even is.sizes (all_numbered z) c.requires.old is.reads c.requires.marked (record { same = λ kind n. inr refl });
      mixed = record { each = λ kind n. inr refl };
      even = even;
      sizes = refl;
    }

-- an object that is marked is one of as many as there are of its kind
marked_size : (s : Store) (sizes : Sizes) (marked : List Name) (i : ℕ) → sizes ≡ sizes_of s → i < length marked → AreThere s (names_of marked) → (get_or marked i (name_by Null 0)).number < size_in sizes (get_or marked i (name_by Null 0)).kind
marked_size s sizes marked i same within there =
    let name = get_or marked i (name_by Null 0) in
    let Below : ℕ → Type 0 = λ n. name.number < n in
    subst Below (sym (ap (λ (z : Sizes). size_in z name.kind) same ∙ size_in_store s name.kind)) (name_there s marked i (name_by Null 0) within there)

pub place_of-place-requires : goal.place_of-place-requires
place_of-place-requires c = marked_size c.args.objects.now c.sizes-sizes.result c.args.marked.now c.each.i c.sizes-sizes.ensures.value c.each-test.true c.requires.there

-- its place is one in that order
marked_place : (s : Store) (sizes : Sizes) (name : ObjectName) (place : ℕ) → sizes ≡ sizes_of s → IsPlace (in_order sizes) name place → IsPlace (in_order (sizes_of s)) name place
marked_place s sizes name place same at = subst (λ (z : Sizes). IsPlace (in_order z) name place) same at

-- it is still there among objects of which some were brought
marked_there : (s t : Store) (marked : List Name) (i : ℕ) → sizes_of t ≡ sizes_of s → i < length marked → AreThere s (names_of marked) → (get_or marked i (name_by Null 0)).number < size_of t.items (get_or marked i (name_by Null 0)).kind
marked_there s t marked i sizes within there =
    let name = get_or marked i (name_by Null 0) in
    let Below : ℕ → Type 0 = λ n. name.number < n in
    subst Below (sym (size_of_same t s sizes name.kind)) (name_there s marked i (name_by Null 0) within there)

pub bring_one-requires-clause-there : goal.bring_one-requires-clause-there
bring_one-requires-clause-there c = marked_there c.args.objects.now c.each.objects c.args.marked.now c.each.i c.each.invariant.sizes c.each-test.true c.requires.there

pub bring_one-requires-clause-inside : goal.bring_one-requires-clause-inside
bring_one-requires-clause-inside c =
    let s = c.args.objects.now in
    let z = sizes_of s in
    let T = map object_in c.args.table.now in
    let place = c.place_of-place.result in
    let target = store_by z (in_order z) (values_of T c.args.new.now) in
    let at = marked_place s c.sizes-sizes.result (name_of (get_or c.args.marked.now c.each.i (name_by Null 0))) place c.sizes-sizes.ensures.value c.place_of-place.ensures in
    let Below : ℕ → Type 0 = λ n. get_or c.args.new.now place 0 < n in
    subst Below (length-map c.args.table.now object_in) (slice_get_within T (get_or c.args.new.now place 0) (named_in target (get_or (in_order z) place no_name)) (reads_at T c.args.new.now (in_order z) target place at.within c.requires.new.reads))

-- what the number at its place reads
place_read : (T : List ObjectValue) (numbers : List ℕ) (names : List ObjectName) (s : Store) (name : ObjectName) (place : ℕ) → IsPlace names name place → Reads T numbers (objects_of names s) → slice_get T (get_or numbers place 0) ≡ Some (named_in s name)
place_read T numbers names s name place at reads =
    let Read : ObjectName → Type 0 = λ x. slice_get T (get_or numbers place 0) ≡ Some (named_in s x) in
    subst Read at.here (reads_at T numbers names s place at.within reads)

pub bring_one-requires-clause-kind : goal.bring_one-requires-clause-kind
bring_one-requires-clause-kind c =
    let s = c.args.objects.now in
    let z = sizes_of s in
    let T = map object_in c.args.table.now in
    let place = c.place_of-place.result in
    let name = get_or c.args.marked.now c.each.i (name_by Null 0) in
    let target = store_by z (in_order z) (values_of T c.args.new.now) in
    let at = marked_place s c.sizes-sizes.result (name_of name) place c.sizes-sizes.ensures.value c.place_of-place.ensures in
    let reads : slice_get T (get_or c.args.new.now place 0) ≡ Some (object_at target name.kind name.number) = place_read T c.args.new.now (in_order z) target (name_of name) place at c.requires.new.reads in
    let is = kind_of_object target name.kind name.number (marked_there s target c.args.marked.now c.each.i c.requires.new.sizes c.each-test.true c.requires.there) in
    λ x e. let same : x ≡ object_at target name.kind name.number = cc in ap kind_of same ∙ is

pub each-preserved : goal.each-preserved
each-preserved c =
    let l = c.each in
    let s = c.args.objects.now in
    let z = sizes_of s in
    let T = map object_in c.args.table.now in
    let marked = c.args.marked.now in
    let place = c.place_of-place.result in
    let name = get_or marked l.i (name_by Null 0) in
    let target = store_by z (in_order z) (values_of T c.args.new.now) in
    let at = marked_place s c.sizes-sizes.result (name_of name) place c.sizes-sizes.ensures.value c.place_of-place.ensures in
    let Left : List ObjectName → Type 0 = λ xs. IsBringing xs target s l.objects in
    bring_step T target s l.objects c.bring_one.new.objects name.kind name.number (names_of (drop (l.i + 1) marked)) (get_or c.args.old.now place 0) (get_or c.args.new.now place 0)
    (marked_there s l.objects marked l.i l.invariant.sizes c.each-test.true c.requires.there)
    (place_read T c.args.old.now (in_order z) s (name_of name) place at c.requires.old)
    (place_read T c.args.new.now (in_order z) target (name_of name) place at c.requires.new.reads)
    c.bring_one.ensures.same c.bring_one.ensures.put
    (subst Left (names_next marked l.i (name_by Null 0) c.each-test.true) l.invariant)

pub returns : goal.returns
returns c =
    let l = c.each in
    let s = c.args.objects.now in
    let z = sizes_of s in
    let T = map object_in c.args.table.now in
    let target = store_by z (in_order z) (values_of T c.args.new.now) in
    let Left : List ObjectName → Type 0 = λ xs. IsBringing xs target s l.objects in
    bring_end target s l.objects c.requires.new.even c.requires.new.sizes (subst Left (names_end c.args.marked.now l.i c.each-test.false) l.invariant)
