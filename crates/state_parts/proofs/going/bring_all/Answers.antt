use Rattle.std.proofs.Common.{◌≡◌, ℕ, List, map, length, sym, subst}
use Rattle.std.proofs.lemmas.List.{length-map}
use Rattle.object_store.specs.Store.{sizes_of}
use Rattle.object_store.specs.Object.{ObjectName}
use Rattle.object_store.specs.Saved.{AreThere}
use Rattle.object_store.proofs.Same.{even_store}
use Rattle.machine_state.specs.declared.taking.Name.{Name}
use Rattle.machine_state.specs.Taking.{name_of, names_of}
use Rattle.object_parts.specs.Objects.{object_in}
use Rattle.state_parts.specs.Keys.{in_order, objects_of, values_of, Reads, store_by}
use Rattle.state_parts.specs.Looking.{AreMarked, IsTarget}
use Rattle.state_parts.proofs.Marked.{more_none}
use Rattle.state_parts.proofs.Boards.{marked_same, brought_same, there_more}
use Rattle.state_parts.proofs.going.bring_all.Goals as goal

pub returns-then-same_numbers-clause-grows : goal.returns-then-same_numbers-clause-grows
returns-then-same_numbers-clause-grows c = more_none (names_of c.args.names.now) (names_of c.args.marked.now.items)

pub returns-then-same_numbers-clause-each : goal.returns-then-same_numbers-clause-each
returns-then-same_numbers-clause-each c =
    marked_same (length c.args.names.now) (names_of c.args.names.now) c.args.old.now c.args.new.now (names_of c.args.marked.now.items) (c.same_numbers.ensures c.if-same_numbers.true)

pub returns-then-same_numbers-clause-objects : goal.returns-then-same_numbers-clause-objects
returns-then-same_numbers-clause-objects c =
    let s = c.args.objects.now in
    let T = map object_in c.args.table.now in
    let names = names_of c.args.names.now in
    let target = store_by (sizes_of s) names (values_of T c.args.new.now) in
    let is = c.requires.new in
    brought_same T names c.args.old.now c.args.new.now s target (c.same_numbers.ensures c.if-same_numbers.true) (even_store s c.sizes-sizes.ensures.sized) is.even is.sizes c.requires.all c.requires.old is.reads

pub bring-requires-clause-there : goal.bring-requires-clause-there
bring-requires-clause-there c =
    let s = c.args.objects.now in
    let There : List Name → Type 0 = λ xs. AreThere s (names_of xs) in
    subst There (sym c.as_slice.ensures.value) (there_more s (names_of c.args.names.now) (names_of c.args.marked.now.items) (names_of c.mark.new.marked.items) c.requires.all c.mark.ensures.grows c.requires.known)

pub bring-requires-clause-old : goal.bring-requires-clause-old
bring-requires-clause-old c =
    let Read : List ObjectName → Type 0 = λ xs. Reads (map object_in c.args.table.now) c.args.old.now (objects_of xs c.args.objects.now) in
    subst Read c.requires.all.order c.requires.old

pub bring-requires-clause-new : goal.bring-requires-clause-new
bring-requires-clause-new c =
    let z = sizes_of c.args.objects.now in
    let T = map object_in c.args.table.now in
    let Target : List ObjectName → Type 0 = λ xs. IsTarget T xs c.args.new.now z (store_by z xs (values_of T c.args.new.now)) in
    subst Target c.requires.all.order c.requires.new

pub bring-requires-clause-marked : goal.bring-requires-clause-marked
bring-requires-clause-marked c =
    let names = c.args.names.now in
    let Many : ℕ → Type 0 = λ n. AreMarked n (names_of names) c.args.old.now c.args.new.now (names_of c.mark.new.marked.items) in
    let Of : List ObjectName → Type 0 = λ xs. AreMarked (length xs) xs c.args.old.now c.args.new.now (names_of c.mark.new.marked.items) in
    let By : List Name → Type 0 = λ xs. let all = in_order (sizes_of c.args.objects.now) in AreMarked (length all) all c.args.old.now c.args.new.now (names_of xs) in
    subst By (sym c.as_slice.ensures.value) (subst Of c.requires.all.order (subst Many (sym (length-map names name_of)) c.in_ok-mark.ensures.each))

pub returns-clause-objects : goal.returns-clause-objects
returns-clause-objects c =
    let z = sizes_of c.args.objects.now in
    let values = values_of (map object_in c.args.table.now) c.args.new.now in
    let By : List ObjectName → Type 0 = λ xs. c.bring.new.objects ≡ store_by z xs values in
    subst By (sym c.requires.all.order) c.bring.ensures
