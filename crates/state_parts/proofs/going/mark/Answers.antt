use Rattle.std.proofs.Common.{◌≡◌, ◌<◌, length, get_or, sym, subst}
use Rattle.std.proofs.lemmas.List.{get_or-map, length-map}
use Rattle.cap_format.specs.declared.kind.CapKind.TheVariants.{Null}
use Rattle.object_store.specs.Object.{ObjectName, IsAmong}
use Rattle.machine_state.proofs.Taken.{name_by}
use Rattle.machine_state.specs.Taking.{name_of, names_of}
use Rattle.state_parts.specs.Looking.{no_name, IsMarked}
use Rattle.state_parts.proofs.Marked.{among_at, more_then, marked_more}
use Rattle.state_parts.proofs.going.mark.Goals as goal

pub loop-i-preserved : goal.loop-i-preserved
loop-i-preserved c =
    let l = c.loop-i in
    let names = c.args.names.now in
    let none = name_by Null 0 in
    let within = c.loop-i-test.true in
    let at : get_or (names_of names) l.i no_name ≡ name_of (get_or names l.i none) = get_or-map name_of names l.i none no_name within in
    let there : l.i < length (names_of names) = rw (length-map names name_of) within in
    let Named : ObjectName → Type 0 = λ name. IsAmong name.kind name.number (names_of names) in
    let named = subst Named at (among_at (names_of names) l.i no_name there) in
    let Marks : ObjectName → Type 0 = λ name. IsMarked name (get_or c.args.old.now l.i 0) (get_or c.args.new.now l.i 0) (names_of c.mark_one.new.marked.items) in
    record {
      grows = more_then (names_of names) (get_or names l.i none).kind (get_or names l.i none).number (names_of c.args.marked.now.items) (names_of l.marked.items) (names_of c.mark_one.new.marked.items) named l.invariant.grows c.mark_one.ensures.grows;
      each = marked_more (names_of names) c.args.old.now c.args.new.now (names_of l.marked.items) (names_of c.mark_one.new.marked.items) l.i c.mark_one.ensures.grows.before l.invariant.each (subst Marks (sym at) c.in_ok-mark_one.ensures.marks);
    }

pub returns-in_err-mark_one-clause-grows : goal.returns-in_err-mark_one-clause-grows
returns-in_err-mark_one-clause-grows c =
    let l = c.loop-i in
    let names = c.args.names.now in
    let none = name_by Null 0 in
    let within = c.loop-i-test.true in
    let at : get_or (names_of names) l.i no_name ≡ name_of (get_or names l.i none) = get_or-map name_of names l.i none no_name within in
    let there : l.i < length (names_of names) = rw (length-map names name_of) within in
    let Named : ObjectName → Type 0 = λ name. IsAmong name.kind name.number (names_of names) in
    let named = subst Named at (among_at (names_of names) l.i no_name there) in
    more_then (names_of names) (get_or names l.i none).kind (get_or names l.i none).number (names_of c.args.marked.now.items) (names_of l.marked.items) (names_of c.mark_one.new.marked.items) named l.invariant.grows c.mark_one.ensures.grows
