use Rattle.std.proofs.Common.{take, sym, ap, ◌∙◌, subst, List}
use Rattle.std.proofs.lemmas.List.{take_more, map-append, take_all}
use Rattle.object_store.specs.Object.{ObjectName}
use Rattle.string_move.specs.declared.piece.Piece.{Piece}
use Rattle.string_move.specs.Move.{page_name, page_names}
use Rattle.machine_state.specs.Taking.{names_of}
use Rattle.state_parts.specs.Marking.{HasThere}
use Rattle.state_parts.proofs.Marked.{adds_none, adds_then, has_none, has_then, has_both}
use Rattle.state_parts.proofs.marking.mark_pages.Goals as goal

pub each-init : goal.each-init
each-init c = record {
  adds = adds_none c.args.objects.now (names_of c.args.marked.now.items);
  has = has_none c.args.objects.now (names_of c.args.marked.now.items);
}

pub each-preserved : goal.each-preserved
each-preserved c =
    let l = c.each in
    let s = c.args.objects.now in
    let list = c.as_slice-list.result.now in
    let none : Piece = record { page = 0; at = 0; len = 0 } in
    let front = page_names (take l.i list) in
    let marked = names_of c.mark_object.new.marked.items in
    let more = ap page_names (take_more list l.i none c.each-test.true) ∙ map-append page_name (take l.i list) _ in
    let Has : List ObjectName → Type 0 = λ names. HasThere s names marked in
    record {
      adds = adds_then s (names_of c.args.marked.now.items) (names_of l.marked.items) marked l.invariant.adds c.mark_object.ensures.adds;
      has = subst Has (sym more) (has_both s front _ marked (has_then s front (names_of l.marked.items) marked c.mark_object.ensures.adds l.invariant.has) (rw c.from.ensures at c.in_ok-mark_object.ensures.has));
    }

pub returns-clause-has : goal.returns-clause-has
returns-clause-has c =
    let l = c.each in
    let Has : List Piece → Type 0 = λ list. HasThere c.args.objects.now (page_names list) (names_of l.marked.items) in
    subst Has (take_all l.i c.as_slice-list.result.now c.each-test.false ∙ c.as_slice-list.ensures.value) l.invariant.has

pub returns-in_err-mark_object-clause-adds : goal.returns-in_err-mark_object-clause-adds
returns-in_err-mark_object-clause-adds c = adds_then c.args.objects.now (names_of c.args.marked.now.items) (names_of c.each.marked.items) (names_of c.mark_object.new.marked.items) c.each.invariant.adds c.mark_object.ensures.adds
