use Rattle.std.proofs.Common.{take, sym, ap, ◌∙◌, subst, List, arith}
use Rattle.std.proofs.lemmas.List.{take_more, map-append}
use Rattle.cap_format.specs.declared.kind.CapKind.TheVariants.{Page}
use Rattle.object_store.specs.Object.{ObjectName}
use Rattle.string_move.specs.declared.piece.Piece.{Piece}
use Rattle.string_move.specs.Move.{page_name, page_names}
use Rattle.reverse_run.specs.Remembered.{Remembers}
use Rattle.reverse_run.proofs.Keeping.{no_page, remembers_later, remembers_both}
use Rattle.reverse_run.proofs.remembering.keep_pages.Goals as goal

pub each-preserved : goal.each-preserved
each-preserved g c =
    let l = c.each in
    let kept = c.keep_object.ensures in
    let s = c.args.machine.now.objects in
    let list = c.as_slice-list.result.now in
    let none : Piece = record { page = 0; at = 0; len = 0 } in
    let front = page_names (take l.i list) in
    let more = ap page_names (take_more list l.i none c.each-test.true) ∙ map-append page_name (take l.i list) _ in
    let Kept : List ObjectName → Type 0 = λ names. Remembers c.keep_object.new.past s names in
    record {
      stands = kept.stands;
      more = λ k n among. kept.more k n (l.invariant.more k n among);
      kept = subst Kept (sym more) (remembers_both c.keep_object.new.past s front _ (remembers_later l.past c.keep_object.new.past s front kept.more l.invariant.kept) (rw c.from-number.ensures at kept.kept));
      pages = let before = l.invariant.pages in let one = kept.used Page in omega (arith, before, one);
      count = let before = l.invariant.count in let one = kept.count in omega (arith, before, one);
      others = λ k other. let before = l.invariant.others k other in let more = kept.used k in let none = no_page k other in omega (arith, before, more, none);
      unread = let before = l.invariant.unread in let least = kept.least in let most = kept.most in omega (arith, before, least, most);
    }
