use Rattle.machine_state.specs.Taking.{names_of}
use Rattle.state_parts.proofs.Marked.{adds_then, has_then, has_both}
use Rattle.state_parts.proofs.marking.mark_plain.Goals as goal

pub returns-in-None-clause-has : goal.returns-in-None-clause-has
returns-in-None-clause-has c = rw (c.in-None.is) (rw c.from.ensures at c.in_ok-mark_object.ensures.has)

pub returns-in_ok-mark_object-in-Some-clause-adds : goal.returns-in_ok-mark_object-in-Some-clause-adds
returns-in_ok-mark_object-in-Some-clause-adds c =
    adds_then c.args.objects.now (names_of c.args.marked.now.items) (names_of c.mark_object.new.marked.items) (names_of c.mark_object-in-Some.new.marked.items) c.mark_object.ensures.adds c.mark_object-in-Some.ensures.adds

pub returns-in_ok-mark_object-in-Some-clause-has : goal.returns-in_ok-mark_object-in-Some-clause-has
returns-in_ok-mark_object-in-Some-clause-has c =
    let s = c.args.objects.now in
    let marked = names_of c.mark_object-in-Some.new.marked.items in
    let process = rw c.from.ensures at c.in_ok-mark_object.ensures.has in
    let page = rw c.from-in-Some.ensures at c.in_ok-mark_object-in-Some.ensures.has in
    rw c.in-Some.is (has_both s _ _ marked (has_then s _ (names_of c.mark_object.new.marked.items) marked c.mark_object-in-Some.ensures.adds process) page)

pub returns-in_err-mark_object-in-Some-clause-adds : goal.returns-in_err-mark_object-in-Some-clause-adds
returns-in_err-mark_object-in-Some-clause-adds c =
    adds_then c.args.objects.now (names_of c.args.marked.now.items) (names_of c.mark_object.new.marked.items) (names_of c.mark_object-in-Some.new.marked.items) c.mark_object.ensures.adds c.mark_object-in-Some.ensures.adds
