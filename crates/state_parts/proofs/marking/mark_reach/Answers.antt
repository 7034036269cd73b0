use Rattle.machine_state.specs.Taking.{names_of}
use Rattle.state_parts.proofs.Marked.{adds_none, adds_then, has_none, has_then, has_both}
use Rattle.state_parts.proofs.marking.mark_reach.Goals as goal

pub returns-in-Nothing-clause-adds : goal.returns-in-Nothing-clause-adds
returns-in-Nothing-clause-adds c = adds_none c.args.objects.now (names_of c.args.marked.now.items)

pub returns-in-Nothing-clause-has : goal.returns-in-Nothing-clause-has
returns-in-Nothing-clause-has c = rw c.in-Nothing.is (has_none c.args.objects.now (names_of c.args.marked.now.items))

pub returns-in_ok-mark_pages-in-Message-clause-adds : goal.returns-in_ok-mark_pages-in-Message-clause-adds
returns-in_ok-mark_pages-in-Message-clause-adds c =
    adds_then c.args.objects.now (names_of c.args.marked.now.items) (names_of c.mark_object-in-Message.new.marked.items) (names_of c.mark_pages.new.marked.items) c.mark_object-in-Message.ensures.adds c.mark_pages.ensures.adds

pub returns-in_ok-mark_pages-in-Message-clause-has : goal.returns-in_ok-mark_pages-in-Message-clause-has
returns-in_ok-mark_pages-in-Message-clause-has c =
    let s = c.args.objects.now in
    let marked = names_of c.mark_pages.new.marked.items in
    let endpoint = rw c.from.ensures at c.in_ok-mark_object-in-Message.ensures.has in
    rw c.in-Message.is (has_both s _ _ marked (has_then s _ (names_of c.mark_object-in-Message.new.marked.items) marked c.mark_pages.ensures.adds endpoint) c.in_ok-mark_pages-in-Message.ensures.has)

pub returns-in_err-mark_pages-in-Message-clause-adds : goal.returns-in_err-mark_pages-in-Message-clause-adds
returns-in_err-mark_pages-in-Message-clause-adds c =
    adds_then c.args.objects.now (names_of c.args.marked.now.items) (names_of c.mark_object-in-Message.new.marked.items) (names_of c.mark_pages.new.marked.items) c.mark_object-in-Message.ensures.adds c.mark_pages.ensures.adds
