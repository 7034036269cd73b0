use Rattle.std.proofs.Common.{[], sym, ◌∙◌, arith, length-set}
use Rattle.std.proofs.lemmas.List.{take_all}
use Rattle.object_store.proofs.Lists.{copied_more}
use Rattle.schedules.proofs.lists.copy_lists.Goals as goal

pub loop-i-preserved : goal.loop-i-preserved
loop-i-preserved c =
    let l = c.loop-i in
    let more = c.loop-i-test.true in
    let sizes = l.invariant.sizes in
    record {
      copied = rw c.copy_at.ensures (copied_more l.lists.items c.args.from.now l.i [] (omega (arith, more, sizes)) more l.invariant.copied);
      sizes = rw c.copy_at.ensures (length-set l.lists.items l.i _ ∙ sizes);
    }

pub returns : goal.returns
returns c =
    let l = c.loop-i in
    let end = c.loop-i-test.false in
    let sizes = l.invariant.sizes in
    sym (take_all l.i l.lists.items (omega (arith, end, sizes))) ∙ l.invariant.copied ∙ take_all l.i c.args.from.now end
