use Rattle.std.proofs.Common.{sym, ◌∙◌, arith, length-set}
use Rattle.std.proofs.lemmas.List.{take_all}
use Rattle.cap_format.specs.Capability.{null}
use Rattle.gpt_objects.proofs.Copied.{copied_more}
use Rattle.gpt_objects.proofs.gpt.Gpt.all_slots.Goals as goal

pub loop-i-preserved : goal.loop-i-preserved
loop-i-preserved g c =
    let l = c.loop-i in
    let more = c.loop-i-test.true in
    let here = l.invariant.sixteen in
    let there = c.header-header.ensures.range.sixteen in
    let counted = l.invariant.counted in
    let one = c.slot.ensures.counted in
    record {
      copied = rw c.slot.ensures.value (copied_more l.slots c.args.self.now.slots l.i null (omega (arith, more, here)) (omega (arith, more, there)) l.invariant.copied);
      sixteen = length-set l.slots l.i c.slot.result ∙ l.invariant.sixteen;
      counted = omega (arith, counted, one);
    }

pub returns-clause-value : goal.returns-clause-value
returns-clause-value g c =
    let l = c.loop-i in
    let end = c.loop-i-test.false in
    let here = l.invariant.sixteen in
    let there = c.header-header.ensures.range.sixteen in
    sym (take_all l.i l.slots (omega (arith, end, here))) ∙ l.invariant.copied ∙ take_all l.i c.args.self.now.slots (omega (arith, end, there))
