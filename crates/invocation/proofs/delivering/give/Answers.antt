use Rattle.std.proofs.Common.{◌+◌, ◌<◌, length, get_or, drop, sym, ap, ◌∙◌, arith}
use Rattle.process_objects.specs.Process.{with_capreg}
use Rattle.invocation.specs.Delivery.{given}
use Rattle.invocation.proofs.Given.{given_more, given_all}
use Rattle.invocation.proofs.delivering.give.Goals as goal

pub loop-i-preserved : goal.loop-i-preserved
loop-i-preserved c =
    let i = c.loop-i.i in
    let registers = c.args.registers.now in
    let caps = c.args.caps.now in
    let register : i < length registers = omega (arith, c.loop-i-test.true, c.min-i-end.ensures) in
    let cap : i < length caps = omega (arith, c.loop-i-test.true, c.min-i-end.ensures) in
    let more = given_more c.loop-i.receiver registers caps i c.index-caps-i.result register cap in
    let now = c.set_capreg.ensures.capreg ∙ ap (with_capreg c.loop-i.receiver (get_or registers i 0)) c.index-caps-i.is in
    ap (λ x. given x (drop (i + 1) registers) (drop (i + 1) caps)) now ∙ (sym more ∙ c.loop-i.invariant)

pub returns : goal.returns
returns c = sym (given_all c.loop-i.receiver c.args.registers.now c.args.caps.now c.loop-i.i (omega (arith, c.min-i-end.ensures))) ∙ c.loop-i.invariant
