use Rattle.invocation.proofs.Delivered.{received_by}
use Rattle.invocation.proofs.delivering.receive.Goals as goal

pub returns : goal.returns
returns c =
    rw (c.give.ensures, c.tell.ensures, c.as_slice-caps.ensures.value, c.caps.ensures.value, c.regs-registers.ensures.value)
    (received_by c.args.receiver.now c.args.id c.args.message.now c.acceptance-accept.result c.min-number.result c.acceptance-accept.ensures.value c.acceptance-accept.ensures.range
    (rw (← c.as_slice-caps.ensures.value, ← c.caps.ensures.value, ← c.regs-registers.ensures.value) c.min-number.ensures))
