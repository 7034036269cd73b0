use Rattle.std.proofs.Common.{◌≡◌, drop}
use Rattle.invocation.specs.Delivery.{given}
use Rattle.invocation.proofs.delivering.give.Given as goal

-- what is left to be given makes of the process what all makes of it at the start
abbrev pub invariant-loop-i : goal.invariant-loop-i
invariant-loop-i l = given l.receiver (drop l.i l.registers) (drop l.i l.caps) ≡ given l.fn.receiver l.registers l.caps
