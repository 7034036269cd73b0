use Rattle.std.proofs.Common.{◌≡◌, map, take}
use Rattle.process_objects.specs.Process.{capreg_of}
use Rattle.invocation.proofs.sending.sent_by.Given as goal

-- the capabilities of the registers so far
abbrev pub invariant-loop-register : goal.invariant-loop-register
invariant-loop-register l = l.caps ≡ map (capreg_of l.sender) (take l.register-index l.list)
