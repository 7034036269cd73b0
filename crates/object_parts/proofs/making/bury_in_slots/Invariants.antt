use Rattle.std.proofs.Common.{◌≡◌}
use Rattle.process_objects.specs.Process.{process_of}
use Rattle.object_store.specs.Meaning.{live}
use Rattle.object_parts.proofs.Mapped.{mapped}
use Rattle.object_parts.proofs.making.bury_in_slots.Given as goal

-- no slot so far is dead
abbrev pub invariant-loop-i : goal.invariant-loop-i
invariant-loop-i l = let old = l.fn.process in l.process ≡ process_of old.pc old.regs old.capregs (mapped (live l.objects.items) l.i old.slots) old.state
