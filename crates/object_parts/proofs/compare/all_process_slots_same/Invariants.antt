use Rattle.std.proofs.Common.{◌≡◌, take}
use Rattle.object_parts.proofs.compare.all_process_slots_same.Given as goal

-- those before are the same
abbrev pub invariant-loop-i : goal.invariant-loop-i
invariant-loop-i l = take l.i l.a.slots ≡ take l.i l.b.slots
