use Rattle.std.proofs.Common.{◌≡◌, take, map}
use Rattle.object_store.specs.Meaning.{live}
use Rattle.object_parts.proofs.compare.all_live_slots_same.Given as goal

-- those before are the same
abbrev pub invariant-loop-i : goal.invariant-loop-i
invariant-loop-i l = take l.i (map (live l.objects.items) l.a.slots) ≡ take l.i l.b.slots
