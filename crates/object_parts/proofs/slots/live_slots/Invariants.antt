use Rattle.std.proofs.Common.{◌≡◌, ◌+◌, take, map}
use Rattle.object_store.specs.Store.{gpt_at}
use Rattle.object_store.specs.Meaning.{live}
use Rattle.object_parts.specs.Slots.{AreSixteen}
use Rattle.object_parts.proofs.slots.live_slots.Given as goal

-- the slots so far are copied, the dead ones as Null
abbrev pub invariant-loop-i : goal.invariant-loop-i
invariant-loop-i g l = record {
  copied : take l.i l.slots ≡ take l.i (map (live l.objects.items) (gpt_at l.objects.items l.gpt).slots);
  sixteen : AreSixteen l.slots;
  counted : l.fetches ≡ l.fn.fetches + l.i;
}
