use Rattle.std.proofs.Common.{◌≡◌, ◌+◌, length, take}
use Rattle.gpt_objects.proofs.gpt.Gpt.all_slots.Given as goal

-- the slots so far are copied and counted
abbrev pub invariant-loop-i : goal.invariant-loop-i
invariant-loop-i g l = record {
  copied : take l.i l.slots ≡ take l.i l.self.slots;
  sixteen : length l.slots ≡ 16;
  counted : l.fetches ≡ l.fn.fetches + l.i;
}
