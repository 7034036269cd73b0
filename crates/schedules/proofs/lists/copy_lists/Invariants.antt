use Rattle.std.proofs.Common.{◌≡◌, length, take}
use Rattle.schedules.proofs.lists.copy_lists.Given as goal

-- the lists so far are copied
abbrev pub invariant-loop-i : goal.invariant-loop-i
invariant-loop-i l = record {
  copied : take l.i l.lists.items ≡ take l.i l.from;
  sizes : length l.lists.items ≡ length l.from;
}
