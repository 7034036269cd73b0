use Rattle.std.proofs.Common.{◌≡◌, take}
use Rattle.std.specs.List.{sum_by}
use Rattle.schedules.specs.Standing.{times_in}
use Rattle.schedules.proofs.lists.list_with.Given as goal

abbrev pub invariant-loop-i : goal.invariant-loop-i
invariant-loop-i l = sum_by (times_in l.p) (take l.i l.lists) ≡ 0
