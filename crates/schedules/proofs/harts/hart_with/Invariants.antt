use Rattle.std.proofs.Common.{◌≡◌, take}
use Rattle.std.specs.List.{sum_by}
use Rattle.schedules.specs.Standing.{times_on}
use Rattle.schedules.proofs.harts.hart_with.Given as goal

abbrev pub invariant-loop-i : goal.invariant-loop-i
invariant-loop-i l = sum_by (times_on l.p) (take l.i l.harts) ≡ 0
