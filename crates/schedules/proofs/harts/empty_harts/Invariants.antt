use Rattle.std.proofs.Common.{◌≡◌, replicate, None}
use Rattle.schedules.proofs.harts.empty_harts.Given as goal

abbrev pub invariant-loop : goal.invariant-loop
invariant-loop l = l.harts.items ≡ replicate l.counter None
