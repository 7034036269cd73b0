use Rattle.std.proofs.Common.{◌≡◌}
use Rattle.schedules.specs.Home.{own_harts}
use Rattle.schedules.proofs.harts.own_harts.Given as goal

abbrev pub invariant-loop-hart : goal.invariant-loop-hart
invariant-loop-hart l = l.own.items ≡ own_harts l.harts l.hart
