use Rattle.std.proofs.Common.{◌≡◌, ◌≤◌, length}
use Rattle.schedules.specs.Queues.{sleepers_of}
use Rattle.confine_check.specs.Sides.{cut_of}
use Rattle.confine_check.specs.Breach.{least_below, across_at}
use Rattle.confine_check.proofs.sleeping.least_on.Given as goal

abbrev pub invariant-each : goal.invariant-each
invariant-each l = record {
  least : l.least ≡ least_below (across_at (cut_of l.cut) l.queues l.on) l.n;
  within : l.n ≤ length (sleepers_of l.queues l.on);
  bound : 1 ≤ l.n → length (sleepers_of l.queues l.on) ≤ 256;
}
