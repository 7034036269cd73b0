use Rattle.std.proofs.Common.{◌≡◌, ◌≤◌, take, length, false}
use Rattle.schedules.specs.Queues.{sleepers_of, stands_in}
use Rattle.separation_check.proofs.sleeping.sleeps_on.Given as goal

abbrev pub invariant-each : goal.invariant-each
invariant-each l = record {
  none : stands_in (take l.n (sleepers_of l.queues l.on)) l.p ≡ false;
  within : l.n ≤ length (sleepers_of l.queues l.on);
  bound : 1 ≤ l.n → length (sleepers_of l.queues l.on) ≤ 256;
}
