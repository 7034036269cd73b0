use Rattle.std.proofs.Common.{◌≡◌, ◌≤◌, length}
use Rattle.separation_check.specs.Crossings.{all_below, listed, sleeper_on}
use Rattle.separation_check.proofs.room.count_process.Given as goal

abbrev pub invariant-each : goal.invariant-each
invariant-each l = record {
  crossings : l.crossings ≡ length (all_below (λ on. listed (sleeper_on l.policy l.queues l.p on)) l.on);
  most : l.crossings ≤ l.on;
}
