use Rattle.std.proofs.Common.{◌≡◌, ◌≤◌, ◌*◌, length}
use Rattle.separation_check.specs.Crossings.{all_below, process_crossings}
use Rattle.separation_check.proofs.room.count_sleepers.Given as goal

abbrev pub invariant-each : goal.invariant-each
invariant-each l = record {
  crossings : l.crossings ≡ length (all_below (process_crossings l.policy l.queues) l.p);
  most : l.crossings ≤ 65535 * l.p;
}
