use Rattle.std.proofs.Common.{◌≡◌, ◌++◌}
use Rattle.std.specs.Vec.{vec_capacity}
use Rattle.separation_check.specs.Crossings.{all_below, process_crossings}
use Rattle.separation_check.proofs.sleeping.push_sleepers.Given as goal

abbrev pub invariant-each : goal.invariant-each
invariant-each l = record {
  found : l.found.items ≡ l.fn.found.items ++ all_below (process_crossings l.policy l.queues) l.p;
  room : vec_capacity l.found ≡ vec_capacity l.fn.found;
}
