use Rattle.std.proofs.Common.{◌≡◌, ◌≤◌}
use Rattle.separation_check.specs.Crossings.{most_below, limit_on}
use Rattle.separation_check.proofs.sleeping.sleeper_limit.Given as goal

abbrev pub invariant-each : goal.invariant-each
invariant-each l = record {
  limit : l.limit ≡ most_below (limit_on l.queues) l.on;
  most : l.limit ≤ 65536;
}
