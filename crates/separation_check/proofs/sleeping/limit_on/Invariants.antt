use Rattle.std.proofs.Common.{◌≡◌, ◌≤◌, ◌+◌, length, slice_index}
use Rattle.schedules.specs.Queues.{sleepers_of}
use Rattle.separation_check.specs.Crossings.{most_below}
use Rattle.separation_check.proofs.sleeping.limit_on.Given as goal

abbrev pub invariant-each : goal.invariant-each
invariant-each l = record {
  limit : l.limit ≡ most_below (λ i. slice_index (sleepers_of l.queues l.on) i + 1) l.n;
  most : l.limit ≤ 65536;
  within : l.n ≤ length (sleepers_of l.queues l.on);
  bound : 1 ≤ l.n → length (sleepers_of l.queues l.on) ≤ 256;
}
