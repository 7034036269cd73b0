use Rattle.std.proofs.Common.{◌≡◌}
use Rattle.separation_policy.specs.Closure.{linked_below}
use Rattle.separation_policy.proofs.closure.linked.Given as goal

abbrev pub invariant-each : goal.invariant-each
invariant-each l = l.row ≡ linked_below l.policy l.a l.k
