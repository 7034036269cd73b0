use Rattle.std.proofs.Common.{◌≡◌}
use Rattle.separation_policy.specs.Closure.{written_by}
use Rattle.separation_policy.proofs.closure.written_by.Given as goal

abbrev pub invariant-each : goal.invariant-each
invariant-each l = l.written ≡ written_by l.policy l.writers l.k
