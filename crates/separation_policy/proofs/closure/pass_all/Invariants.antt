use Rattle.std.proofs.Common.{◌≡◌}
use Rattle.separation_policy.specs.Closure.{all_passed}
use Rattle.separation_policy.proofs.closure.pass_all.Given as goal

abbrev pub invariant-each : goal.invariant-each
invariant-each l = l.rows ≡ all_passed l.k l.fn.rows
