use Rattle.separation_policy.specs.Closure.{AreReachedBelow}
use Rattle.separation_policy.specs.Policy.{may_learn}
use Rattle.separation_policy.proofs.closure.linked_rows.Given as goal

abbrev pub invariant-each : goal.invariant-each
invariant-each l = AreReachedBelow (may_learn l.policy) l.a 0 l.rows.items
