use Rattle.std.proofs.Common.{◌≡◌, replicate}
use Rattle.quiet_runs.specs.declared.reached_by.ReachedBy.TheVariants.{Nobody}
use Rattle.quiet_finding.proofs.tables.nobody.Given as goal

abbrev pub invariant-each : goal.invariant-each
invariant-each l = l.table.items ≡ replicate l.counter Nobody
