use Rattle.std.proofs.Common.{◌≡◌, false, replicate}
use Rattle.quiet_finding.proofs.tables.not_named.Given as goal

abbrev pub invariant-each : goal.invariant-each
invariant-each l = l.table.items ≡ replicate l.counter false
