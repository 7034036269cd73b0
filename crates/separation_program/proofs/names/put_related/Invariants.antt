use Rattle.std.proofs.Common.{◌≡◌, ◌≤◌, length}
use Rattle.separation_program.specs.Text.{related_below}
use Rattle.separation_program.proofs.names.put_related.Given as goal

abbrev pub invariant-each : goal.invariant-each
invariant-each g l = record {
  items : l.found.items ≡ related_below l.policy l.relation l.domain l.other;
  few : length l.found.items ≤ l.other;
}
