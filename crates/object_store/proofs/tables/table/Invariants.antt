use Rattle.std.proofs.Common.{◌≡◌, replicate}
use Rattle.object_store.proofs.tables.table.Given as goal

abbrev pub invariant-loop : goal.invariant-loop
invariant-loop g l = l.table.items ≡ replicate l.counter g.T.Empty.empty
