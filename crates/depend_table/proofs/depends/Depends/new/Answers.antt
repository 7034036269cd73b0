use Rattle.std.proofs.Common.{refl}
use Rattle.depend_table.proofs.Tables.{table_empty}
use Rattle.depend_table.proofs.depends.Depends.new.Goals as goal

pub invariant_of-result : goal.invariant_of-result
invariant_of-result c = table_empty c.in_ok-nodes.nodes c.in_ok-chains.chains.items 23040 c.in_ok-nodes.ensures.empty c.in_ok-nodes.ensures.capacity refl c.in_ok-chains.ensures
