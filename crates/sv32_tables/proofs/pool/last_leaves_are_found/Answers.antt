use Rattle.sv32_tables.proofs.Histories.{leaf_at-history}
use Rattle.sv32_tables.proofs.pool.last_leaves_are_found.Goals as goal

pub returns : goal.returns
returns c = leaf_at-history
