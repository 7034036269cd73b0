use Rattle.sv32_tables.proofs.SharedHistories.{all_left}
use Rattle.sv32_tables.proofs.shared_pool.last_entries_are_found.Goals as goal

pub returns : goal.returns
returns c = all_left
