use Rattle.object_store.proofs.Destroyed.{state_map-emptied, destruction-forgets}
use Rattle.object_store.proofs.laws.destruction_means.Goals as goal

pub returns : goal.returns
returns c = record { equal = state_map-emptied; forgotten = destruction-forgets }
