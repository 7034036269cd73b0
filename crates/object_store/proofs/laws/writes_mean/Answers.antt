use Rattle.std.proofs.Common.{refl}
use Rattle.object_store.proofs.Means.{state_map-set_slot, state_map-set_header, state_map-with_cappage, state_map-with_process, state_map-with_endpoint}
use Rattle.object_store.proofs.laws.writes_mean.Goals as goal

pub returns : goal.returns
returns c = record {
  slot = state_map-set_slot;
  header = state_map-set_header;
  page = λ s n page. refl;
  cappage = state_map-with_cappage;
  process = state_map-with_process;
  endpoint = state_map-with_endpoint;
}
