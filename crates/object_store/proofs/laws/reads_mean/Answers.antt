use Rattle.std.proofs.Common.{refl}
use Rattle.object_store.proofs.Means.{header_at-map_of, slot_at-map_of, cappage_at-state_map, process_at-state_map, endpoint_at-state_map}
use Rattle.object_store.proofs.laws.reads_mean.Goals as goal

pub returns : goal.returns
returns c = record {
  count = λ o kind n. refl;
  header = header_at-map_of;
  slot = slot_at-map_of;
  page = λ s n. refl;
  cappage = cappage_at-state_map;
  process = process_at-state_map;
  endpoint = endpoint_at-state_map;
}
