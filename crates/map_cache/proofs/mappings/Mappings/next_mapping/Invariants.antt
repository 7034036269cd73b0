use Rattle.std.proofs.Common.{◌≡◌, ◌≤◌, ◌^◌}
use Rattle.map_cache.specs.Effects.{value_of}
use Rattle.map_cache.specs.Mappings.{mappings_left, place_at}
use Rattle.map_cache.proofs.mappings.Mappings.next_mapping.Given as goal

abbrev pub invariant-frames : goal.invariant-frames
invariant-frames l = record {
  left : mappings_left (value_of l.self) l.fn.place ≡ mappings_left (value_of l.self) (place_at l.frame l.page);
  inside : l.page ≤ 2 ^ 20;
}
