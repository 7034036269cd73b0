use Rattle.std.proofs.Common.{◌≡◌, ◌≤◌, ◌-◌, ◌^◌}
use Rattle.std.specs.Prelude.{slice_get}
use Rattle.map_cache.specs.Mappings.{mappings_left, mappings_of}
use Rattle.map_cache.proofs.map_cache.MapCache.mapping.Given as goal

abbrev pub invariant-entries : goal.invariant-entries
invariant-entries l = record {
  left : slice_get (mappings_of l.self) l.n ≡ slice_get (mappings_left l.self l.place) (l.n - l.index);
  inside : l.place.page ≤ 2 ^ 20;
}
