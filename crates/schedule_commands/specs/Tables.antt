-- The mapping lines behind the last state (this project's own).
use Rattle.std.specs.Prelude.{◌≡◌, ℕ, List, [], ◌∷◌, ◌++◌}
use Rattle.object_store.specs.Store.{Items}
use Rattle.map_cache.specs.declared.mapping.Mapping.{Mapping}
use Rattle.map_cache.specs.Cache.{CacheValue, kept_of}
use Rattle.map_cache.specs.Held.{AreRight, held_entries}
use Rattle.map_cache.specs.Mappings.{AreMappings, mappings_of}
use Rattle.run_text.specs.Mapping.{mapping_text}

-- the line of an entry
abbrev pub entry_text : Mapping → List ℕ
entry_text m = mapping_text m.space m.va m.page m.write m.execute

-- the lines of entries
unfoldable pub entries_text : List Mapping → List ℕ
entries_text [] = []
entries_text (m ∷ ms) = entry_text m ++ entries_text ms

-- a cache's entries are those of what it keeps over these items, and each is right
pub record TellsEntries (v : CacheValue) (o : Items) : Type 0 where
  pub each : AreMappings v (mappings_of v)
  pub right : AreRight o (mappings_of v)
  pub held : mappings_of v ≡ held_entries o (kept_of v)
