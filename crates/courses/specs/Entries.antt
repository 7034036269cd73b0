-- The entries of the mapping cache behind a run (this project's own).
use Rattle.std.specs.Prelude.{◌≡◌, ℕ, true, List, []}
use Rattle.cap_format.specs.Capability.{Capability}
use Rattle.object_store.specs.Store.{Items, counts_by_kind}
use Rattle.map_cache.specs.declared.mapping.Mapping.{Mapping}
use Rattle.map_cache.specs.Held.{AreRight}
use Rattle.map_cache.specs.Kept.{counted}
use Rattle.machine_state.specs.Outcome.{Touch}
use Rattle.fetch_economy.specs.Economy.{at_start, economy_after, need_fits}
use Rattle.fetch_economy.specs.Laws.{HasEntry}

-- no object
abbrev pub no_items : Items
no_items = record { counts = counts_by_kind [] [] [] [] []; gpts = [] }

-- Entries behind a run: each is right over the last items and its space live, none comes twice, those of a space are in
-- order of address; and where the need of the run fits, each covered pair has one.
pub record AreEntriesBehind (end : Items) (touches : List Touch) (entries : List Mapping) : Type 0 where
  pub are : AreRight end entries
  pub whole : need_fits touches ≡ true → (space : Capability) (page : ℕ) → (economy_after at_start touches).covered space page ≡ true
      → HasEntry entries (counted end space) page
