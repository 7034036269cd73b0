-- The laws of what touches fetch over a mapping cache, whatever run they are of (this project's own).
use Rattle.std.specs.Prelude.{ℕ, true, false, ◌≡◌, ◌+◌, ◌*◌, ◌≤◌, List, slice_get, Some}
use Rattle.cap_format.specs.Capability.{Capability}
use Rattle.object_store.specs.Store.{Items}
use Rattle.sv32_tables.specs.declared.leaf.Leaf.{Leaf}
use Rattle.map_cache.specs.declared.mapping.Mapping.{Mapping}
use Rattle.map_cache.specs.Kept.{KeptValue, nothing, counted}
use Rattle.map_cache.specs.Cache.{CacheValue, kept_of}
use Rattle.map_cache.specs.Mappings.{AreMappings, mapping_of}
use Rattle.machine_state.specs.Outcome.{Touch}
use Rattle.fetch_economy.specs.Counts.{accesses, gpt_calls, slot_reads, fetched_by, kept_by, overflows_in}
use Rattle.fetch_economy.specs.Economy.{at_start, economy_after, uncovered, need_fits}
use Rattle.fetch_economy.specs.Ages.{AgesAreTold}

-- ---- in every run

-- Whatever is kept before them, touches fetch at most 32 slots for each access, and one for each slot that an operation reads.
abbrev pub BoundInEveryRun : Type 0
BoundInEveryRun =
    (kept : KeptValue) (touches : List Touch) → fetched_by kept touches ≤ 32 * accesses touches + slot_reads touches

-- The same in rounder numbers: 33 for each access, and one for each invocation of a GPT's capability.
abbrev pub RoundBound : Type 0
RoundBound =
    (kept : KeptValue) (touches : List Touch) → fetched_by kept touches ≤ 33 * accesses touches + gpt_calls touches

-- ---- where the need fits

-- What touches come to that begin with nothing kept and end over these items: at most 32 slots for each touch that has to be
-- walked, and one for each slot that an operation reads; each covered pair is held; and at no time was all forgotten for
-- want of room.
pub record IsEconomic (end : Items) (touches : List Touch) : Type 0 where
  pub few : fetched_by nothing touches ≤ 32 * uncovered at_start touches + slot_reads touches
  pub held : (space : Capability) (page : ℕ) → (economy_after at_start touches).covered space page ≡ true
      → (kept_by nothing touches).held (counted end space) page ≡ true
  pub whole : overflows_in nothing touches ≡ false

-- so it is where the need of touches fits, and each age that changes along them is told
abbrev pub FetchEconomy : Type 0
FetchEconomy =
    (start end : Items) (touches : List Touch) → AgesAreTold start touches end → need_fits touches ≡ true →
    IsEconomic end touches

-- the bound in rounder numbers
abbrev pub RoundEconomy : Type 0
RoundEconomy =
    (start end : Items) (touches : List Touch) → AgesAreTold start touches end → need_fits touches ≡ true →
    fetched_by nothing touches ≤ 33 * uncovered at_start touches + gpt_calls touches

-- the entry of a page of a space is among these
pub record HasEntry (entries : List Mapping) (space : Capability) (page : ℕ) : Type 0 where
  pub place : ℕ
  pub leaf : Leaf
  pub there : slice_get entries place ≡ Some (mapping_of space page leaf)

-- and then a cache that keeps what touches leave has an entry for each covered pair
abbrev pub CoveredHaveEntries : Type 0
CoveredHaveEntries =
    (start end : Items) (touches : List Touch) (cache : CacheValue) (entries : List Mapping) →
    AgesAreTold start touches end → need_fits touches ≡ true →
    kept_of cache ≡ kept_by nothing touches → AreMappings cache entries →
    (space : Capability) (page : ℕ) → (economy_after at_start touches).covered space page ≡ true →
    HasEntry entries (counted end space) page
