-- The entries of the tables as a list (this project's own).
use Rattle.std.specs.Prelude.{ℕ, zero, suc, ◌≡◌, ◌<◌, ◌≤◌, ◌-◌, ◌*◌, ◌^◌, List, [], ◌∷◌, ◌++◌, drop, slice_get, Option, Some, None}
use Rattle.cap_format.specs.Capability.{Capability}
use Rattle.sv32_tables.specs.declared.leaf.Leaf.{Leaf}
use Rattle.sv32_tables.specs.Pool.{PoolValue, leaf_at}
use Rattle.map_cache.specs.declared.key.Key.{Key}
use Rattle.map_cache.specs.declared.mapping.Mapping.{Mapping}
use Rattle.map_cache.specs.declared.mapping.MappingPlace.{MappingPlace}
use Rattle.map_cache.specs.Cache.{CacheValue, leaf_for}

-- the entry of a page of a space
abbrev pub mapping_of : Capability → ℕ → Leaf → Mapping
mapping_of space page leaf = record { space = space; va = page * 4096; page = leaf.page; write = leaf.write; execute = leaf.execute }

-- the entry of a page, if it has a leaf
abbrev pub page_entries : Capability → ℕ → Option Leaf → List Mapping
page_entries space page None = []
page_entries space page (Some leaf) = mapping_of space page leaf ∷ []

-- the entries of so many pages of a space from one page on, in order
unfoldable pub entries_from : PoolValue → ℕ → Capability → ℕ → ℕ → List Mapping
entries_from tables root space page zero = []
entries_from tables root space page (suc n) = page_entries space page (leaf_at tables root page) ++ entries_from tables root space (suc page) n

-- the entries under a frame from one page on: the space's where it is a root, and none of a region's frame
abbrev pub entries_under : PoolValue → ℕ → Capability → ℕ → Option ℕ → List Mapping
entries_under tables frame space page None = entries_from tables frame space page (2 ^ 20 - page)
entries_under tables frame space page (Some region) = []

-- the entries under all frames from one frame on, whose keys these are
abbrev pub entries_in : PoolValue → ℕ → List Key → List Mapping
entries_in tables frame [] = []
entries_in tables frame (k ∷ keys) = entries_under tables frame k.space 0 k.region ++ entries_in tables (suc frame) keys

-- the entries of the tables: space by space in the order of their roots, and by address in each
abbrev pub mappings_of : CacheValue → List Mapping
mappings_of v = entries_in v.tables 0 v.keys

-- a place by its parts
abbrev pub place_at : ℕ → ℕ → MappingPlace
place_at frame page = record { frame = frame; page = page }

-- the place before all entries
abbrev pub start : MappingPlace
start = place_at 0 0

-- the entries behind a place: under its frame from its page on, and under all later frames
abbrev pub entries_at : PoolValue → ℕ → ℕ → List Key → List Mapping
entries_at tables frame page [] = []
entries_at tables frame page (k ∷ keys) = entries_under tables frame k.space page k.region ++ entries_in tables (suc frame) keys

-- the entries that are left at a place
abbrev pub mappings_left : CacheValue → MappingPlace → List Mapping
mappings_left v place = entries_at v.tables place.frame place.page (drop place.frame v.keys)

-- a page is the first one with a leaf from one page up to another
pub record HasNext (tables : PoolValue) (root first end page : ℕ) (leaf : Leaf) : Type 0 where
  pub from : first ≤ page
  pub before : page < end
  pub there : leaf_at tables root page ≡ Some leaf
  pub none : (p : ℕ) → first ≤ p → p < page → leaf_at tables root p ≡ None

-- the entries of the tables: each leaf of a space once, and those of a space in order of address
pub record AreMappings (v : CacheValue) (mappings : List Mapping) : Type 0 where
  pub each : (space : Capability) (page : ℕ) (leaf : Leaf) → page < 2 ^ 20 → leaf_for v space page ≡ Some leaf
      → (n : ℕ) × (slice_get mappings n ≡ Some (mapping_of space page leaf))
  pub right : (n : ℕ) (m : Mapping) → slice_get mappings n ≡ Some m
      → (page : ℕ) × (leaf : Leaf) × (page < 2 ^ 20) × (leaf_for v m.space page ≡ Some leaf) × (m ≡ mapping_of m.space page leaf)
  pub order : (i j : ℕ) (m n : Mapping) → i < j → slice_get mappings i ≡ Some m → slice_get mappings j ≡ Some n → m.space ≡ n.space → m.va < n.va
