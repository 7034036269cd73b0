-- A mapping cache by its parts: tables, keys, the harts' caches and records; and what is kept by them (this project's own).
use Rattle.std.specs.Prelude.{ℕ, true, ◌&&◌, ◌≡◌, ◌≤◌, ◌^◌, nat_lt, List, [], length, slice_get, slice_index_or, is_some, Option, Some, None}
use Rattle.std.specs.FinSet.{FinSet, len}
use Rattle.cap_format.specs.Capability.{Capability}
use Rattle.sv32_tables.specs.declared.frame_use.FrameUse.{FrameUse}
use Rattle.sv32_tables.specs.declared.frame_use.FrameUse.TheVariants.{Root, Region}
use Rattle.sv32_tables.specs.declared.leaf.Leaf.{Leaf}
use Rattle.sv32_tables.specs.Pool.{IsPlace, IsRoot, PoolValue, leaf_at}
use Rattle.tlb_model.specs.declared.entry.Entry.{Entry}
use Rattle.tlb_model.specs.Tlb.{look}
use Rattle.depend_table.specs.Depend.{Depend, has}
use Rattle.depend_table.specs.Keyed.{AreApart, frame_by}
use Rattle.depend_table.specs.Notes.{note_by, notes_by}
use Rattle.map_cache.specs.declared.key.Key.{Key}
use Rattle.map_cache.specs.Key.{code_of, key_code, no_key, region_key, root_key}
use Rattle.map_cache.specs.Kept.{KeptValue, Note, note_order}

-- the tables; what each frame in use is for, by the frames' numbers; what each hart holds; and what walks read
pub record CacheValue : Type 0 where
  pub tables : PoolValue
  pub keys : List Key
  pub tlbs : List (List Entry)
  pub records : List Depend

-- a cache by its parts
abbrev pub cache_of : PoolValue → List Key → List (List Entry) → List Depend → CacheValue
cache_of tables keys tlbs records = record { tables = tables; keys = keys; tlbs = tlbs; records = records }

-- the entries of a hart
abbrev pub tlb_at : List (List Entry) → ℕ → List Entry
tlb_at tlbs hart = slice_index_or tlbs hart []

-- the root of a space: the frame that has its key
abbrev pub root_at : List Key → Capability → Option ℕ
root_at keys space = frame_by key_code keys (root_key space)

-- the space of a root
abbrev pub space_at : List Key → ℕ → Capability
space_at keys root = (slice_index_or keys root no_key).space

-- the leaf of a page under a root, if there is a root
abbrev pub leaf_in : PoolValue → ℕ → Option ℕ → Option Leaf
leaf_in tables page None = None
leaf_in tables page (Some root) = leaf_at tables root page

-- the leaf of a page of a space
abbrev pub leaf_for : CacheValue → Capability → ℕ → Option Leaf
leaf_for v space page = leaf_in v.tables page (root_at v.keys space)

-- the note of a record, whose root stands for its space
abbrev pub note_of : List Key → Depend → Note
note_of keys = note_by (space_at keys)

-- the notes of all records
abbrev pub notes_of : List Key → List Depend → FinSet note_order
notes_of keys = notes_by code_of (space_at keys)

-- What is kept: the pairs for which the tables have a leaf, the keys of the frames in use, and the notes of all records.
abbrev pub kept_of : CacheValue → KeptValue
kept_of v = record {
  held = λ space page. nat_lt page (2 ^ 20) && is_some (leaf_for v space page);
  keys = v.keys;
  notes = notes_of v.keys v.records;
}

-- ---- what is always true of the parts

-- a frame's key is that of a space for a root, and for a region's frame that of its root's space and the region
abbrev pub HasKey : List Key → ℕ → FrameUse → Type 0
HasKey keys frame Root = (space : Capability) × (slice_get keys frame ≡ Some (root_key space))
HasKey keys frame (Region root region) =
    (space : Capability) × (slice_get keys frame ≡ Some (region_key space region)) × (slice_get keys root ≡ Some (root_key space))

-- a hart's leaf is the tables'
pub record IsBacked (tables : PoolValue) (root page : ℕ) (leaf : Leaf) : Type 0 where
  pub place : IsPlace tables root page
  pub there : leaf_at tables root page ≡ Some leaf

-- Each frame in use has a key of its own, each hart's leaf is the tables', and each record is of a root and has a note of its own.
pub record IsCache (tables : PoolValue) (keys : List Key) (tlbs : List (List Entry)) (records : List Depend) : Type 0 where
  pub frames : length keys ≡ length tables.uses
  pub most_keys : length keys ≤ 256
  pub frame : (frame : ℕ) (u : FrameUse) → slice_get tables.uses frame ≡ Some u → HasKey keys frame u
  pub apart : AreApart keys
  pub backed : (hart root page : ℕ) (leaf : Leaf) → look (tlb_at tlbs hart) root page ≡ Some leaf → IsBacked tables root page leaf
  pub roots : (d : Depend) → has records d ≡ true → IsRoot tables d.root
  pub noted : len (notes_of keys records) ≡ length records
  pub most_records : length records ≤ 16384
