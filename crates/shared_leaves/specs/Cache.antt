-- Shared leaf tables by their parts: tables, keys, the harts' caches and records; and what is kept by them (this project's own).
use Rattle.std.specs.Prelude.{ℕ, true, ◌&&◌, ◌≡◌, ◌<◌, ◌≤◌, ◌^◌, nat_lt, if◌then◌else◌, List, length, slice_get, slice_index_or, is_some, Option, Some, None}
use Rattle.std.specs.FinSet.{FinSet, len}
use Rattle.cap_format.specs.Capability.{Capability}
use Rattle.sv32_tables.specs.declared.leaf.Leaf.{Leaf as Entry}
use Rattle.sv32_tables.specs.declared.shared_use.SharedUse.{SharedUse}
use Rattle.sv32_tables.specs.declared.shared_use.SharedUse.TheVariants.{Root as RootUse, Leaf as LeafUse}
use Rattle.sv32_tables.specs.Shared.{IsLeafTable, IsSharedRoot, SharedValue, entry_at, link_at, shared_leaf_at}
use Rattle.tlb_model.specs.declared.entry.Entry.{Entry as TlbEntry}
use Rattle.tlb_model.specs.Tlb.{look}
use Rattle.depend_table.specs.Depend.{Depend, has}
use Rattle.depend_table.specs.Keyed.{AreApart, frame_by}
use Rattle.depend_table.specs.Notes.{note_by, notes_by}
use Rattle.map_cache.specs.Cache.{tlb_at}
use Rattle.shared_leaves.specs.declared.key.Key.{Key}
use Rattle.shared_leaves.specs.Key.{is_leaf, key_code, no_key, root_key}
use Rattle.shared_leaves.specs.Kept.{Note, SharedKept, note_order}

-- the tables; what each frame in use is for, by the frames' numbers; what each hart holds; and what walks read
pub record SharedCache : Type 0 where
  pub tables : SharedValue
  pub keys : List Key
  pub tlbs : List (List TlbEntry)
  pub records : List Depend

-- a cache by its parts
abbrev pub cache_of : SharedValue → List Key → List (List TlbEntry) → List Depend → SharedCache
cache_of tables keys tlbs records = record { tables = tables; keys = keys; tlbs = tlbs; records = records }

-- the frame that has a key
abbrev pub frame_of : List Key → Key → Option ℕ
frame_of = frame_by key_code

-- the root of a space
abbrev pub root_at : List Key → Capability → Option ℕ
root_at keys space = frame_of keys (root_key space)

-- the key of a frame
abbrev pub key_at : List Key → ℕ → Key
key_at keys frame = slice_index_or keys frame no_key

-- the key of the leaf table that is linked, if one is
abbrev pub key_of_link : List Key → Option ℕ → Option Key
key_of_link keys None = None
key_of_link keys (Some frame) = Some (key_at keys frame)

-- the key to which a region of a root is linked, if there is a root
abbrev pub link_in : SharedValue → List Key → ℕ → Option ℕ → Option Key
link_in tables keys region None = None
link_in tables keys region (Some root) = key_of_link keys (link_at tables root region)

-- the key to which a region of a space is linked
abbrev pub link_for : SharedCache → Capability → ℕ → Option Key
link_for v space region = link_in v.tables v.keys region (root_at v.keys space)

-- the entry at a place of a leaf table, if there is one
abbrev pub entry_in : SharedValue → ℕ → Option ℕ → Option Entry
entry_in tables place None = None
entry_in tables place (Some frame) = entry_at tables frame place

-- the entry at a place of a key's leaf table
abbrev pub entry_for : SharedCache → Key → ℕ → Option Entry
entry_for v key place = if is_leaf key then entry_in v.tables place (frame_of v.keys key) else None

-- the leaf of a page under a root, if there is a root
abbrev pub leaf_in : SharedValue → ℕ → Option ℕ → Option Entry
leaf_in tables page None = None
leaf_in tables page (Some root) = shared_leaf_at tables root page

-- the leaf of a page of a space
abbrev pub leaf_for : SharedCache → Capability → ℕ → Option Entry
leaf_for v space page = leaf_in v.tables page (root_at v.keys space)

-- the note of a record, whose frame stands for its key
abbrev pub note_of : List Key → Depend → Note
note_of keys = note_by (key_at keys)

-- the notes of all records
abbrev pub notes_of : List Key → List Depend → FinSet note_order
notes_of keys = notes_by key_code (key_at keys)

-- What is kept: the keys of the frames in use, the links and the entries of the tables, and the notes of all records.
abbrev pub kept_of : SharedCache → SharedKept
kept_of v = record {
  keys = v.keys;
  links = λ space region. if nat_lt region 1024 then link_for v space region else None;
  held = λ key place. nat_lt place 1024 && is_some (entry_for v key place);
  notes = notes_of v.keys v.records;
}

-- ---- what is always true of the parts

-- a root's key is that of a space, and a leaf table's that of a leaf table
abbrev pub HasUse : List Key → ℕ → SharedUse → Type 0
HasUse keys frame RootUse = (space : Capability) × (slice_get keys frame ≡ Some (root_key space))
HasUse keys frame LeafUse = (key : Key) × (slice_get keys frame ≡ Some key) × (is_leaf key ≡ true)

-- a hart's leaf is the tables'
pub record IsBacked (tables : SharedValue) (root page : ℕ) (leaf : Entry) : Type 0 where
  pub made : IsSharedRoot tables root
  pub inside : page < 2 ^ 20
  pub there : shared_leaf_at tables root page ≡ Some leaf

-- Each frame in use has a key of its own, links lead to leaf tables, each hart's leaf is the tables', and each record is of a
-- frame in use and has a note of its own.
pub record IsCache (tables : SharedValue) (keys : List Key) (tlbs : List (List TlbEntry)) (records : List Depend) : Type 0 where
  pub frames : length keys ≡ length tables.uses
  pub most_keys : length keys ≤ 256
  pub frame : (frame : ℕ) (u : SharedUse) → slice_get tables.uses frame ≡ Some u → HasUse keys frame u
  pub apart : AreApart keys
  pub linked : (root region leaf : ℕ) → IsSharedRoot tables root → region < 1024 → link_at tables root region ≡ Some leaf → IsLeafTable tables leaf
  pub backed : (hart root page : ℕ) (leaf : Entry) → look (tlb_at tlbs hart) root page ≡ Some leaf → IsBacked tables root page leaf
  pub within : (d : Depend) → has records d ≡ true → d.root < length keys
  pub noted : len (notes_of keys records) ≡ length records
  pub most_records : length records ≤ 16384
