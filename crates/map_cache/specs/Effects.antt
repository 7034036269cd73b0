-- What the parts of a cache's calls leave.
use Rattle.std.specs.Prelude.{ℕ, ◌≡◌, ◌≢◌, ◌<◌, ◌*◌, ◌/◌, ◌^◌, Bool, true, false, not, ◌&&◌, ◌==◌, if◌then◌else◌, List, [], length, filter, slice_get, Option, Some, None}
use Rattle.std.specs.List.{AllByRecursion as Each, list_any}
use Rattle.cap_format.specs.Capability.{Capability}
use Rattle.cap_format.specs.declared.item.Item.{Item}
use Rattle.guard_math.specs.Block.{holds}
use Rattle.object_store.specs.Store.{Items}
use Rattle.object_store.specs.Meaning.{meaning}
use Rattle.walk_meaning.specs.declared.kind.Kind.{Kind}
use Rattle.walk_meaning.specs.declared.kind.Kind.TheVariants.{Fetch, Load, Store}
use Rattle.walk_meaning.specs.declared.place.Place.{Place}
use Rattle.walk_meaning.specs.Walk.{denied}
use Rattle.walk_meaning.specs.declared.noted.Noted.{Noted}
use Rattle.walk_meaning.specs.Trail.{trail}
use Rattle.sv32_tables.specs.declared.leaf.Leaf.{Leaf}
use Rattle.sv32_tables.specs.Pool.{IsPlace, IsRoot, leaf_at}
use Rattle.tlb_model.specs.declared.entry.Entry.{Entry}
use Rattle.tlb_model.specs.Tlb.{look}
use Rattle.depend_table.specs.Depend.{Depend, depend, has, same_item}
use Rattle.map_cache.specs.declared.key.Key.{Key}
use Rattle.map_cache.specs.Key.{region_key, root_key, same_space, with_key}
use Rattle.map_cache.specs.Kept.{added, added_to, fits, is_on, noted_all}
use Rattle.map_cache.specs.Cache.{CacheValue, IsCache, kept_of, leaf_for, note_of, notes_of, root_at, tlb_at}
use Rattle.map_cache.specs.Coherent.{IsCoherent, IsFresh, IsRecorded}
use Rattle.map_cache.specs.declared.mappings.Mappings.{Mappings}

-- the parts as one value
abbrev pub value_of : Mappings → CacheValue
value_of m = record { tables = m.tables; keys = m.keys.items; tlbs = m.tlbs.items; records = m.records }

-- what is always true of the parts
abbrev pub IsKept : Mappings → Type 0
IsKept m = IsCache m.tables m.keys.items m.tlbs.items m.records

-- nothing is kept, in any part
pub record IsBlank (v : CacheValue) : Type 0 where
  pub tables : v.tables.uses ≡ []
  pub keys : v.keys ≡ []
  pub tlbs : (hart : ℕ) → tlb_at v.tlbs hart ≡ []
  pub records : v.records ≡ []

-- the leaves of all pages are the same
abbrev pub SameLeaves : CacheValue → CacheValue → Type 0
SameLeaves old new = (space : Capability) (page : ℕ) → page < 2 ^ 20 → leaf_for new space page ≡ leaf_for old space page

-- a page of a space gets a leaf, and all other pages keep what they had
abbrev pub SetsLeaf : CacheValue → CacheValue → Capability → ℕ → Leaf → Type 0
SetsLeaf old new space page leaf = (s : Capability) (p : ℕ) → p < 2 ^ 20
    → leaf_for new s p ≡ (if same_space s space && (p == page) then Some leaf else leaf_for old s p)

-- what agreed with a map of objects still does
abbrev pub StaysCoherent : CacheValue → CacheValue → Type 0
StaysCoherent old new = (o : Items) → IsCoherent old o → IsCoherent new o

-- a space has a root, which it had or which is new and has no leaf
pub record RootsSpace (old new : CacheValue) (space : Capability) (root : ℕ) : Type 0 where
  pub here : slice_get new.keys root ≡ Some (root_key space)
  pub made : IsRoot new.tables root
  pub keys : new.keys ≡ with_key old.keys (root_key space)
  pub notes : notes_of new.keys new.records ≡ notes_of old.keys old.records
  pub tlbs : new.tlbs ≡ old.tlbs
  pub leaves : SameLeaves old new
  pub coherent : StaysCoherent old new

-- the reads of a walk from the space of a root are recorded, and nothing else changes
pub record NotesReads (old new : CacheValue) (space : Capability) (root : ℕ) (reads : List Noted) : Type 0 where
  pub tables : new.tables ≡ old.tables
  pub keys : new.keys ≡ old.keys
  pub tlbs : new.tlbs ≡ old.tlbs
  pub notes : notes_of new.keys new.records ≡ noted_all (notes_of old.keys old.records) space reads
  pub stay : (d : Depend) → has old.records d ≡ true → has new.records d ≡ true
  pub there : Each (λ (n : Noted). has new.records (depend n.item root n.block) ≡ true) reads

-- a page of a space gets a leaf, and its region a frame where it had none
pub record SetsPage (old new : CacheValue) (space : Capability) (root page : ℕ) (leaf : Leaf) : Type 0 where
  pub place : IsPlace new.tables root page
  pub there : leaf_at new.tables root page ≡ Some leaf
  pub root_is : root_at new.keys space ≡ Some root
  pub keys : new.keys ≡ with_key old.keys (region_key space (page / 1024))
  pub notes : notes_of new.keys new.records ≡ notes_of old.keys old.records
  pub tlbs : new.tlbs ≡ old.tlbs
  pub leaves : SetsLeaf old new space page leaf
  pub coherent : (o : Items) → IsFresh o space page leaf (IsRecorded old.records root page) → IsCoherent old o → IsCoherent new o

-- a leaf is what a walk from a space reached, which made these reads
pub record IsWalked (o : Items) (space : Capability) (page : ℕ) (leaf : Leaf) (reads : List Noted) : Type 0 where
  pub fresh : IsFresh o space page leaf (λ n. holds n.block page ≡ true)
  pub reads_are : trail o (meaning o space) (page * 4096) Load ≡ reads

-- a hart holds the leaf of a page of a space
pub record IsHeld (v : CacheValue) (hart : ℕ) (space : Capability) (page : ℕ) (leaf : Leaf) : Type 0 where
  pub root : ℕ
  pub root_is : root_at v.keys space ≡ Some root
  pub tables : leaf_at v.tables root page ≡ Some leaf
  pub tlb : look (tlb_at v.tlbs hart) root page ≡ Some leaf

-- the addition of a walk's page was done, for a hart
pub record Keeps (old new : CacheValue) (hart : ℕ) (space : Capability) (page : ℕ) (leaf : Leaf) (reads : List Noted) : Type 0 where
  pub kept : kept_of new ≡ added (kept_of old) space page reads
  pub coherent : (o : Items) → IsWalked o space page leaf reads → IsCoherent old o → IsCoherent new o
  pub held : IsHeld new hart space page leaf
  pub others : (k : ℕ) → k ≢ hart → tlb_at new.tlbs k ≡ tlb_at old.tlbs k
  pub harts : length new.tlbs ≡ length old.tlbs

-- the same, after all was forgotten where there would be too much
pub record Remembers (old new : CacheValue) (hart : ℕ) (space : Capability) (page : ℕ) (leaf : Leaf) (reads : List Noted) : Type 0 where
  pub kept : kept_of new ≡ added_to (kept_of old) space page reads
  pub coherent : (o : Items) → IsWalked o space page leaf reads → IsCoherent old o → IsCoherent new o
  pub held : IsHeld new hart space page leaf
  pub others : (k : ℕ) → k ≢ hart → tlb_at new.tlbs k ≡ (if fits (added (kept_of old) space page reads) then tlb_at old.tlbs k else [])
  pub harts : length new.tlbs ≡ length old.tlbs

-- whether a record's note is for this space and this item, and its block has the page
abbrev pub hits : List Key → Capability → ℕ → Item → Depend → Bool
hits keys space page item d = is_on space page item (note_of keys d)

-- the leaf of a page once all records of an item are gone
abbrev pub leaf_left : CacheValue → Item → Capability → ℕ → Option Leaf
leaf_left v item space page = if list_any (hits v.keys space page item) v.records then None else leaf_for v space page

-- whether a record is there once all records of an item are gone
abbrev pub is_left : CacheValue → Item → Depend → Bool
is_left v item d = not (same_item d.item item) && has v.records d

-- whether a record is for this root and this item, and its block has the page
abbrev pub takes_out : ℕ → ℕ → Item → Depend → Bool
takes_out root page item d = same_item d.item item && ((root == d.root) && holds d.block page)

-- the entries of a hart once all records of an item are gone
abbrev pub tlb_left : CacheValue → Item → ℕ → List Entry
tlb_left v item hart = filter (λ entry. not (list_any (takes_out entry.root entry.page item) v.records)) (tlb_at v.tlbs hart)

-- some records of an item are gone with their blocks, or none; what will be left is the same
pub record Forgets (old new : CacheValue) (item : Item) : Type 0 where
  pub keys : new.keys ≡ old.keys
  pub leaves : (space : Capability) (page : ℕ) → page < 2 ^ 20 → leaf_left new item space page ≡ leaf_left old item space page
  pub records : (d : Depend) → is_left new item d ≡ is_left old item d
  pub coherent : StaysCoherent old new
  pub tlbs : (hart : ℕ) → tlb_left new item hart ≡ tlb_left old item hart
  pub harts : length new.tlbs ≡ length old.tlbs

-- whether a leaf lets an access of a data kind through
abbrev pub allows : Leaf → Kind → Bool
allows leaf Fetch = leaf.execute
allows leaf Load = true
allows leaf Store = leaf.write
allows leaf _ = false

-- the leaf of the place that a walk reached
abbrev pub reached_leaf : Place → Leaf
reached_leaf place = record { page = place.number; write = not (denied Store place.restr.0); execute = not (denied Fetch place.restr.0) }

-- no more than one hart's cache changes
pub record ChangesHart (old new : CacheValue) (hart : ℕ) : Type 0 where
  pub tables : new.tables ≡ old.tables
  pub keys : new.keys ≡ old.keys
  pub records : new.records ≡ old.records
  pub others : (k : ℕ) → k ≢ hart → tlb_at new.tlbs k ≡ tlb_at old.tlbs k
  pub harts : length new.tlbs ≡ length old.tlbs

-- the hart holds the leaf of the page, which leads to this physical page
pub record AnswersHeld (v : CacheValue) (hart : ℕ) (space : Capability) (page number : ℕ) : Type 0 where
  pub leaf : Leaf
  pub held : IsHeld v hart space page leaf
  pub leads : leaf.page ≡ number
