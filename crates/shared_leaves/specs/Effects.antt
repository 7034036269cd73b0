-- What the parts of the calls leave.
use Rattle.std.specs.Prelude.{ℕ, ◌≡◌, ◌≢◌, ◌⊎◌, ◌<◌, ◌+◌, ◌*◌, ◌/◌, ◌%◌, Bool, true, not, ◌&&◌, ◌==◌, if◌then◌else◌, List, [], ◌∷◌, ◌++◌, length, map, take, drop, slice_get, Option, Some, None}
use Rattle.std.specs.List.{AllByRecursion as Each, list_any}
use Rattle.cap_format.specs.Capability.{Capability}
use Rattle.cap_format.specs.declared.item.Item.{Item}
use Rattle.guard_math.specs.Block.{holds}
use Rattle.object_store.specs.Store.{Items}
use Rattle.walk_meaning.specs.declared.noted.Noted.{Noted}
use Rattle.sv32_tables.specs.declared.leaf.Leaf.{Leaf as Entry}
use Rattle.sv32_tables.specs.Shared.{IsSharedRoot, entry_at, link_at, shared_leaf_at}
use Rattle.sv32_tables.specs.declared.shared_use.SharedUse.{SharedUse}
use Rattle.sv32_tables.specs.declared.shared_use.SharedUse.TheVariants.{Leaf as LeafUse, Root as RootUse}
use Rattle.tlb_model.specs.declared.entry.Entry.{Entry as TlbEntry}
use Rattle.tlb_model.specs.Tlb.{look}
use Rattle.depend_table.specs.Depend.{Depend, depend, has, same_item}
use Rattle.map_cache.specs.Key.{same_space}
use Rattle.map_cache.specs.Cache.{tlb_at}
use Rattle.shared_leaves.specs.declared.key.Key.{Key}
use Rattle.shared_leaves.specs.declared.key.Table.{Table}
use Rattle.shared_leaves.specs.declared.key.Table.TheVariants.{Root}
use Rattle.shared_leaves.specs.declared.leaves.LeafTables.{LeafTables}
use Rattle.producers.specs.declared.producer.Produced.{Produced}
use Rattle.producers.specs.Producer.{cut}
use Rattle.shared_leaves.specs.Key.{is_leaf, own_key, producer_key, root_key, same_key, with_key}
use Rattle.shared_leaves.specs.Kept.{Addition, added, added_to, background_reads, covers_note, is_on, has_no_other, noted_all, spares_harts}
use Rattle.shared_leaves.specs.Cache.{IsCache, SharedCache, entry_for, kept_of, link_for, note_of, notes_of, root_at, key_at}
use Rattle.shared_leaves.specs.Coherent.{IsCoherent, IsEntry, IsLink, IsRecorded}

-- the parts as one value
abbrev pub value_of : LeafTables → SharedCache
value_of m = record { tables = m.tables; keys = m.keys.items; tlbs = m.tlbs.items; records = m.records }

-- what is always true of the parts
abbrev pub IsKept : LeafTables → Type 0
IsKept m = IsCache m.tables m.keys.items m.tlbs.items m.records

-- the use of a key's frame
abbrev pub use_in : Table → SharedUse
use_in Root = RootUse
use_in _ = LeafUse

-- what the frame of a key is used for
abbrev pub use_of : Key → SharedUse
use_of k = use_in k.table

-- nothing is kept, in any part
pub record IsBlank (v : SharedCache) : Type 0 where
  pub tables : v.tables.uses ≡ []
  pub keys : v.keys ≡ []
  pub tlbs : (hart : ℕ) → tlb_at v.tlbs hart ≡ []
  pub records : v.records ≡ []

-- the links of all spaces are the same
abbrev pub SameLinksFor : SharedCache → SharedCache → Type 0
SameLinksFor old new = (s : Capability) (r : ℕ) → r < 1024 → link_for new s r ≡ link_for old s r

-- the entries of all keys are the same
abbrev pub SameEntriesFor : SharedCache → SharedCache → Type 0
SameEntriesFor old new = (k : Key) (j : ℕ) → j < 1024 → entry_for new k j ≡ entry_for old k j

-- what agreed with a map of objects still does
abbrev pub StaysCoherent : SharedCache → SharedCache → Type 0
StaysCoherent old new = (o : Items) → IsCoherent old o → IsCoherent new o

-- a key has a frame, which it had or which is new and leads nowhere
pub record HasFrame (old new : SharedCache) (key : Key) (frame : ℕ) : Type 0 where
  pub here : slice_get new.keys frame ≡ Some key
  pub keys : new.keys ≡ with_key old.keys key
  pub notes : notes_of new.keys new.records ≡ notes_of old.keys old.records
  pub tlbs : new.tlbs ≡ old.tlbs
  pub links : SameLinksFor old new
  pub entries : SameEntriesFor old new
  pub coherent : StaysCoherent old new

-- the reads behind a frame are recorded, and nothing else changes
pub record NotesReads (old new : SharedCache) (key : Key) (frame : ℕ) (reads : List Noted) : Type 0 where
  pub tables : new.tables ≡ old.tables
  pub keys : new.keys ≡ old.keys
  pub tlbs : new.tlbs ≡ old.tlbs
  pub notes : notes_of new.keys new.records ≡ noted_all (notes_of old.keys old.records) key reads
  pub stay : (d : Depend) → has old.records d ≡ true → has new.records d ≡ true
  pub there : Each (λ (n : Noted). has new.records (depend n.item frame n.block) ≡ true) reads

-- A region of a space is linked to a key's leaf table. Where it was linked to another, or to none, no hart holds anything then.
pub record Connects (old new : SharedCache) (space : Capability) (root region : ℕ) (key : Key) (leaf : ℕ) : Type 0 where
  pub linked : link_at new.tables root region ≡ Some leaf
  pub keys : new.keys ≡ old.keys
  pub records : new.records ≡ old.records
  pub links : (s : Capability) (r : ℕ) → r < 1024 → link_for new s r ≡ (if same_space s space && (r == region) then Some key else link_for old s r)
  pub entries : SameEntriesFor old new
  pub coherent : (o : Items) → IsLink o space region key (IsRecorded old.records root (region * 1024)) → IsCoherent old o → IsCoherent new o
  pub others : (k : ℕ) → tlb_at new.tlbs k ≡ (if has_no_other (link_for old space region) key then tlb_at old.tlbs k else [])
  pub harts : length new.tlbs ≡ length old.tlbs

-- a place of a key's leaf table has an entry
pub record SetsPlace (old new : SharedCache) (key : Key) (frame place : ℕ) (entry : Entry) : Type 0 where
  pub there : entry_at new.tables frame place ≡ Some entry
  pub keys : new.keys ≡ old.keys
  pub records : new.records ≡ old.records
  pub tlbs : new.tlbs ≡ old.tlbs
  pub links : SameLinksFor old new
  pub same_links : (root region : ℕ) → IsSharedRoot old.tables root → region < 1024 → link_at new.tables root region ≡ link_at old.tables root region
  pub entries : (k : Key) (j : ℕ) → j < 1024 → entry_for new k j ≡ (if same_key k key && (j == place) then Some entry else entry_for old k j)
  pub coherent : (o : Items) → IsEntry o key place entry (IsRecorded old.records frame place) → IsCoherent old o → IsCoherent new o

-- a read is one of some
abbrev pub IsAmong : List Noted → Noted → Type 0
IsAmong [] n = ⊥
IsAmong (m ∷ rest) n = (m ≡ n) ⊎ IsAmong rest n

-- a read is one of some, and its block has a page
pub record IsDue (reads : List Noted) (page : ℕ) (n : Noted) : Type 0 where
  pub among : IsAmong reads n
  pub held : holds n.block page ≡ true

-- an entry and its link are what a walk from a space reached, and depend on what is to be recorded
pub record IsWalked (o : Items) (space : Capability) (page : ℕ) (leaf : Entry) (add : Addition) : Type 0 where
  pub link : IsLink o space (page / 1024) add.key (IsDue add.link_reads (page / 1024 * 1024))
  pub entry : IsEntry o add.key (page % 1024) leaf (IsDue add.entry_reads (page % 1024))

-- a hart holds the leaf of a page of a space
pub record IsHeld (v : SharedCache) (hart : ℕ) (space : Capability) (page : ℕ) (leaf : Entry) : Type 0 where
  pub root : ℕ
  pub root_is : root_at v.keys space ≡ Some root
  pub tables : shared_leaf_at v.tables root page ≡ Some leaf
  pub tlb : look (tlb_at v.tlbs hart) root page ≡ Some leaf

-- the addition of a walk's page was done, for a hart
pub record Keeps (old new : SharedCache) (hart : ℕ) (space : Capability) (page : ℕ) (leaf : Entry) (add : Addition) : Type 0 where
  pub kept : kept_of new ≡ added (kept_of old) space page add
  pub coherent : (o : Items) → IsWalked o space page leaf add → IsCoherent old o → IsCoherent new o
  pub held : IsHeld new hart space page leaf
  pub others : (k : ℕ) → k ≢ hart → tlb_at new.tlbs k ≡ (if has_no_other ((kept_of old).links space (page / 1024)) add.key then tlb_at old.tlbs k else [])
  pub harts : length new.tlbs ≡ length old.tlbs

-- the same, after all was forgotten where there would be too much
pub record Remembers (old new : SharedCache) (hart : ℕ) (space : Capability) (page : ℕ) (leaf : Entry) (add : Addition) : Type 0 where
  pub kept : kept_of new ≡ added_to (kept_of old) space page add
  pub coherent : (o : Items) → IsWalked o space page leaf add → IsCoherent old o → IsCoherent new o
  pub held : IsHeld new hart space page leaf
  pub others : (k : ℕ) → k ≢ hart → tlb_at new.tlbs k ≡ (if spares_harts (kept_of old) space page add then tlb_at old.tlbs k else [])
  pub harts : length new.tlbs ≡ length old.tlbs

-- what a walk adds, by its producer, if it has one, and by its reads
abbrev pub addition_for : Capability → ℕ → Option Produced → List Noted → Addition
addition_for space page None reads = record { key = own_key space (page / 1024); link_reads = []; entry_reads = map cut reads }
addition_for space page (Some p) reads = record {
  key = producer_key p.producer;
  link_reads = take (p.before + 1) reads;
  entry_reads = background_reads p.producer.background ++ map cut (drop p.before reads);
}

-- an entry that the key's leaf table has at the place is this one
abbrev pub Agrees : SharedCache → Key → ℕ → Entry → Type 0
Agrees v key place entry = (e : Entry) → entry_for v key place ≡ Some e → e ≡ entry

-- no more than one hart's cache changes
pub record ChangesHart (old new : SharedCache) (hart : ℕ) : Type 0 where
  pub tables : new.tables ≡ old.tables
  pub keys : new.keys ≡ old.keys
  pub records : new.records ≡ old.records
  pub others : (k : ℕ) → k ≢ hart → tlb_at new.tlbs k ≡ tlb_at old.tlbs k
  pub harts : length new.tlbs ≡ length old.tlbs

-- a hart holds what was reached
abbrev pub AnswersHeld : SharedCache → ℕ → Capability → ℕ → ℕ → Type 0
AnswersHeld v hart space page number = (leaf : Entry) × (IsHeld v hart space page leaf) × (leaf.page ≡ number)

-- ---- a change

-- the link of a region once all records of an item are gone
abbrev pub link_left : SharedCache → Item → Capability → ℕ → Option Key
link_left v item s r = if list_any (λ d. is_on (root_key s) (r * 1024) item (note_of v.keys d)) v.records then None else link_for v s r

-- the entry of a place once all records of an item are gone
abbrev pub entry_left : SharedCache → Item → Key → ℕ → Option Entry
entry_left v item k j = if list_any (λ d. is_on k j item (note_of v.keys d)) v.records then None else entry_for v k j

-- whether a record is there once all records of an item are gone
abbrev pub is_left : SharedCache → Item → Depend → Bool
is_left v item d =
    has v.records d && (not (same_item d.item item)
    && not (is_leaf (key_at v.keys d.root) && list_any (λ e. covers_note item (note_of v.keys d) (note_of v.keys e)) v.records))

-- the entries of a hart once all records of an item are gone
abbrev pub tlb_left : SharedCache → Item → ℕ → List TlbEntry
tlb_left v item hart = if list_any (λ d. same_item d.item item) v.records then [] else tlb_at v.tlbs hart

-- some records of an item are gone with their blocks, or none; what will be left is the same
pub record Forgets (old new : SharedCache) (item : Item) : Type 0 where
  pub keys : new.keys ≡ old.keys
  pub links : (s : Capability) (r : ℕ) → r < 1024 → link_left new item s r ≡ link_left old item s r
  pub entries : (k : Key) (j : ℕ) → j < 1024 → entry_left new item k j ≡ entry_left old item k j
  pub records : (d : Depend) → is_left new item d ≡ is_left old item d
  pub coherent : StaysCoherent old new
  pub tlbs : (hart : ℕ) → tlb_left new item hart ≡ tlb_left old item hart
  pub harts : length new.tlbs ≡ length old.tlbs
