-- What calls do to a shared pool, and what a history of them leaves.
use Rattle.std.specs.Prelude.{ℕ, suc, nat_le, nat_lt, if◌then◌else◌, ◌&&◌, ◌==◌, ◌≡◌, ◌<◌, ◌+◌, ◌/◌, ◌%◌, ◌^◌, List, [], ◌∷◌, ◌++◌, length, Option, Some, None}
use Rattle.guard_math.specs.Block.{BlockValue, first_page, holds, page_count}
use Rattle.sv32_tables.specs.declared.leaf.Leaf.{Leaf as Entry}
use Rattle.sv32_tables.specs.declared.shared_use.SharedUse.{SharedUse}
use Rattle.sv32_tables.specs.Shared.{IsLeafTable, IsSharedRoot, IsUnused, SharedValue, entry_at, link_at, shared_leaf_at}

-- the next frame gets this use, and no word changes; no region of it has a link, and no page an entry
pub record MakesFrame (old new : SharedValue) (frame_use : SharedUse) (frame : ℕ) : Type 0 where
  pub number : frame ≡ length old.uses
  pub uses : new.uses ≡ old.uses ++ frame_use ∷ []
  pub words : new.words ≡ old.words
  pub bare_root : (region : ℕ) → region < 1024 → link_at new frame region ≡ None
  pub bare_leaf : (index : ℕ) → index < 1024 → entry_at new frame index ≡ None

-- the entries of all leaf tables are the same
abbrev pub SameEntries : SharedValue → SharedValue → Type 0
SameEntries old new = (leaf index : ℕ) → IsLeafTable old leaf → index < 1024 → entry_at new leaf index ≡ entry_at old leaf index

-- the links of all roots are the same
abbrev pub SameLinks : SharedValue → SharedValue → Type 0
SameLinks old new = (root region : ℕ) → IsSharedRoot old root → region < 1024 → link_at new root region ≡ link_at old root region

-- this region of this root is linked to this leaf table, or to none, and nothing else changes
pub record SetsLink (old new : SharedValue) (root region : ℕ) (link : Option ℕ) : Type 0 where
  pub links : (r i : ℕ) → IsSharedRoot old r → i < 1024 → link_at new r i ≡ (if (r == root) && (i == region) then link else link_at old r i)
  pub entries : SameEntries old new
  pub uses : new.uses ≡ old.uses

-- the region is linked to the leaf table
abbrev pub Links : SharedValue → SharedValue → ℕ → ℕ → ℕ → Type 0
Links old new root region leaf = SetsLink old new root region (Some leaf)

-- the region has no link
abbrev pub Unlinks : SharedValue → SharedValue → ℕ → ℕ → Type 0
Unlinks old new root region = SetsLink old new root region None

-- this place of this leaf table gets the entry, and nothing else changes
pub record SetsEntry (old new : SharedValue) (leaf index : ℕ) (entry : Entry) : Type 0 where
  pub entries : (f i : ℕ) → IsLeafTable old f → i < 1024 → entry_at new f i ≡ (if (f == leaf) && (i == index) then Some entry else entry_at old f i)
  pub links : SameLinks old new
  pub uses : new.uses ≡ old.uses

-- this leaf table has no entry at the places from the first up to the end, and nothing else changes
pub record ClearsPlaces (old new : SharedValue) (leaf first end : ℕ) : Type 0 where
  pub entries : (f i : ℕ) → IsLeafTable old f → i < 1024 → entry_at new f i ≡ (if (f == leaf) && (nat_le first i && nat_lt i end) then None else entry_at old f i)
  pub links : SameLinks old new
  pub uses : new.uses ≡ old.uses

-- this leaf table has no entry at the pages of the block, and nothing else changes
abbrev pub ClearsBlock : SharedValue → SharedValue → ℕ → BlockValue → Type 0
ClearsBlock old new leaf block = ClearsPlaces old new leaf (first_page block) (first_page block + page_count block)

-- a call that changed a pool: a frame was made, a region linked or unlinked, an entry set, a block cleared, or all
pub data SharedChange : Type 0 where
  Made : SharedUse → ℕ → SharedChange
  Linked : ℕ → ℕ → ℕ → SharedChange
  Unlinked : ℕ → ℕ → SharedChange
  Set : ℕ → ℕ → Entry → SharedChange
  Cleared : ℕ → BlockValue → SharedChange
  AllCleared : SharedChange

-- what the call of a change makes of a pool; a leaf table that is linked was made before
abbrev pub Follows : SharedChange → SharedValue → SharedValue → Type 0
Follows (Made frame_use frame) old new = MakesFrame old new frame_use frame
Follows (Linked root region leaf) old new = Links old new root region leaf × IsLeafTable old leaf
Follows (Unlinked root region) old new = Unlinks old new root region
Follows (Set leaf index entry) old new = SetsEntry old new leaf index entry
Follows (Cleared leaf block) old new = ClearsBlock old new leaf block
Follows AllCleared old new = IsUnused new

-- a history, the latest change first, leads from an unused pool to this one
abbrev pub LeadsTo : List SharedChange → SharedValue → Type 0
LeadsTo [] pool = IsUnused pool
LeadsTo (change ∷ earlier) pool = (before : SharedValue) × LeadsTo earlier before × Follows change before pool

-- the leaf table to which a history last linked a region of a root and that it did not unlink since
abbrev pub last_link : List SharedChange → ℕ → ℕ → Option ℕ
last_link [] root region = None
last_link (Made u frame ∷ earlier) root region = if root == frame then None else last_link earlier root region
last_link (Linked r i leaf ∷ earlier) root region = if (root == r) && (region == i) then Some leaf else last_link earlier root region
last_link (Unlinked r i ∷ earlier) root region = if (root == r) && (region == i) then None else last_link earlier root region
last_link (Set leaf index entry ∷ earlier) root region = last_link earlier root region
last_link (Cleared leaf block ∷ earlier) root region = last_link earlier root region
last_link (AllCleared ∷ earlier) root region = None

-- the entry that a history last set at a place of a leaf table and did not clear since
abbrev pub last_entry : List SharedChange → ℕ → ℕ → Option Entry
last_entry [] leaf index = None
last_entry (Made u frame ∷ earlier) leaf index = if leaf == frame then None else last_entry earlier leaf index
last_entry (Linked r i linked ∷ earlier) leaf index = last_entry earlier leaf index
last_entry (Unlinked r i ∷ earlier) leaf index = last_entry earlier leaf index
last_entry (Set f i entry ∷ earlier) leaf index = if (leaf == f) && (index == i) then Some entry else last_entry earlier leaf index
last_entry (Cleared f block ∷ earlier) leaf index = if (leaf == f) && holds block index then None else last_entry earlier leaf index
last_entry (AllCleared ∷ earlier) leaf index = None

-- how many frames a history made since it last cleared all
abbrev pub frames_made : List SharedChange → ℕ
frames_made [] = 0
frames_made (Made u frame ∷ earlier) = suc (frames_made earlier)
frames_made (AllCleared ∷ earlier) = 0
frames_made (Linked r i leaf ∷ earlier) = frames_made earlier
frames_made (Unlinked r i ∷ earlier) = frames_made earlier
frames_made (Set f i entry ∷ earlier) = frames_made earlier
frames_made (Cleared f block ∷ earlier) = frames_made earlier

-- the entry that a history left at a place of a leaf table, if there is one
abbrev pub last_below : List SharedChange → ℕ → Option ℕ → Option Entry
last_below history index None = None
last_below history index (Some leaf) = last_entry history leaf index

-- what a history leaves: each page of each root has the entry last set and not cleared since in the leaf table last linked
-- and not unlinked since, and as many frames are in use as were made
pub record IsLeft (history : List SharedChange) (pool : SharedValue) : Type 0 where
  pub links : (root region : ℕ) → IsSharedRoot pool root → region < 1024 → link_at pool root region ≡ last_link history root region
  pub entries : (leaf index : ℕ) → IsLeafTable pool leaf → index < 1024 → entry_at pool leaf index ≡ last_entry history leaf index
  pub pages : (root page : ℕ) → IsSharedRoot pool root → page < 2 ^ 20
      → shared_leaf_at pool root page ≡ last_below history (page % 1024) (last_link history root (page / 1024))
  pub used : length pool.uses ≡ frames_made history

-- whatever was done to a pool, this is what it leaves
abbrev pub HasLastEntries : Type 0
HasLastEntries = (history : List SharedChange) (pool : SharedValue) → LeadsTo history pool → IsLeft history pool
