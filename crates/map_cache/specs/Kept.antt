-- What a mapping cache keeps, what that spares, and what a change takes out of it (this project's own). A space is a
-- capability with its count.
use Rattle.std.specs.Prelude.{ℕ, Bool, true, false, not, ◌≡◌, ◌&&◌, ◌||◌, ◌==◌, nat_le, if◌then◌else◌, ◌/◌, List, [], length, filter, Option, Some, None, Result, Ok, Err}
use Rattle.std.specs.List.{list_any}
use Rattle.std.specs.declared.cmp.Ordering.{Ordering}
use Rattle.std.specs.FinSet.{FinSet, empty, items, len, retain}
use Rattle.cap_format.specs.Kind.{is_counted, object_kind}
use Rattle.cap_format.specs.Capability.{Capability, with_count}
use Rattle.cap_format.specs.declared.item.Item.{Item}
use Rattle.guard_math.specs.Block.{holds}
use Rattle.object_store.specs.Store.{Items, count_of}
use Rattle.walk_meaning.specs.declared.kind.Kind.{Kind}
use Rattle.walk_meaning.specs.declared.noted.Noted.{Noted}
use Rattle.walk_meaning.specs.declared.place.Place.{Place}
use Rattle.walk_meaning.specs.declared.place.WalkFault.{WalkFault}
use Rattle.walk_meaning.specs.Walk.{access}
use Rattle.walk_meaning.specs.Trail.{slots, trail}
use Rattle.sv32_tables.specs.declared.leaf.Leaf.{Leaf}
use Rattle.tlb_model.specs.declared.entry.Entry.{Entry}
use Rattle.tlb_model.specs.Tlb.{look}
use Rattle.depend_table.specs.Depend.{same_item}
use Rattle.depend_table.specs.Keyed.{frame_by}
use Rattle.depend_table.specs.Notes.{Note as NoteFor, noted_by, order_by}
use Rattle.map_cache.specs.declared.key.Key.{Key}
use Rattle.map_cache.specs.Key.{code_of, key_code, region_key, root_key, same_space, with_key}

-- ---- what is kept

-- what a walk from a space read: an item, for the addresses of a block
abbrev pub Note : Type 0
Note = NoteFor Capability

-- an order of notes, by their numbers; notes that tie are one
abbrev pub note_order : Note → Note → Ordering
note_order = order_by code_of

-- What is kept: which pairs of a space and a page are held; the spaces, and the pairs of a space and a region, that have
-- a frame; and what the walks to the pages read.
pub record KeptValue : Type 0 where
  pub held : Capability → ℕ → Bool
  pub keys : List Key
  pub notes : FinSet note_order

-- nothing is kept
abbrev pub nothing : KeptValue
nothing = record { held = λ space page. false; keys = []; notes = empty }

-- ---- one addition

-- the notes with those of a walk's reads
abbrev pub noted_all : FinSet note_order → Capability → List Noted → FinSet note_order
noted_all = noted_by code_of

-- with a pair more: its space, its space with its region, and what the walk to it read
abbrev pub added : KeptValue → Capability → ℕ → List Noted → KeptValue
added k space page reads = record {
  held = λ s p. (same_space s space && (p == page)) || k.held s p;
  keys = with_key (with_key k.keys (root_key space)) (region_key space (page / 1024));
  notes = noted_all k.notes space reads;
}

-- at most 256 keys and 16,384 notes
abbrev pub fits : KeptValue → Bool
fits k = nat_le (length k.keys) 256 && nat_le (len k.notes) 16384

-- the addition; where there would be too much, the same addition to nothing
abbrev pub added_to : KeptValue → Capability → ℕ → List Noted → KeptValue
added_to k space page reads = if fits (added k space page reads) then added k space page reads else added nothing space page reads

-- ---- a data access

-- whether an access reaches
abbrev pub is_reached : Result Place WalkFault → Bool
is_reached (Ok place) = true
is_reached (Err fault) = false

-- the space of which a capability without a count is the meaning: it has its object's count
abbrev pub counted : Items → Capability → Capability
counted o c = if is_counted c.kind then with_count c (count_of o (object_kind c.kind) c.object) else c

-- whether an access reaches on a held pair
abbrev pub is_spared : KeptValue → Items → Capability → ℕ → Kind → Bool
is_spared k o c address kind = is_reached (access o c address kind) && k.held (counted o c) (address / 4096)

-- whether an access reaches on a pair that is not held
abbrev pub is_new : KeptValue → Items → Capability → ℕ → Kind → Bool
is_new k o c address kind = is_reached (access o c address kind) && not (k.held (counted o c) (address / 4096))

-- an access that reaches on a held pair costs nothing; any other costs the slots that its walk reads
abbrev pub cost_of : KeptValue → Items → Capability → ℕ → Kind → ℕ
cost_of k o c address kind = if is_spared k o c address kind then 0 else slots o c address kind

-- an access that reaches on a pair that is not held adds it; any other changes nothing
abbrev pub kept_after : KeptValue → Items → Capability → ℕ → Kind → KeptValue
kept_after k o c address kind =
    if is_new k o c address kind then added_to k (counted o c) (address / 4096) (trail o c address kind) else k

-- whether an access adds a pair, and there would be too much
abbrev pub overflows : KeptValue → Items → Capability → ℕ → Kind → Bool
overflows k o c address kind =
    is_new k o c address kind && not (fits (added k (counted o c) (address / 4096) (trail o c address kind)))

-- what an access on one hart makes of another hart's cache: it is empty where all was forgotten
abbrev pub tlb_after : KeptValue → Items → Capability → ℕ → Kind → List Entry → List Entry
tlb_after k o c address kind entries = if overflows k o c address kind then [] else entries

-- ---- a change

-- whether a note is for this space and this item, and its block has the page
abbrev pub is_on : Capability → ℕ → Item → Note → Bool
is_on space page item n = same_item n.item item && (same_space space n.key && holds n.block page)

-- without the pairs whose page lies in a block noted for their space and the item, and without the item's notes
abbrev pub kept_without : KeptValue → Item → KeptValue
kept_without k item = record {
  held = λ space page. k.held space page && not (list_any (is_on space page item) (items k.notes));
  keys = k.keys;
  notes = retain k.notes (λ n. not (same_item n.item item));
}

-- whether this frame is found
abbrev pub is_frame : ℕ → Option ℕ → Bool
is_frame root None = false
is_frame root (Some frame) = root == frame

-- whether a note is for the space of this root and this item, and its block has the page
abbrev pub is_under : List Key → ℕ → ℕ → Item → Note → Bool
is_under keys root page item n =
    same_item n.item item && (is_frame root (frame_by key_code keys (root_key n.key)) && holds n.block page)

-- what a changed item leaves of a hart's cache: the entries whose page lies in no block noted for their root's space and the item
abbrev pub tlb_without : KeptValue → Item → List Entry → List Entry
tlb_without k item entries = filter (λ entry. not (list_any (is_under k.keys entry.root entry.page item) (items k.notes))) entries

-- ---- less

-- a hart's cache holds no more than another: each leaf that is found in it is found in the other
abbrev pub HoldsLess : List Entry → List Entry → Type 0
HoldsLess less more = (root page : ℕ) (leaf : Leaf) → look less root page ≡ Some leaf → look more root page ≡ Some leaf
