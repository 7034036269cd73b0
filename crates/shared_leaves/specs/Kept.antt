-- What is kept by shared leaf tables, what that spares, and what a change takes out of it (this project's own). A space is a
-- capability with its count.
use Rattle.std.specs.Prelude.{ℕ, Bool, true, false, not, ◌&&◌, ◌||◌, ◌==◌, nat_le, if◌then◌else◌, ◌+◌, ◌*◌, ◌/◌, ◌%◌, List, [], ◌∷◌, ◌++◌, length, map, take, drop, Option, Some, None}
use Rattle.std.specs.List.{list_any}
use Rattle.std.specs.declared.cmp.Ordering.{Ordering}
use Rattle.std.specs.FinSet.{FinSet, empty, items, len, retain}
use Rattle.cap_format.specs.Capability.{Capability}
use Rattle.cap_format.specs.declared.item.Item.{Item}
use Rattle.cap_format.specs.declared.item.Item.TheVariants.{Header}
use Rattle.cap_format.specs.declared.kind.CapKind.TheVariants.{Gpt}
use Rattle.guard_math.specs.Block.{around, holds}
use Rattle.object_store.specs.Store.{Items}
use Rattle.walk_meaning.specs.declared.kind.Kind.{Kind}
use Rattle.walk_meaning.specs.declared.noted.Noted.{Noted}
use Rattle.walk_meaning.specs.Walk.{access}
use Rattle.walk_meaning.specs.Trail.{noted_in, slots, trail}
use Rattle.producers.specs.declared.producer.Background.{Background}
use Rattle.producers.specs.Producer.{Point, cut, join_of, key_of}
use Rattle.tlb_model.specs.declared.entry.Entry.{Entry}
use Rattle.depend_table.specs.Depend.{lies_in, same_item}
use Rattle.depend_table.specs.Notes.{Note as NoteFor, noted_by, order_by}
use Rattle.map_cache.specs.Key.{same_space}
use Rattle.map_cache.specs.Kept.{counted, is_reached}
use Rattle.shared_leaves.specs.declared.key.Key.{Key}
use Rattle.shared_leaves.specs.Key.{is_leaf, key_code, own_key, producer_key, root_key, same_key, with_key}

-- ---- what is kept

-- what the walks behind a frame read: an item, for the addresses of a block. A root's notes are those of its links, a leaf
-- table's those of its entries, and the blocks of these count from the region's first address.
abbrev pub Note : Type 0
Note = NoteFor Key

-- an order of notes, by their numbers; notes that tie are one
abbrev pub note_order : Note → Note → Ordering
note_order = order_by key_code

-- What is kept: the spaces and the leaf tables that have a frame; to which leaf table each region of 1,024 pages of a space is
-- linked; which pages, by their places in the region, each leaf table holds; and what the walks behind them read.
pub record SharedKept : Type 0 where
  pub keys : List Key
  pub links : Capability → ℕ → Option Key
  pub held : Key → ℕ → Bool
  pub notes : FinSet note_order

-- nothing is kept
abbrev pub nothing : SharedKept
nothing = record { keys = []; links = λ space region. None; held = λ key place. false; notes = empty }

-- ---- one addition

-- the notes with those of some reads
abbrev pub noted_all : FinSet note_order → Key → List Noted → FinSet note_order
noted_all = noted_by key_code

-- what an access adds: its leaf table's key, and what the link and the entry depend on
pub record Addition : Type 0 where
  pub key : Key
  pub link_reads : List Noted
  pub entry_reads : List Noted

-- an addition by its parts
abbrev pub addition : Key → List Noted → List Noted → Addition
addition key link_reads entry_reads = record { key = key; link_reads = link_reads; entry_reads = entry_reads }

-- with a page more of a region of a space
abbrev pub added : SharedKept → Capability → ℕ → Addition → SharedKept
added k space page add = record {
  keys = with_key (with_key k.keys (root_key space)) add.key;
  links = λ s r. if same_space s space && (r == page / 1024) then Some add.key else k.links s r;
  held = λ x j. (same_key x add.key && (j == page % 1024)) || k.held x j;
  notes = noted_all (noted_all k.notes (root_key space) add.link_reads) add.key add.entry_reads;
}

-- at most 256 keys and 16,384 notes
abbrev pub fits : SharedKept → Bool
fits k = nat_le (length k.keys) 256 && nat_le (len k.notes) 16384

-- the addition; where there would be too much, the same addition to nothing
abbrev pub added_to : SharedKept → Capability → ℕ → Addition → SharedKept
added_to k space page add = if fits (added k space page add) then added k space page add else added nothing space page add

-- ---- a data access

-- the read of the background GPT's header, for its whole region
abbrev pub background_reads : Option Background → List Noted
background_reads None = []
background_reads (Some b) = noted_in (Header Gpt b.gpt) (around 0 22) ∷ []

-- What an access adds. The link depends on what was read up to the producer's header. The entry depends on the header of the
-- key's background GPT and on what was read from the producer's header on, cut to the region. Without a producer the entry
-- depends on all reads, and the link on none.
abbrev pub addition_by : Items → Capability → ℕ → List Noted → Option Point → Addition
addition_by o space page reads None = record { key = own_key space (page / 1024); link_reads = []; entry_reads = map cut reads }
addition_by o space page reads (Some p) = record {
  key = producer_key (key_of o p);
  link_reads = take (length p.before + 1) reads;
  entry_reads = background_reads (key_of o p).background ++ map cut (drop (length p.before) reads);
}

-- what a data access adds
abbrev pub addition_of : Items → Capability → ℕ → Kind → Addition
addition_of o c address kind = addition_by o (counted o c) (address / 4096) (trail o c address kind) (join_of o c address kind)

-- whether a key that is linked holds a page
abbrev pub holds_page : SharedKept → ℕ → Option Key → Bool
holds_page k place None = false
holds_page k place (Some key) = k.held key place

-- whether a page of a space is held: its region is linked to a key that holds it
abbrev pub is_held : SharedKept → Capability → ℕ → Bool
is_held k space page = holds_page k (page % 1024) (k.links space (page / 1024))

-- whether an access reaches on a page that is held
abbrev pub is_spared : SharedKept → Items → Capability → ℕ → Kind → Bool
is_spared k o c address kind = is_reached (access o c address kind) && is_held k (counted o c) (address / 4096)

-- whether an access reaches on a page that is not held
abbrev pub is_new : SharedKept → Items → Capability → ℕ → Kind → Bool
is_new k o c address kind = is_reached (access o c address kind) && not (is_held k (counted o c) (address / 4096))

-- an access that reaches on a page that is held costs nothing; any other costs the slots that its walk reads
abbrev pub cost_of : SharedKept → Items → Capability → ℕ → Kind → ℕ
cost_of k o c address kind = if is_spared k o c address kind then 0 else slots o c address kind

-- an access that reaches on a page that is not held adds it; any other changes nothing
abbrev pub kept_after : SharedKept → Items → Capability → ℕ → Kind → SharedKept
kept_after k o c address kind =
    if is_new k o c address kind then added_to k (counted o c) (address / 4096) (addition_of o c address kind) else k

-- whether a region has no link, or the one to a key
abbrev pub has_no_other : Option Key → Key → Bool
has_no_other None key = true
has_no_other (Some k) key = same_key k key

-- whether an addition leaves what the harts hold: the region had no link to another key before, and there is not too much
abbrev pub spares_harts : SharedKept → Capability → ℕ → Addition → Bool
spares_harts k space page add = has_no_other (k.links space (page / 1024)) add.key && fits (added k space page add)

-- whether an access adds a page, and leaves no hart what it holds
abbrev pub drops_harts : SharedKept → Items → Capability → ℕ → Kind → Bool
drops_harts k o c address kind =
    is_new k o c address kind && not (spares_harts k (counted o c) (address / 4096) (addition_of o c address kind))

-- what an access on one hart makes of another hart's cache: it is empty where the region lost another link, or all was forgotten
abbrev pub tlb_after : SharedKept → Items → Capability → ℕ → Kind → List Entry → List Entry
tlb_after k o c address kind entries = if drops_harts k o c address kind then [] else entries

-- ---- a change

-- whether a note is for a frame and an item, and its block has the page
abbrev pub is_on : Key → ℕ → Item → Note → Bool
is_on key page item n = same_item n.item item && (same_key key n.key && holds n.block page)

-- whether a note of an item on a leaf table covers another note of that table
abbrev pub covers_note : Item → Note → Note → Bool
covers_note item n m = same_item m.item item && (same_key n.key m.key && lies_in n.block m.block)

-- What a changed item leaves. A leaf table loses the pages of the blocks noted for it and the item, and a space the links of
-- the regions in the blocks noted for it. The item's notes are gone, and so are the notes of a leaf table whose block lies in
-- one of these blocks.
abbrev pub kept_without : SharedKept → Item → SharedKept
kept_without k item = record {
  keys = k.keys;
  links = λ s r. if list_any (is_on (root_key s) (r * 1024) item) (items k.notes) then None else k.links s r;
  held = λ x j. k.held x j && not (list_any (is_on x j item) (items k.notes));
  notes = retain k.notes (λ n. not (same_item n.item item) && not (is_leaf n.key && list_any (covers_note item n) (items k.notes)));
}

-- what a changed item leaves of a hart's cache: nothing, where anything is noted of the item
abbrev pub tlb_without : SharedKept → Item → List Entry → List Entry
tlb_without k item entries = if list_any (λ n. same_item n.item item) (items k.notes) then [] else entries
