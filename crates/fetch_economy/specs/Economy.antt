-- Economy: which touches of a run have to be walked, and what has to be kept for that (this project's own). It speaks of no
-- cache, and forgets at least as much as a cache that forgets by items and blocks. Its points, over the touches in order:
--
-- * An access of data that reaches covers its pair of a space and a page. What its walk read is noted for the space with
--   the age that its object has then.
-- * A change of an item uncovers each pair whose page lies in a block noted for the pair's space, of whatever age, and the
--   item. What was noted stays.
-- * To be walked are the accesses of data that reach on no covered pair, those that fault, and the accesses of capabilities.
-- * Frames are needed for each space with its age, and for each of these with a region of 1,024 pages, of accesses of data
--   that reached; records for each space with its age, item and block that was noted.
--
-- A space is a capability as the model has it, without a count. Its age is its object's count at that moment, so the space
-- with its age is the capability with that count.
use Rattle.std.specs.Prelude.{ℕ, Bool, false, not, ◌&&◌, ◌||◌, ◌==◌, ◌+◌, ◌/◌, nat_le, if◌then◌else◌, List, [], ◌∷◌, length}
use Rattle.std.specs.List.{list_any}
use Rattle.std.specs.FinSet.{FinSet, empty, items, len}
use Rattle.cap_format.specs.Capability.{Capability, bare}
use Rattle.cap_format.specs.declared.item.Item.{Item}
use Rattle.guard_math.specs.Block.{holds}
use Rattle.object_store.specs.Store.{Items}
use Rattle.walk_meaning.specs.declared.kind.Kind.{Kind}
use Rattle.walk_meaning.specs.declared.noted.Noted.{Noted}
use Rattle.walk_meaning.specs.Walk.{access}
use Rattle.walk_meaning.specs.Trail.{trail}
use Rattle.depend_table.specs.Depend.{same_item}
use Rattle.map_cache.specs.declared.key.Key.{Key}
use Rattle.map_cache.specs.Key.{region_key, root_key, same_space, with_key}
use Rattle.map_cache.specs.Kept.{Note, note_order, noted_all, is_reached, counted}
use Rattle.machine_state.specs.Outcome.{Touch}
use Rattle.machine_state.specs.Outcome.Touch.{DataAccess, CapAccess, GptCall, Changed}

-- Which pairs of a space and a page are covered; the notes, each of a space with its age, an item and a block; and the spaces
-- with their ages, and these with regions, of accesses that reached. No note and no frame comes twice.
pub record EconomyValue : Type 0 where
  pub covered : Capability → ℕ → Bool
  pub noted : FinSet note_order
  pub frames : List Key

-- before a run nothing is covered or noted
abbrev pub at_start : EconomyValue
at_start = record { covered = λ space page. false; noted = empty; frames = [] }

-- ---- covered pairs

-- an access of data that reached: of a space, which is this one with its age, and of a page, by a walk that read these
abbrev pub covering : EconomyValue → Capability → Capability → ℕ → List Noted → EconomyValue
covering e space aged page reads = record {
  covered = λ s p. (same_space s space && (p == page)) || e.covered s p;
  noted = noted_all e.noted aged reads;
  frames = with_key (with_key e.frames (root_key aged)) (region_key aged (page / 1024));
}

-- whether a note is for this space, of whatever age, and this item, and its block has the page
abbrev pub is_for : Capability → ℕ → Item → Note → Bool
is_for space page item n = same_item n.item item && (same_space (bare space) (bare n.key) && holds n.block page)

-- a change of an item
abbrev pub uncovering : EconomyValue → Item → EconomyValue
uncovering e item = record {
  covered = λ space page. e.covered space page && not (list_any (is_for space page item) (items e.noted));
  noted = e.noted;
  frames = e.frames;
}

-- one touch
abbrev pub economy_at : EconomyValue → Touch → EconomyValue
economy_at e (DataAccess o space address kind) =
    if is_reached (access o space address kind)
    then covering e space (counted o space) (address / 4096) (trail o space address kind)
    else e
economy_at e (CapAccess o space address kind) = e
economy_at e (GptCall reads) = e
economy_at e (Changed item) = uncovering e item

-- all of these touches, in their order
abbrev pub economy_after : EconomyValue → List Touch → EconomyValue
economy_after e [] = e
economy_after e (t ∷ ts) = economy_after (economy_at e t) ts

-- ---- what has to be walked

-- whether an access of data reaches on a covered pair
abbrev pub is_covered : EconomyValue → Items → Capability → ℕ → Kind → Bool
is_covered e o space address kind = is_reached (access o space address kind) && e.covered space (address / 4096)

-- 1 for a touch that has to be walked: any access but one of data that reaches on a covered pair
abbrev pub uncovered_at : EconomyValue → Touch → ℕ
uncovered_at e (DataAccess o space address kind) = if is_covered e o space address kind then 0 else 1
uncovered_at e (CapAccess o space address kind) = 1
uncovered_at e (GptCall reads) = 0
uncovered_at e (Changed item) = 0

-- how many touches have to be walked. (The access that is asked for behind a run is no touch of it: it is one walk more.)
abbrev pub uncovered : EconomyValue → List Touch → ℕ
uncovered e [] = 0
uncovered e (t ∷ ts) = uncovered_at e t + uncovered (economy_at e t) ts

-- ---- the need

-- how many frames are needed
abbrev pub frames_needed : List Touch → ℕ
frames_needed touches = length (economy_after at_start touches).frames

-- how many records are needed
abbrev pub records_needed : List Touch → ℕ
records_needed touches = len (economy_after at_start touches).noted

-- whether there are as many: 256 frames and 16,384 records
abbrev pub need_fits : List Touch → Bool
need_fits touches = nat_le (frames_needed touches) 256 && nat_le (records_needed touches) 16384
