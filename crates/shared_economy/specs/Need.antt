-- The shared need: what has to be kept where spaces share their leaf tables, so that no covered page is walked
-- (this project's own). Its points, over the accesses of data that reach:
--
-- * Frames are needed for each space with the age of its object, and for each key of a leaf table: that of the
--   access's producer, or, where it has none, the space with its age and the region of 1,024 pages.
-- * Records are needed for each key of a leaf table with an item and a block of what its entries depend on, and two
--   for each space with its age, item and block that was noted. Of these two the tables use one at most, for a link.
--
-- A need counts what was needed once and never goes down: a leaf table and a root keep their frames.
use Rattle.std.specs.Prelude.{ℕ, Bool, ◌&&◌, ◌+◌, ◌*◌, nat_le, if◌then◌else◌, List, [], ◌∷◌, length}
use Rattle.std.specs.FinSet.{FinSet, empty, len}
use Rattle.cap_format.specs.Capability.{Capability}
use Rattle.walk_meaning.specs.Walk.{access}
use Rattle.map_cache.specs.Kept.{counted, is_reached}
use Rattle.shared_leaves.specs.declared.key.Key.{Key}
use Rattle.shared_leaves.specs.Key.{root_key, with_key}
use Rattle.shared_leaves.specs.Kept.{Addition, addition_of, note_order, noted_all}
use Rattle.machine_state.specs.Outcome.{Touch}
use Rattle.machine_state.specs.Outcome.Touch.{DataAccess, CapAccess, GptCall, Changed}
use Rattle.fetch_economy.specs.Economy.{records_needed as spaces_records}

-- the spaces with their ages and the keys of leaf tables, none twice; and what the entries of these depend on
pub record NeedValue : Type 0 where
  pub frames : List Key
  pub records : FinSet note_order

-- before a run nothing is needed
abbrev pub no_need : NeedValue
no_need = record { frames = []; records = empty }

-- with an access more that reached, of a space with its age, and what it adds
abbrev pub needing : NeedValue → Capability → Addition → NeedValue
needing n aged add = record {
  frames = with_key (with_key n.frames (root_key aged)) add.key;
  records = noted_all n.records add.key add.entry_reads;
}

-- with one touch more
abbrev pub need_at : NeedValue → Touch → NeedValue
need_at n (DataAccess o space address kind) =
    if is_reached (access o space address kind)
    then needing n (counted o space) (addition_of o space address kind)
    else n
need_at n (CapAccess o space address kind) = n
need_at n (GptCall reads) = n
need_at n (Changed item) = n

-- with all of these touches more, in their order
abbrev pub need_after : NeedValue → List Touch → NeedValue
need_after n [] = n
need_after n (t ∷ ts) = need_after (need_at n t) ts

-- how many frames are needed
abbrev pub frames_needed : List Touch → ℕ
frames_needed touches = length (need_after no_need touches).frames

-- how many records are needed
abbrev pub records_needed : List Touch → ℕ
records_needed touches = 2 * spaces_records touches + len (need_after no_need touches).records

-- whether there are as many: 256 frames and 16,384 records
abbrev pub need_fits : List Touch → Bool
need_fits touches = nat_le (frames_needed touches) 256 && nat_le (records_needed touches) 16384
