-- Whether an addition fits: what is too much already, what there is, and what one walk adds.
use Rattle.std.proofs.Common.{◌≡◌, ℕ, ◌<◌, ◌≤◌, ◌/◌, true, false, nat_le, List, [], length, refl, arith}
use Rattle.std.specs.FinSet.{empty, len, len-empty}
use Rattle.cap_format.specs.Capability.{Capability}
use Rattle.walk_meaning.specs.declared.noted.Noted.{Noted}
use Rattle.map_cache.specs.declared.key.Key.{Key}
use Rattle.map_cache.specs.Key.{region_key, root_key, with_key}
use Rattle.map_cache.specs.Kept.{KeptValue, added, fits, note_order, noted_all, nothing}
use Rattle.depend_table.proofs.Tests.{over, right_false, within}
use Rattle.depend_table.proofs.Coded.{with_key-grows}
use Rattle.depend_table.proofs.Notes.{noted_all-most}
use Rattle.map_cache.proofs.Codes.{key_coding, space_coding}

-- too many notes
pub over-notes : (k : KeptValue) (space : Capability) (page : ℕ) (reads : List Noted) → 16384 < len (noted_all k.notes space reads) → fits (added k space page reads) ≡ false
over-notes k space page reads more =
    right_false (nat_le (length (with_key (with_key k.keys (root_key space)) (region_key space (page / 1024)))) 256) (nat_le (len (noted_all k.notes space reads)) 16384)
    (over (len (noted_all k.notes space reads)) 16384 more)

-- what is within both bounds fits
pub fits-within : (k : KeptValue) → length k.keys ≤ 256 → len k.notes ≤ 16384 → fits k ≡ true
fits-within k keys notes = rw (within (length k.keys) 256 keys, within (len k.notes) 16384 notes) refl

-- one walk alone fits
pub fits-alone : (space : Capability) (page : ℕ) (reads : List Noted) → length reads ≤ 66 → fits (added nothing space page reads) ≡ true
fits-alone space page reads few = fits-within (added nothing space page reads) keys notes
  where
    one : List Key
    one = with_key [] (root_key space)

    keys : length (with_key one (region_key space (page / 1024))) ≤ 256
    keys = omega (arith, (with_key-grows key_coding [] (root_key space)).1, (with_key-grows key_coding one (region_key space (page / 1024))).1)

    notes : len (noted_all empty space reads) ≤ 16384
    notes = omega (arith, noted_all-most space_coding empty space reads, len-empty note_order, few)
