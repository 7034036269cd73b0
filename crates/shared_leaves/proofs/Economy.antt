-- Whether an addition fits: what is too much already, what there is, and what one walk adds.
use Rattle.std.proofs.Common.{◌≡◌, ℕ, ◌+◌, ◌<◌, ◌≤◌, true, false, nat_le, List, [], length, refl, arith}
use Rattle.std.specs.FinSet.{FinSet, empty, len, len-empty}
use Rattle.cap_format.specs.Capability.{Capability}
use Rattle.depend_table.proofs.Tests.{left_false, over, right_false, within}
use Rattle.depend_table.proofs.Coded.{with_key-grows}
use Rattle.depend_table.proofs.Notes.{noted_all-most}
use Rattle.shared_leaves.specs.declared.key.Key.{Key}
use Rattle.shared_leaves.specs.Key.{root_key, with_key}
use Rattle.shared_leaves.specs.Kept.{Addition, SharedKept, added, fits, note_order, noted_all, nothing}
use Rattle.shared_leaves.proofs.Codes.{key_coding}

-- too many keys, or too many notes
pub over-keys : (k : SharedKept) (space : Capability) (page : ℕ) (add : Addition) → 256 < length (added k space page add).keys → fits (added k space page add) ≡ false
over-keys k space page add more =
    left_false (nat_le (length (added k space page add).keys) 256) (nat_le (len (added k space page add).notes) 16384) (over (length (added k space page add).keys) 256 more)

pub over-notes : (k : SharedKept) (space : Capability) (page : ℕ) (add : Addition) → 16384 < len (added k space page add).notes → fits (added k space page add) ≡ false
over-notes k space page add more =
    right_false (nat_le (length (added k space page add).keys) 256) (nat_le (len (added k space page add).notes) 16384) (over (len (added k space page add).notes) 16384 more)

-- what is within both bounds fits
pub fits-within : (k : SharedKept) → length k.keys ≤ 256 → len k.notes ≤ 16384 → fits k ≡ true
fits-within k keys notes = rw (within (length k.keys) 256 keys, within (len k.notes) 16384 notes) refl

-- one walk alone fits
pub fits-alone : (space : Capability) (page : ℕ) (add : Addition) → length add.link_reads + length add.entry_reads ≤ 1024 → fits (added nothing space page add) ≡ true
fits-alone space page add few = fits-within (added nothing space page add) keys notes
  where
    one : List Key
    one = with_key [] (root_key space)

    keys : length (with_key one add.key) ≤ 256
    keys = omega (arith, (with_key-grows key_coding [] (root_key space)).1, (with_key-grows key_coding one add.key).1)

    first : FinSet note_order
    first = noted_all empty (root_key space) add.link_reads

    notes : len (noted_all first add.key add.entry_reads) ≤ 16384
    notes = omega (arith, noted_all-most key_coding first add.key add.entry_reads, noted_all-most key_coding empty (root_key space) add.link_reads, len-empty note_order, few)
