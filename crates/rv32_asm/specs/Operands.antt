-- The operands of an assembler line, as this project spells them: registers, immediates, and addresses.
use Rattle.std.specs.Prelude.{ℕ, ◌%◌, ◌==◌, ◌&&◌, ◌||◌, not, nat_lt, nat_le, if◌then◌else◌, ℤ, pos, negsuc, neg_ℤ, int_le, unsigned_abs, List, length, take, drop, slice_index, Option, Some, option_map, bytes_eq, codes}
use Rattle.coy_text.specs.Numeral.{dec_of, hex_of}
use Rattle.coy_text.specs.Reading.{◌>>=◌, given}
use Rattle.coy_text.specs.Words.{cut_at}

-- a register: `x` and its number, which is below 32 and has no leading zero
unfoldable pub register_of : List ℕ → Option ℕ
register_of word = do
  _ ← given (bytes_eq (take 1 word) (codes "x"))
  _ ← given (nat_le (length word) 2 || not (slice_index word 1 == 48))
  number ← dec_of (drop 1 word)
  _ ← given (nat_lt number 32)
  Some number

-- an immediate of any size: a decimal number, `-` and a decimal number, or `0x` and a hexadecimal number. Numbers past
-- 32 bits, which are in no range, are none here either
unfoldable pub immediate_of : List ℕ → Option ℤ
immediate_of word =
    if bytes_eq (take 1 word) (codes "-") then option_map (λ n. neg_ℤ (pos n)) (dec_of (drop 1 word))
    else (if bytes_eq (take 2 word) (codes "0x") then option_map pos (hex_of (drop 2 word))
    else option_map pos (dec_of word))

-- an immediate from `low` to `high`
unfoldable pub number_of : ℤ → ℤ → List ℕ → Option ℤ
number_of low high word = do
  number ← immediate_of word
  _ ← given (int_le low number && int_le number high)
  Some number

-- a distance in bytes, which is even
unfoldable pub offset_of : ℤ → ℤ → List ℕ → Option ℤ
offset_of low high word = do
  off ← number_of low high word
  _ ← given (unsigned_abs off % 2 == 0)
  Some off

-- an immediate from 0 to `most`
unfoldable pub natural_of : ℕ → List ℕ → Option ℕ
natural_of most word = do
  number ← number_of (pos 0) (pos most) word
  Some (unsigned_abs number)

-- an immediate of 12 bits
abbrev pub immediate_12 : List ℕ → Option ℤ
immediate_12 word = number_of (negsuc 2047) (pos 2047) word

-- `imm(rs1)`: an immediate of 12 bits and a register
unfoldable pub address_of : List ℕ → Option (ℤ × ℕ)
address_of word = do
  outer ← cut_at 40 word
  inner ← cut_at 41 outer.1
  _ ← given (length inner.1 == 0)
  imm ← immediate_12 outer.0
  register ← register_of inner.0
  Some (imm, register)
