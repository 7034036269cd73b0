-- The table by masks and the table by fields say the same.
use Rattle.std.proofs.Common.{arith, ◌≡◌, ℕ, ◌+◌, ◌*◌, ◌/◌, ◌%◌, ◌^◌, ◌<◌, Bool, true, false, List, [], ◌∷◌, refl, bit_and, subst, lit<}
use Rattle.std.specs.Prelude.{◌≢◌, None, if◌then◌else◌, ◌==◌, ◌&&◌, ◌||◌, nat_lt}
use Rattle.std.proofs.lemmas.Nat.{and_mask, and_block, shr_split}
use Rattle.std.proofs.lemmas.Bool.Decides.{nat_tests}
use Rattle.std.proofs.Math.Nat.{mod-lt}
use Rattle.std.proofs.lemmas.Nat.{pow_pos}
use Rattle.rv32_decode.specs.Fields.{bits}
use Rattle.rv32_decode.specs.Table.{Row, rows, found, insn_at}
use Rattle.rv32_decode.specs.Groups.{has_fields, found_by, insn_by}

-- a mask in two parts takes the two parts of a word
and_parts : (word k high low : ℕ) → low < 2 ^ k
    → bit_and word (high * 2 ^ k + low) ≡ bit_and (word / 2 ^ k) high * 2 ^ k + bit_and (word % 2 ^ k) low
and_parts word k high low below =
    let P : ℕ → Type 0 = λ n. bit_and n (high * 2 ^ k + low) ≡ bit_and (word / 2 ^ k) high * 2 ^ k + bit_and (word % 2 ^ k) low in
    subst P (shr_split word k) (and_block k (word / 2 ^ k) high (word % 2 ^ k) low (mod-lt word (pow_pos k)) below)

-- the masks of the table take these bits of a word
opcode_under : (word : ℕ) → bit_and word 0x7f ≡ bits word 6 0
opcode_under word = omega (arith, and_mask word 7)

funct3_under : (word : ℕ) → bit_and word 0x707f ≡ bits word 14 12 * 2 ^ 12 + bits word 6 0
funct3_under word = omega (arith, and_parts word 12 7 127 (lit< tt), and_mask (word / 4096) 3, and_mask (word % 4096) 7)

funct7_under : (word : ℕ) → word < 2 ^ 32 → bit_and word 0xfe00707f ≡ bits word 31 25 * 2 ^ 25 + bits word 14 12 * 2 ^ 12 + bits word 6 0
funct7_under word fits = omega (arith, and_parts word 25 127 28799 (lit< tt), and_mask (word / 33554432) 7, funct3_under (word % 33554432))

all_under : (word : ℕ) → word < 2 ^ 32 → bit_and word 0xffffffff ≡ word
all_under word fits = omega (arith, and_mask word 32)

-- the row's mask is one of the four, and its match has ones only where the mask has
abbrev is_plain : Row → Bool
is_plain row =
    ((row.mask == 0x7f) || (row.mask == 0x707f) || (row.mask == 0xfe00707f) || (row.mask == 0xffffffff))
    && (bit_and row.match row.mask == row.match) && nat_lt row.match (2 ^ 32)

abbrev are_plain : List Row → Bool
are_plain [] = true
are_plain (row ∷ rest) = if is_plain row then are_plain rest else false

-- every row of the table is plain
rows_plain : are_plain rows ≡ true
unfolding rows
rows_plain = refl

module _ (word : ℕ) (fits : word < 2 ^ 32) where
  by_opcode : (match : ℕ) → bit_and match 0x7f ≡ match
      → (bit_and word 0x7f == match) ≡ (if bits word 6 0 == bits match 6 0 then true else false)
  by_opcode match plain = grind (arith, nat_tests, opcode_under word, opcode_under match)

  by_funct3 : (match : ℕ) → bit_and match 0x707f ≡ match
      → (bit_and word 0x707f == match)
      ≡ (if bits word 6 0 == bits match 6 0 then bits word 14 12 == bits match 14 12 else false)
  by_funct3 match plain = grind (arith, nat_tests, funct3_under word, funct3_under match)

  by_funct7 : (match : ℕ) → match < 2 ^ 32 → bit_and match 0xfe00707f ≡ match
      → (bit_and word 0xfe00707f == match)
      ≡ (if bits word 6 0 == bits match 6 0
      then (bits word 31 25 == bits match 31 25) && (bits word 14 12 == bits match 14 12) else false)
  by_funct7 match small plain = grind (arith, nat_tests, funct7_under word fits, funct7_under match small)

  by_word : (match : ℕ)
      → (bit_and word 0xffffffff == match)
      ≡ (if bits word 6 0 == bits match 6 0 then word == match else false)
  by_word match = grind (arith, nat_tests, all_under word fits)

  row_agrees : (row : Row) → is_plain row ≡ true
      → (bit_and word row.mask == row.match) ≡ has_fields row (bits word 6 0) (bits word 14 12) (bits word 31 25) word
  row_agrees row plain = grind (arith, nat_tests, by_opcode row.match, by_funct3 row.match, by_funct7 row.match, by_word row.match)

  found-by : (rs : List Row) → are_plain rs ≡ true
      → found rs word ≡ found_by rs (bits word 6 0) (bits word 14 12) (bits word 31 25) word
  found-by [] plain = refl
  found-by (row ∷ rest) plain =
      let here : is_plain row ≡ true = grind (arith, nat_tests) in
      let others : are_plain rest ≡ true = grind (arith, nat_tests) in
      rw (row_agrees row here, found-by rest others) refl

-- the instruction of a word is that of its fields
pub insn_at-by : (word : ℕ) → word < 2 ^ 32
    → insn_at word ≡ insn_by (bits word 6 0) (bits word 14 12) (bits word 31 25) word
unfolding insn_at insn_by
insn_at-by word fits = found-by word fits rows rows_plain

pub by_fields : (word opcode : ℕ) → word < 2 ^ 32 → bits word 6 0 ≡ opcode
    → insn_at word ≡ insn_by opcode (bits word 14 12) (bits word 31 25) word
by_fields word opcode fits e = rw (← e) (insn_at-by word fits)

-- a word whose opcode is of no row
pub no_row : (word : ℕ) → word < 2 ^ 32 → bits word 6 0 ≢ 55 → bits word 6 0 ≢ 23 → bits word 6 0 ≢ 111
    → bits word 6 0 ≢ 103 → bits word 6 0 ≢ 99 → bits word 6 0 ≢ 3 → bits word 6 0 ≢ 35 → bits word 6 0 ≢ 19
    → bits word 6 0 ≢ 51 → bits word 6 0 ≢ 15 → bits word 6 0 ≢ 115 → insn_at word ≡ None
unfolding insn_by rows
no_row word fits a b c d e f g h i j k = rw (insn_at-by word fits) (grind (arith, nat_tests))
