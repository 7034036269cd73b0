-- The words of an instruction are printed words, and assemble to it.
use Rattle.std.proofs.Common.{ℕ, suc, length-append, append-nil, ◌≡◌, ◌+◌, ◌^◌, ◌<◌, ◌≤◌, true, ℤ, pos, negsuc, List, [], ◌∷◌, ◌++◌, length, refl, sym, ap, ◌∙◌, arith}
use Rattle.std.specs.Prelude.{Ok, unsigned_abs, codes, ◌≤ℤ◌}
use Rattle.std.specs.Fmt.{signed_decimal}
use Rattle.std.specs.List.{join_with_byte}
use Rattle.std.proofs.lemmas.Fmt.{decimal_nonempty}
use Rattle.std.proofs.lemmas.Int.{ints}
use Rattle.coy_text.proofs.WordLaws.{words_of-join}
use Rattle.rv32_decode.specs.declared.insn.Insn.{Insn}
use Rattle.rv32_decode.specs.declared.insn.Insn.TheVariants.{Add, Sub, Sll, Slt, Sltu, Xor, Srl, Sra, Or, And, Addi, Slti, Sltiu, Xori, Ori, Andi, Slli, Srli, Srai, Lb, Lh, Lw, Lbu, Lhu, Jalr, Sb, Sh, Sw, Beq, Bne, Blt, Bge, Bltu, Bgeu, Jal, Lui, Auipc, Fence, Ecall, Ebreak}
use Rattle.rv32_decode.specs.InRange.{InRange, IsImmediate, IsBranchOffset, IsJumpOffset}
use Rattle.rv32_asm.specs.Assembly.{insn_of}
use Rattle.rv32_asm.specs.Text.{register_text, address_text, registers_words, number_words, shift_words, address_words, jump_words, upper_words, words_from, text_of}
use Rattle.rv32_asm.proofs.RoundTrip.{text_reads_back}
use Rattle.coy_text.specs.Spaced.{behind}
use Rattle.statement_text.proofs.Printed.{IsPiece, piece, joined, IsPrinted, ArePrinted, printed, printed_line, piece-decimal}
use Rattle.statement_text.proofs.Lines.{keyword, is_keyword, printed-decimal}

-- the absolute value of a number in a range
abs_below : (n : ℕ) (z : ℤ) → negsuc n ≤ℤ z → z ≤ℤ pos n → unsigned_abs z < n + 2
abs_below n (pos m) low high = grind (arith, ints)
abs_below n (negsuc m) low high = grind (arith, ints)

-- a number with a sign
piece-signed_decimal : (imm : ℤ) → unsigned_abs imm < 2 ^ 31 → IsPiece 11 (signed_decimal imm)
piece-signed_decimal (pos n) fits =
    let number = piece-decimal n (omega arith) in
    record { short = omega (arith, number.short); glyphs = number.glyphs }
piece-signed_decimal (negsuc n) fits = joined (piece (codes "-") refl) (piece-decimal (suc n) (omega arith))

-- it has a byte
some-signed_decimal : (imm : ℤ) → unsigned_abs imm < 2 ^ 31 → 1 ≤ length (signed_decimal imm)
some-signed_decimal (pos n) fits = decimal_nonempty n (omega arith)
some-signed_decimal (negsuc n) fits = omega arith

signed : (imm : ℤ) → unsigned_abs imm < 2 ^ 31 → IsPrinted 64 (signed_decimal imm)
signed imm fits = printed (piece-signed_decimal imm fits) (omega arith) (some-signed_decimal imm fits)

-- a register, a number and an address are printed words
register : (r : ℕ) → r < 32 → IsPrinted 64 (register_text r)
register r below = printed (joined (piece (codes "x") refl) (piece-decimal r (omega arith))) (omega arith) (omega arith)

address : (imm : ℤ) (r : ℕ) → unsigned_abs imm < 2 ^ 31 → r < 32 → IsPrinted 64 (address_text imm r)
address imm r fits below =
    printed (joined (piece-signed_decimal imm fits) (joined (piece (codes "(") refl) (joined (joined (piece (codes "x") refl) (piece-decimal r (omega arith))) (piece (codes ")") refl)))) (omega arith)
    (omega (arith, some-signed_decimal imm fits, length-append (signed_decimal imm) (codes "(" ++ (register_text r ++ codes ")"))))

-- a few printed words
pub record AreFew (words : List (List ℕ)) : Type 0 where
  pub printed_are : ArePrinted 64 words
  pub few : length words ≤ 4

-- `m rd rs1 rs2`
registers_few : (name : List ℕ) → is_keyword name ≡ true → (a b c : ℕ) → a < 32 → b < 32 → c < 32 → AreFew (name ∷ registers_words a b c)
registers_few name is a b c h1 h2 h3 = record { printed_are = (keyword name is, (register a h1, (register b h2, (register c h3, tt)))); few = omega arith }

-- `m rd rs1 imm`, and `m rs1 rs2 off`
number_few : (name : List ℕ) → is_keyword name ≡ true → (a b : ℕ) (imm : ℤ) → a < 32 → b < 32 → unsigned_abs imm < 2 ^ 31 → AreFew (name ∷ number_words a b imm)
number_few name is a b imm h1 h2 h3 = record { printed_are = (keyword name is, (register a h1, (register b h2, (signed imm h3, tt)))); few = omega arith }

-- `m rd rs1 sh`
shift_few : (name : List ℕ) → is_keyword name ≡ true → (a b sh : ℕ) → a < 32 → b < 32 → sh < 32 → AreFew (name ∷ shift_words a b sh)
shift_few name is a b sh h1 h2 h3 = record { printed_are = (keyword name is, (register a h1, (register b h2, (printed-decimal sh (omega arith), tt)))); few = omega arith }

-- `m rd imm(rs1)`, and `m rs2 imm(rs1)`
address_few : (name : List ℕ) → is_keyword name ≡ true → (a : ℕ) (imm : ℤ) (b : ℕ) → a < 32 → b < 32 → unsigned_abs imm < 2 ^ 31 → AreFew (name ∷ address_words a imm b)
address_few name is a imm b h1 h2 h3 = record { printed_are = (keyword name is, (register a h1, (address imm b h3 h2, tt))); few = omega arith }

-- `jal rd off`
jump_few : (name : List ℕ) → is_keyword name ≡ true → (a : ℕ) (off : ℤ) → a < 32 → unsigned_abs off < 2 ^ 31 → AreFew (name ∷ jump_words a off)
jump_few name is a off h1 h2 = record { printed_are = (keyword name is, (register a h1, (signed off h2, tt))); few = omega arith }

-- `m rd imm`
upper_few : (name : List ℕ) → is_keyword name ≡ true → (a imm : ℕ) → a < 32 → imm < 2 ^ 20 → AreFew (name ∷ upper_words a imm)
upper_few name is a imm h1 h2 = record { printed_are = (keyword name is, (register a h1, (printed-decimal imm (omega arith), tt))); few = omega arith }

-- `m`
bare_few : (name : List ℕ) → is_keyword name ≡ true → AreFew (name ∷ [])
bare_few name is = record { printed_are = (keyword name is, tt); few = omega arith }

-- immediates and distances are small
immediate : (imm : ℤ) → IsImmediate imm → unsigned_abs imm < 2 ^ 31
immediate imm is = omega (arith, abs_below 2047 imm is.0 is.1)

branch : (off : ℤ) → IsBranchOffset off → unsigned_abs off < 2 ^ 31
branch off is = omega (arith, abs_below 4095 off is.0 (omega (arith, ints, is.1)))

far : (off : ℤ) → IsJumpOffset off → unsigned_abs off < 2 ^ 31
far off is = omega (arith, abs_below 1048575 off is.0 (omega (arith, ints, is.1)))

-- the words of an instruction are few and printed
pub insn_few : (insn : Insn) → InRange insn → AreFew (words_from insn)
insn_few (Add rd rs1 rs2) h = registers_few (codes "add") refl rd rs1 rs2 h.0 h.1 h.2
insn_few (Sub rd rs1 rs2) h = registers_few (codes "sub") refl rd rs1 rs2 h.0 h.1 h.2
insn_few (Sll rd rs1 rs2) h = registers_few (codes "sll") refl rd rs1 rs2 h.0 h.1 h.2
insn_few (Slt rd rs1 rs2) h = registers_few (codes "slt") refl rd rs1 rs2 h.0 h.1 h.2
insn_few (Sltu rd rs1 rs2) h = registers_few (codes "sltu") refl rd rs1 rs2 h.0 h.1 h.2
insn_few (Xor rd rs1 rs2) h = registers_few (codes "xor") refl rd rs1 rs2 h.0 h.1 h.2
insn_few (Srl rd rs1 rs2) h = registers_few (codes "srl") refl rd rs1 rs2 h.0 h.1 h.2
insn_few (Sra rd rs1 rs2) h = registers_few (codes "sra") refl rd rs1 rs2 h.0 h.1 h.2
insn_few (Or rd rs1 rs2) h = registers_few (codes "or") refl rd rs1 rs2 h.0 h.1 h.2
insn_few (And rd rs1 rs2) h = registers_few (codes "and") refl rd rs1 rs2 h.0 h.1 h.2
insn_few (Addi rd rs1 imm) h = number_few (codes "addi") refl rd rs1 imm h.0 h.1 (immediate imm h.2)
insn_few (Slti rd rs1 imm) h = number_few (codes "slti") refl rd rs1 imm h.0 h.1 (immediate imm h.2)
insn_few (Sltiu rd rs1 imm) h = number_few (codes "sltiu") refl rd rs1 imm h.0 h.1 (immediate imm h.2)
insn_few (Xori rd rs1 imm) h = number_few (codes "xori") refl rd rs1 imm h.0 h.1 (immediate imm h.2)
insn_few (Ori rd rs1 imm) h = number_few (codes "ori") refl rd rs1 imm h.0 h.1 (immediate imm h.2)
insn_few (Andi rd rs1 imm) h = number_few (codes "andi") refl rd rs1 imm h.0 h.1 (immediate imm h.2)
insn_few (Slli rd rs1 sh) h = shift_few (codes "slli") refl rd rs1 sh h.0 h.1 h.2
insn_few (Srli rd rs1 sh) h = shift_few (codes "srli") refl rd rs1 sh h.0 h.1 h.2
insn_few (Srai rd rs1 sh) h = shift_few (codes "srai") refl rd rs1 sh h.0 h.1 h.2
insn_few (Lb rd rs1 imm) h = address_few (codes "lb") refl rd imm rs1 h.0 h.1 (immediate imm h.2)
insn_few (Lh rd rs1 imm) h = address_few (codes "lh") refl rd imm rs1 h.0 h.1 (immediate imm h.2)
insn_few (Lw rd rs1 imm) h = address_few (codes "lw") refl rd imm rs1 h.0 h.1 (immediate imm h.2)
insn_few (Lbu rd rs1 imm) h = address_few (codes "lbu") refl rd imm rs1 h.0 h.1 (immediate imm h.2)
insn_few (Lhu rd rs1 imm) h = address_few (codes "lhu") refl rd imm rs1 h.0 h.1 (immediate imm h.2)
insn_few (Jalr rd rs1 imm) h = address_few (codes "jalr") refl rd imm rs1 h.0 h.1 (immediate imm h.2)
insn_few (Sb rs1 rs2 imm) h = address_few (codes "sb") refl rs2 imm rs1 h.1 h.0 (immediate imm h.2)
insn_few (Sh rs1 rs2 imm) h = address_few (codes "sh") refl rs2 imm rs1 h.1 h.0 (immediate imm h.2)
insn_few (Sw rs1 rs2 imm) h = address_few (codes "sw") refl rs2 imm rs1 h.1 h.0 (immediate imm h.2)
insn_few (Beq rs1 rs2 off) h = number_few (codes "beq") refl rs1 rs2 off h.0 h.1 (branch off h.2)
insn_few (Bne rs1 rs2 off) h = number_few (codes "bne") refl rs1 rs2 off h.0 h.1 (branch off h.2)
insn_few (Blt rs1 rs2 off) h = number_few (codes "blt") refl rs1 rs2 off h.0 h.1 (branch off h.2)
insn_few (Bge rs1 rs2 off) h = number_few (codes "bge") refl rs1 rs2 off h.0 h.1 (branch off h.2)
insn_few (Bltu rs1 rs2 off) h = number_few (codes "bltu") refl rs1 rs2 off h.0 h.1 (branch off h.2)
insn_few (Bgeu rs1 rs2 off) h = number_few (codes "bgeu") refl rs1 rs2 off h.0 h.1 (branch off h.2)
insn_few (Jal rd off) h = jump_few (codes "jal") refl rd off h.0 (far off h.1)
insn_few (Lui rd imm) h = upper_few (codes "lui") refl rd imm h.0 h.1
insn_few (Auipc rd imm) h = upper_few (codes "auipc") refl rd imm h.0 h.1
insn_few Fence h = bare_few (codes "fence") refl
insn_few Ecall h = bare_few (codes "ecall") refl
insn_few Ebreak h = bare_few (codes "ebreak") refl

-- and assemble to it
pub insn_of-words_from : (insn : Insn) → InRange insn → insn_of (words_from insn) ≡ Ok insn
unfolding text_of
insn_of-words_from insn is =
    let words = printed_line 64 (words_from insn) (insn_few insn is).printed_are in
    ap insn_of (sym (words_of-join (words_from insn) words.words_are)) ∙ text_reads_back insn is

-- and there is one at least
pub some_words : (insn : Insn) → 1 ≤ length (words_from insn)
some_words (Add rd rs1 rs2) = omega arith
some_words (Sub rd rs1 rs2) = omega arith
some_words (Sll rd rs1 rs2) = omega arith
some_words (Slt rd rs1 rs2) = omega arith
some_words (Sltu rd rs1 rs2) = omega arith
some_words (Xor rd rs1 rs2) = omega arith
some_words (Srl rd rs1 rs2) = omega arith
some_words (Sra rd rs1 rs2) = omega arith
some_words (Or rd rs1 rs2) = omega arith
some_words (And rd rs1 rs2) = omega arith
some_words _ = omega arith

behind_first : (first : List ℕ) (words : List (List ℕ)) → first ++ behind words ≡ join_with_byte 32 (first ∷ words)
behind_first first [] = append-nil first
behind_first first (word ∷ words) = ap (λ text. first ++ 32 ∷ text) (behind_first word words)

-- words behind a space, where there are any
behind-join : (words : List (List ℕ)) → 1 ≤ length words → behind words ≡ 32 ∷ join_with_byte 32 words
behind-join [] some = absurd (omega arith)
behind-join (first ∷ words) some = ap (λ text. 32 ∷ text) (behind_first first words)

-- so they are the text of the instruction
pub behind_words_from : (insn : Insn) → behind (words_from insn) ≡ 32 ∷ text_of insn
unfolding text_of
behind_words_from insn = behind-join (words_from insn) (some_words insn)
