-- The lines that are written are read again: of each form, and so of each instruction.
use Rattle.std.proofs.Common.{ℕ, ◌≡◌, ◌^◌, ◌<◌, true, ℤ, pos, negsuc, List, [], ◌∷◌, decimal, refl, arith}
use Rattle.std.specs.Prelude.{Some, Ok, unsigned_abs, codes}
use Rattle.std.specs.Fmt.{signed_decimal}
use Rattle.std.specs.List.{list_all, join_with_byte}
use Rattle.std.proofs.lemmas.Bool.{and_from}
use Rattle.std.proofs.lemmas.Int.{ints}
use Rattle.coy_text.specs.Words.{words_of, is_word}
use Rattle.coy_text.proofs.WordLaws.{words_of-join}
use Rattle.rv32_decode.specs.declared.insn.Insn.{Insn}
use Rattle.rv32_decode.specs.declared.insn.Insn.TheVariants.{Add, Sub, Sll, Slt, Sltu, Xor, Srl, Sra, Or, And, Addi, Slti, Sltiu, Xori, Ori, Andi, Slli, Srli, Srai, Lb, Lh, Lw, Lbu, Lhu, Jalr, Sb, Sh, Sw, Beq, Bne, Blt, Bge, Bltu, Bgeu, Jal, Lui, Auipc, Fence, Ecall, Ebreak}
use Rattle.rv32_decode.specs.InRange.{InRange, IsImmediate, IsBranchOffset, IsJumpOffset}
use Rattle.rv32_asm.specs.Forms.{Registers, Immediate, Shift, Load, Store, Branch, Upper, Jump, Bare, form_of, registers_line, immediate_line, shift_line, load_line, store_line, branch_line, upper_line, jump_line, bare_line}
use Rattle.rv32_asm.specs.Assembly.{insn_of}
use Rattle.rv32_asm.specs.Text.{register_text, address_text, registers_words, number_words, shift_words, address_words, jump_words, upper_words, text_of}
use Rattle.rv32_asm.proofs.Reading.{abs_below, register_of-register_text, number_of-signed_decimal, offset_of-signed_decimal, natural_of-decimal, address_of-address_text, is_word-register_text, is_word-decimal, is_word-signed_decimal, is_word-address_text}

-- one more word in front of words
front_word : (word : List ℕ) (words : List (List ℕ)) → is_word word ≡ true → list_all is_word words ≡ true → list_all is_word (word ∷ words) ≡ true
front_word word words first others = and_from (is_word word) (list_all is_word words) first others

-- `m rd rs1 rs2`
registers_read : (name : List ℕ) (insn : ℕ → ℕ → ℕ → Insn) → form_of name ≡ Some (Registers insn) → is_word name ≡ true → (rd rs1 rs2 : ℕ) → rd < 32 → rs1 < 32 → rs2 < 32 → insn_of (words_of (join_with_byte 32 (name ∷ registers_words rd rs1 rs2))) ≡ Ok (insn rd rs1 rs2)
unfolding insn_of registers_line
registers_read name insn form named_word rd rs1 rs2 h1 h2 h3 =
    rw (words_of-join (name ∷ registers_words rd rs1 rs2) (front_word name (registers_words rd rs1 rs2) named_word (front_word (register_text rd) (register_text rs1 ∷ register_text rs2 ∷ []) (is_word-register_text rd h1) (front_word (register_text rs1) (register_text rs2 ∷ []) (is_word-register_text rs1 h2) (front_word (register_text rs2) ([]) (is_word-register_text rs2 h3) refl)))), form, register_of-register_text rd h1, register_of-register_text rs1 h2, register_of-register_text rs2 h3) refl

-- `m rd rs1 imm`
immediate_read : (name : List ℕ) (insn : ℕ → ℕ → ℤ → Insn) → form_of name ≡ Some (Immediate insn) → is_word name ≡ true → (rd rs1 : ℕ) (imm : ℤ) → rd < 32 → rs1 < 32 → IsImmediate imm → insn_of (words_of (join_with_byte 32 (name ∷ number_words rd rs1 imm))) ≡ Ok (insn rd rs1 imm)
unfolding insn_of immediate_line
immediate_read name insn form named_word rd rs1 imm h1 h2 h3 =
    let fits : unsigned_abs imm < 2 ^ 31 = omega (arith, abs_below 2047 imm h3.0 h3.1) in
    rw (words_of-join (name ∷ number_words rd rs1 imm) (front_word name (number_words rd rs1 imm) named_word (front_word (register_text rd) (register_text rs1 ∷ signed_decimal imm ∷ []) (is_word-register_text rd h1) (front_word (register_text rs1) (signed_decimal imm ∷ []) (is_word-register_text rs1 h2) (front_word (signed_decimal imm) ([]) (is_word-signed_decimal imm fits) refl)))), form, register_of-register_text rd h1, register_of-register_text rs1 h2, number_of-signed_decimal (negsuc 2047) (pos 2047) imm fits h3.0 h3.1) refl

-- `m rd rs1 sh`
shift_read : (name : List ℕ) (insn : ℕ → ℕ → ℕ → Insn) → form_of name ≡ Some (Shift insn) → is_word name ≡ true → (rd rs1 sh : ℕ) → rd < 32 → rs1 < 32 → sh < 32 → insn_of (words_of (join_with_byte 32 (name ∷ shift_words rd rs1 sh))) ≡ Ok (insn rd rs1 sh)
unfolding insn_of shift_line
shift_read name insn form named_word rd rs1 sh h1 h2 h3 =
    rw (words_of-join (name ∷ shift_words rd rs1 sh) (front_word name (shift_words rd rs1 sh) named_word (front_word (register_text rd) (register_text rs1 ∷ decimal sh ∷ []) (is_word-register_text rd h1) (front_word (register_text rs1) (decimal sh ∷ []) (is_word-register_text rs1 h2) (front_word (decimal sh) ([]) (is_word-decimal sh (omega arith)) refl)))), form, register_of-register_text rd h1, register_of-register_text rs1 h2, natural_of-decimal 31 sh (omega arith) (omega arith)) refl

-- `m rd imm(rs1)`
load_read : (name : List ℕ) (insn : ℕ → ℕ → ℤ → Insn) → form_of name ≡ Some (Load insn) → is_word name ≡ true → (rd rs1 : ℕ) (imm : ℤ) → rd < 32 → rs1 < 32 → IsImmediate imm → insn_of (words_of (join_with_byte 32 (name ∷ address_words rd imm rs1))) ≡ Ok (insn rd rs1 imm)
unfolding insn_of load_line
load_read name insn form named_word rd rs1 imm h1 h2 h3 =
    let fits : unsigned_abs imm < 2 ^ 31 = omega (arith, abs_below 2047 imm h3.0 h3.1) in
    rw (words_of-join (name ∷ address_words rd imm rs1) (front_word name (address_words rd imm rs1) named_word (front_word (register_text rd) (address_text imm rs1 ∷ []) (is_word-register_text rd h1) (front_word (address_text imm rs1) ([]) (is_word-address_text imm rs1 fits h2) refl))), form, register_of-register_text rd h1, address_of-address_text imm rs1 h3 h2) refl

-- `m rs2 imm(rs1)`
store_read : (name : List ℕ) (insn : ℕ → ℕ → ℤ → Insn) → form_of name ≡ Some (Store insn) → is_word name ≡ true → (rs1 rs2 : ℕ) (imm : ℤ) → rs1 < 32 → rs2 < 32 → IsImmediate imm → insn_of (words_of (join_with_byte 32 (name ∷ address_words rs2 imm rs1))) ≡ Ok (insn rs1 rs2 imm)
unfolding insn_of store_line
store_read name insn form named_word rs1 rs2 imm h1 h2 h3 =
    let fits : unsigned_abs imm < 2 ^ 31 = omega (arith, abs_below 2047 imm h3.0 h3.1) in
    rw (words_of-join (name ∷ address_words rs2 imm rs1) (front_word name (address_words rs2 imm rs1) named_word (front_word (register_text rs2) (address_text imm rs1 ∷ []) (is_word-register_text rs2 h2) (front_word (address_text imm rs1) ([]) (is_word-address_text imm rs1 fits h1) refl))), form, register_of-register_text rs2 h2, address_of-address_text imm rs1 h3 h1) refl

-- `m rs1 rs2 off`
branch_read : (name : List ℕ) (insn : ℕ → ℕ → ℤ → Insn) → form_of name ≡ Some (Branch insn) → is_word name ≡ true → (rs1 rs2 : ℕ) (off : ℤ) → rs1 < 32 → rs2 < 32 → IsBranchOffset off → insn_of (words_of (join_with_byte 32 (name ∷ number_words rs1 rs2 off))) ≡ Ok (insn rs1 rs2 off)
unfolding insn_of branch_line
branch_read name insn form named_word rs1 rs2 off h1 h2 h3 =
    let fits : unsigned_abs off < 2 ^ 31 = omega (arith, abs_below 4095 off h3.0 (omega (arith, ints, h3.1))) in
    rw (words_of-join (name ∷ number_words rs1 rs2 off) (front_word name (number_words rs1 rs2 off) named_word (front_word (register_text rs1) (register_text rs2 ∷ signed_decimal off ∷ []) (is_word-register_text rs1 h1) (front_word (register_text rs2) (signed_decimal off ∷ []) (is_word-register_text rs2 h2) (front_word (signed_decimal off) ([]) (is_word-signed_decimal off fits) refl)))), form, register_of-register_text rs1 h1, register_of-register_text rs2 h2, offset_of-signed_decimal (negsuc 4095) (pos 4094) off fits h3.0 h3.1 h3.2) refl

-- `m rd imm`
upper_read : (name : List ℕ) (insn : ℕ → ℕ → Insn) → form_of name ≡ Some (Upper insn) → is_word name ≡ true → (rd imm : ℕ) → rd < 32 → imm < 2 ^ 20 → insn_of (words_of (join_with_byte 32 (name ∷ upper_words rd imm))) ≡ Ok (insn rd imm)
unfolding insn_of upper_line
upper_read name insn form named_word rd imm h1 h2 =
    rw (words_of-join (name ∷ upper_words rd imm) (front_word name (upper_words rd imm) named_word (front_word (register_text rd) (decimal imm ∷ []) (is_word-register_text rd h1) (front_word (decimal imm) ([]) (is_word-decimal imm (omega arith)) refl))), form, register_of-register_text rd h1, natural_of-decimal 1048575 imm (omega arith) (omega arith)) refl

-- `jal rd off`
jump_read : (name : List ℕ) (insn : ℕ → ℤ → Insn) → form_of name ≡ Some (Jump insn) → is_word name ≡ true → (rd : ℕ) (off : ℤ) → rd < 32 → IsJumpOffset off → insn_of (words_of (join_with_byte 32 (name ∷ jump_words rd off))) ≡ Ok (insn rd off)
unfolding insn_of jump_line
jump_read name insn form named_word rd off h1 h2 =
    let fits : unsigned_abs off < 2 ^ 31 = omega (arith, abs_below 1048575 off h2.0 (omega (arith, ints, h2.1))) in
    rw (words_of-join (name ∷ jump_words rd off) (front_word name (jump_words rd off) named_word (front_word (register_text rd) (signed_decimal off ∷ []) (is_word-register_text rd h1) (front_word (signed_decimal off) ([]) (is_word-signed_decimal off fits) refl))), form, register_of-register_text rd h1, offset_of-signed_decimal (negsuc 1048575) (pos 1048574) off fits h2.0 h2.1 h2.2) refl

-- `m`
bare_read : (name : List ℕ) (insn : Insn) → form_of name ≡ Some (Bare insn) → is_word name ≡ true → insn_of (words_of (join_with_byte 32 (name ∷ []))) ≡ Ok insn
unfolding insn_of bare_line
bare_read name insn form named_word = rw (words_of-join (name ∷ []) (front_word name [] named_word refl), form) refl

-- the text of an instruction assembles to it
pub text_reads_back : (insn : Insn) → InRange insn → insn_of (words_of (text_of insn)) ≡ Ok insn
unfolding form_of text_of
text_reads_back (Add rd rs1 rs2) h = registers_read (codes "add") Add refl refl rd rs1 rs2 h.0 h.1 h.2
text_reads_back (Sub rd rs1 rs2) h = registers_read (codes "sub") Sub refl refl rd rs1 rs2 h.0 h.1 h.2
text_reads_back (Sll rd rs1 rs2) h = registers_read (codes "sll") Sll refl refl rd rs1 rs2 h.0 h.1 h.2
text_reads_back (Slt rd rs1 rs2) h = registers_read (codes "slt") Slt refl refl rd rs1 rs2 h.0 h.1 h.2
text_reads_back (Sltu rd rs1 rs2) h = registers_read (codes "sltu") Sltu refl refl rd rs1 rs2 h.0 h.1 h.2
text_reads_back (Xor rd rs1 rs2) h = registers_read (codes "xor") Xor refl refl rd rs1 rs2 h.0 h.1 h.2
text_reads_back (Srl rd rs1 rs2) h = registers_read (codes "srl") Srl refl refl rd rs1 rs2 h.0 h.1 h.2
text_reads_back (Sra rd rs1 rs2) h = registers_read (codes "sra") Sra refl refl rd rs1 rs2 h.0 h.1 h.2
text_reads_back (Or rd rs1 rs2) h = registers_read (codes "or") Or refl refl rd rs1 rs2 h.0 h.1 h.2
text_reads_back (And rd rs1 rs2) h = registers_read (codes "and") And refl refl rd rs1 rs2 h.0 h.1 h.2
text_reads_back (Addi rd rs1 imm) h = immediate_read (codes "addi") Addi refl refl rd rs1 imm h.0 h.1 h.2
text_reads_back (Slti rd rs1 imm) h = immediate_read (codes "slti") Slti refl refl rd rs1 imm h.0 h.1 h.2
text_reads_back (Sltiu rd rs1 imm) h = immediate_read (codes "sltiu") Sltiu refl refl rd rs1 imm h.0 h.1 h.2
text_reads_back (Xori rd rs1 imm) h = immediate_read (codes "xori") Xori refl refl rd rs1 imm h.0 h.1 h.2
text_reads_back (Ori rd rs1 imm) h = immediate_read (codes "ori") Ori refl refl rd rs1 imm h.0 h.1 h.2
text_reads_back (Andi rd rs1 imm) h = immediate_read (codes "andi") Andi refl refl rd rs1 imm h.0 h.1 h.2
text_reads_back (Slli rd rs1 sh) h = shift_read (codes "slli") Slli refl refl rd rs1 sh h.0 h.1 h.2
text_reads_back (Srli rd rs1 sh) h = shift_read (codes "srli") Srli refl refl rd rs1 sh h.0 h.1 h.2
text_reads_back (Srai rd rs1 sh) h = shift_read (codes "srai") Srai refl refl rd rs1 sh h.0 h.1 h.2
text_reads_back (Lb rd rs1 imm) h = load_read (codes "lb") Lb refl refl rd rs1 imm h.0 h.1 h.2
text_reads_back (Lh rd rs1 imm) h = load_read (codes "lh") Lh refl refl rd rs1 imm h.0 h.1 h.2
text_reads_back (Lw rd rs1 imm) h = load_read (codes "lw") Lw refl refl rd rs1 imm h.0 h.1 h.2
text_reads_back (Lbu rd rs1 imm) h = load_read (codes "lbu") Lbu refl refl rd rs1 imm h.0 h.1 h.2
text_reads_back (Lhu rd rs1 imm) h = load_read (codes "lhu") Lhu refl refl rd rs1 imm h.0 h.1 h.2
text_reads_back (Jalr rd rs1 imm) h = load_read (codes "jalr") Jalr refl refl rd rs1 imm h.0 h.1 h.2
text_reads_back (Sb rs1 rs2 imm) h = store_read (codes "sb") Sb refl refl rs1 rs2 imm h.0 h.1 h.2
text_reads_back (Sh rs1 rs2 imm) h = store_read (codes "sh") Sh refl refl rs1 rs2 imm h.0 h.1 h.2
text_reads_back (Sw rs1 rs2 imm) h = store_read (codes "sw") Sw refl refl rs1 rs2 imm h.0 h.1 h.2
text_reads_back (Beq rs1 rs2 off) h = branch_read (codes "beq") Beq refl refl rs1 rs2 off h.0 h.1 h.2
text_reads_back (Bne rs1 rs2 off) h = branch_read (codes "bne") Bne refl refl rs1 rs2 off h.0 h.1 h.2
text_reads_back (Blt rs1 rs2 off) h = branch_read (codes "blt") Blt refl refl rs1 rs2 off h.0 h.1 h.2
text_reads_back (Bge rs1 rs2 off) h = branch_read (codes "bge") Bge refl refl rs1 rs2 off h.0 h.1 h.2
text_reads_back (Bltu rs1 rs2 off) h = branch_read (codes "bltu") Bltu refl refl rs1 rs2 off h.0 h.1 h.2
text_reads_back (Bgeu rs1 rs2 off) h = branch_read (codes "bgeu") Bgeu refl refl rs1 rs2 off h.0 h.1 h.2
text_reads_back (Jal rd off) h = jump_read (codes "jal") Jal refl refl rd off h.0 h.1
text_reads_back (Lui rd imm) h = upper_read (codes "lui") Lui refl refl rd imm h.0 h.1
text_reads_back (Auipc rd imm) h = upper_read (codes "auipc") Auipc refl refl rd imm h.0 h.1
text_reads_back Fence h = bare_read (codes "fence") Fence refl refl
text_reads_back Ecall h = bare_read (codes "ecall") Ecall refl refl
text_reads_back Ebreak h = bare_read (codes "ebreak") Ebreak refl refl
