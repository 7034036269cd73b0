-- The word of an instruction has 32 bits.
use Rattle.std.proofs.Common.{ℕ, ◌/◌, ◌^◌, ◌<◌, ◌≤◌, arith}
use Rattle.std.specs.Prelude.{ℤ, pos, negsuc, ◌≤ℤ◌}
use Rattle.std.proofs.lemmas.Int.{ints}
use Rattle.std.proofs.lemmas.Nat.{mod_below}
use Rattle.rv32_decode.specs.InRange.{InRange}
use Rattle.rv32_decode.specs.Word.{unsigned, r_word, i_word, s_word, b_word, u_word, j_word, word_of}
use Rattle.rv32_decode.specs.declared.insn.Insn.{Insn}
use Rattle.rv32_decode.specs.declared.insn.Insn.TheVariants.{Add, Sub, Sll, Slt, Sltu, Xor, Srl, Sra, Or, And, Addi, Slti, Sltiu, Xori, Ori, Andi, Slli, Srli, Srai, Lb, Lh, Lw, Lbu, Lhu, Jalr, Sb, Sh, Sw, Beq, Bne, Blt, Bge, Bltu, Bgeu, Jal, Lui, Auipc, Fence, Ecall, Ebreak}

-- a word of each format, whose row has its highest bit clear
r_small : (row rd rs1 rs2 : ℕ) → row ≤ 0x40007fff → rd < 32 → rs1 < 32 → rs2 < 32 → r_word row rd rs1 rs2 < 2 ^ 32
r_small row rd rs1 rs2 row_is d a b = omega arith

immediate_small : (imm : ℤ) → imm ≤ℤ pos 2047 → unsigned (2 ^ 11) imm < 4096
immediate_small (pos n) most = omega (arith, ints)
immediate_small (negsuc n) most = omega arith

i_small : (row rd rs1 : ℕ) (imm : ℤ) → row ≤ 0x707f → rd < 32 → rs1 < 32 → imm ≤ℤ pos 2047 → i_word row rd rs1 imm < 2 ^ 32
i_small row rd rs1 imm row_is d a most = omega (arith, immediate_small imm most)

s_small : (row rs1 rs2 : ℕ) (imm : ℤ) → row ≤ 0x707f → rs1 < 32 → rs2 < 32 → s_word row rs1 rs2 imm < 2 ^ 32
s_small row rs1 rs2 imm row_is a b = let n = unsigned (2 ^ 11) imm in omega (arith, mod_below (n / 2 ^ 0) 32 (omega arith), mod_below (n / 2 ^ 5) 128 (omega arith))

b_small : (row rs1 rs2 : ℕ) (off : ℤ) → row ≤ 0x707f → rs1 < 32 → rs2 < 32 → b_word row rs1 rs2 off < 2 ^ 32
b_small row rs1 rs2 off row_is a b =
    let n = unsigned (2 ^ 12) off in
    omega (arith, mod_below (n / 2 ^ 11) 2 (omega arith), mod_below (n / 2 ^ 1) 16 (omega arith), mod_below (n / 2 ^ 5) 64 (omega arith), mod_below (n / 2 ^ 12) 2 (omega arith))

u_small : (row rd imm : ℕ) → row ≤ 0x7f → rd < 32 → imm < 2 ^ 20 → u_word row rd imm < 2 ^ 32
u_small row rd imm row_is d few = omega arith

j_small : (row rd : ℕ) (off : ℤ) → row ≤ 0x7f → rd < 32 → j_word row rd off < 2 ^ 32
j_small row rd off row_is d =
    let n = unsigned (2 ^ 20) off in
    omega (arith, mod_below (n / 2 ^ 12) 256 (omega arith), mod_below (n / 2 ^ 11) 2 (omega arith), mod_below (n / 2 ^ 1) 1024 (omega arith), mod_below (n / 2 ^ 20) 2 (omega arith))

-- the word of an instruction whose operands are in their ranges
pub word_small : (insn : Insn) → InRange insn → word_of insn < 2 ^ 32
unfolding word_of
word_small (Add rd rs1 rs2) range = r_small 0x00000033 rd rs1 rs2 (omega arith) range.0 range.1 range.2
word_small (Sub rd rs1 rs2) range = r_small 0x40000033 rd rs1 rs2 (omega arith) range.0 range.1 range.2
word_small (Sll rd rs1 rs2) range = r_small 0x00001033 rd rs1 rs2 (omega arith) range.0 range.1 range.2
word_small (Slt rd rs1 rs2) range = r_small 0x00002033 rd rs1 rs2 (omega arith) range.0 range.1 range.2
word_small (Sltu rd rs1 rs2) range = r_small 0x00003033 rd rs1 rs2 (omega arith) range.0 range.1 range.2
word_small (Xor rd rs1 rs2) range = r_small 0x00004033 rd rs1 rs2 (omega arith) range.0 range.1 range.2
word_small (Srl rd rs1 rs2) range = r_small 0x00005033 rd rs1 rs2 (omega arith) range.0 range.1 range.2
word_small (Sra rd rs1 rs2) range = r_small 0x40005033 rd rs1 rs2 (omega arith) range.0 range.1 range.2
word_small (Or rd rs1 rs2) range = r_small 0x00006033 rd rs1 rs2 (omega arith) range.0 range.1 range.2
word_small (And rd rs1 rs2) range = r_small 0x00007033 rd rs1 rs2 (omega arith) range.0 range.1 range.2
word_small (Addi rd rs1 imm) range = i_small 0x00000013 rd rs1 imm (omega arith) range.0 range.1 range.2.1
word_small (Slti rd rs1 imm) range = i_small 0x00002013 rd rs1 imm (omega arith) range.0 range.1 range.2.1
word_small (Sltiu rd rs1 imm) range = i_small 0x00003013 rd rs1 imm (omega arith) range.0 range.1 range.2.1
word_small (Xori rd rs1 imm) range = i_small 0x00004013 rd rs1 imm (omega arith) range.0 range.1 range.2.1
word_small (Ori rd rs1 imm) range = i_small 0x00006013 rd rs1 imm (omega arith) range.0 range.1 range.2.1
word_small (Andi rd rs1 imm) range = i_small 0x00007013 rd rs1 imm (omega arith) range.0 range.1 range.2.1
word_small (Slli rd rs1 sh) range = r_small 0x00001013 rd rs1 sh (omega arith) range.0 range.1 range.2
word_small (Srli rd rs1 sh) range = r_small 0x00005013 rd rs1 sh (omega arith) range.0 range.1 range.2
word_small (Srai rd rs1 sh) range = r_small 0x40005013 rd rs1 sh (omega arith) range.0 range.1 range.2
word_small (Lb rd rs1 imm) range = i_small 0x00000003 rd rs1 imm (omega arith) range.0 range.1 range.2.1
word_small (Lh rd rs1 imm) range = i_small 0x00001003 rd rs1 imm (omega arith) range.0 range.1 range.2.1
word_small (Lw rd rs1 imm) range = i_small 0x00002003 rd rs1 imm (omega arith) range.0 range.1 range.2.1
word_small (Lbu rd rs1 imm) range = i_small 0x00004003 rd rs1 imm (omega arith) range.0 range.1 range.2.1
word_small (Lhu rd rs1 imm) range = i_small 0x00005003 rd rs1 imm (omega arith) range.0 range.1 range.2.1
word_small (Jalr rd rs1 imm) range = i_small 0x00000067 rd rs1 imm (omega arith) range.0 range.1 range.2.1
word_small (Sb rs1 rs2 imm) range = s_small 0x00000023 rs1 rs2 imm (omega arith) range.0 range.1
word_small (Sh rs1 rs2 imm) range = s_small 0x00001023 rs1 rs2 imm (omega arith) range.0 range.1
word_small (Sw rs1 rs2 imm) range = s_small 0x00002023 rs1 rs2 imm (omega arith) range.0 range.1
word_small (Beq rs1 rs2 off) range = b_small 0x00000063 rs1 rs2 off (omega arith) range.0 range.1
word_small (Bne rs1 rs2 off) range = b_small 0x00001063 rs1 rs2 off (omega arith) range.0 range.1
word_small (Blt rs1 rs2 off) range = b_small 0x00004063 rs1 rs2 off (omega arith) range.0 range.1
word_small (Bge rs1 rs2 off) range = b_small 0x00005063 rs1 rs2 off (omega arith) range.0 range.1
word_small (Bltu rs1 rs2 off) range = b_small 0x00006063 rs1 rs2 off (omega arith) range.0 range.1
word_small (Bgeu rs1 rs2 off) range = b_small 0x00007063 rs1 rs2 off (omega arith) range.0 range.1
word_small (Jal rd off) range = j_small 0x0000006f rd off (omega arith) range.0
word_small (Lui rd imm) range = u_small 0x00000037 rd imm (omega arith) range.0 range.1
word_small (Auipc rd imm) range = u_small 0x00000017 rd imm (omega arith) range.0 range.1
word_small Fence range = omega arith
word_small Ecall range = omega arith
word_small Ebreak range = omega arith
