-- The word of an instruction: the match of its row, with its operands put where the row's format has them.
use Rattle.std.specs.Prelude.{ℕ, ◌+◌, ◌-◌, ◌*◌, ◌^◌, ℤ, pos, negsuc}
use Rattle.rv32_decode.specs.Fields.{bits}
use Rattle.rv32_decode.specs.declared.insn.Insn.{Insn}
use Rattle.rv32_decode.specs.declared.insn.Insn.TheVariants.{Lui, Auipc, Jal, Jalr, Beq, Bne, Blt, Bge, Bltu, Bgeu, Lb, Lh, Lw, Lbu, Lhu, Sb, Sh, Sw, Addi, Slti, Sltiu, Xori, Ori, Andi, Slli, Srli, Srai, Add, Sub, Sll, Slt, Sltu, Xor, Srl, Sra, Or, And, Fence, Ecall, Ebreak}

-- the bits that say a number in two's complement, the highest of them with the weight `sign`
abbrev pub unsigned : ℕ → ℤ → ℕ
unsigned sign (pos n) = n
unsigned sign (negsuc n) = 2 * sign - 1 - n

-- a word of format R; a shift by an immediate has the immediate in the place of rs2
abbrev pub r_word : ℕ → ℕ → ℕ → ℕ → ℕ
r_word match rd rs1 rs2 = match + rd * 2 ^ 7 + rs1 * 2 ^ 15 + rs2 * 2 ^ 20

-- a word of format I: imm[11:0] in bits 31 to 20
abbrev pub i_word : ℕ → ℕ → ℕ → ℤ → ℕ
i_word match rd rs1 imm = match + rd * 2 ^ 7 + rs1 * 2 ^ 15 + unsigned (2 ^ 11) imm * 2 ^ 20

-- a word of format S: imm[11:5] in bits 31 to 25, imm[4:0] in bits 11 to 7
abbrev pub s_word : ℕ → ℕ → ℕ → ℤ → ℕ
s_word match rs1 rs2 imm =
    let n = unsigned (2 ^ 11) imm in
    match + bits n 4 0 * 2 ^ 7 + rs1 * 2 ^ 15 + rs2 * 2 ^ 20 + bits n 11 5 * 2 ^ 25

-- a word of format B: imm[12] in bit 31, imm[10:5] in bits 30 to 25, imm[4:1] in bits 11 to 8, imm[11] in bit 7
abbrev pub b_word : ℕ → ℕ → ℕ → ℤ → ℕ
b_word match rs1 rs2 off =
    let n = unsigned (2 ^ 12) off in
    match + bits n 11 11 * 2 ^ 7 + bits n 4 1 * 2 ^ 8 + rs1 * 2 ^ 15 + rs2 * 2 ^ 20 + bits n 10 5 * 2 ^ 25
    + bits n 12 12 * 2 ^ 31

-- a word of format U: the upper 20 bits in bits 31 to 12
abbrev pub u_word : ℕ → ℕ → ℕ → ℕ
u_word match rd imm = match + rd * 2 ^ 7 + imm * 2 ^ 12

-- a word of format J: imm[20] in bit 31, imm[10:1] in bits 30 to 21, imm[11] in bit 20, imm[19:12] in bits 19 to 12
abbrev pub j_word : ℕ → ℕ → ℤ → ℕ
j_word match rd off =
    let n = unsigned (2 ^ 20) off in
    match + rd * 2 ^ 7 + bits n 19 12 * 2 ^ 12 + bits n 11 11 * 2 ^ 20 + bits n 10 1 * 2 ^ 21 + bits n 20 20 * 2 ^ 31

-- the word of an instruction; of FENCE's words FENCE IORW, IORW, which assemblers write
unfoldable pub word_of : Insn → ℕ
word_of (Lui rd imm) = u_word 0x00000037 rd imm
word_of (Auipc rd imm) = u_word 0x00000017 rd imm
word_of (Jal rd off) = j_word 0x0000006f rd off
word_of (Jalr rd rs1 imm) = i_word 0x00000067 rd rs1 imm
word_of (Beq rs1 rs2 off) = b_word 0x00000063 rs1 rs2 off
word_of (Bne rs1 rs2 off) = b_word 0x00001063 rs1 rs2 off
word_of (Blt rs1 rs2 off) = b_word 0x00004063 rs1 rs2 off
word_of (Bge rs1 rs2 off) = b_word 0x00005063 rs1 rs2 off
word_of (Bltu rs1 rs2 off) = b_word 0x00006063 rs1 rs2 off
word_of (Bgeu rs1 rs2 off) = b_word 0x00007063 rs1 rs2 off
word_of (Lb rd rs1 imm) = i_word 0x00000003 rd rs1 imm
word_of (Lh rd rs1 imm) = i_word 0x00001003 rd rs1 imm
word_of (Lw rd rs1 imm) = i_word 0x00002003 rd rs1 imm
word_of (Lbu rd rs1 imm) = i_word 0x00004003 rd rs1 imm
word_of (Lhu rd rs1 imm) = i_word 0x00005003 rd rs1 imm
word_of (Sb rs1 rs2 imm) = s_word 0x00000023 rs1 rs2 imm
word_of (Sh rs1 rs2 imm) = s_word 0x00001023 rs1 rs2 imm
word_of (Sw rs1 rs2 imm) = s_word 0x00002023 rs1 rs2 imm
word_of (Addi rd rs1 imm) = i_word 0x00000013 rd rs1 imm
word_of (Slti rd rs1 imm) = i_word 0x00002013 rd rs1 imm
word_of (Sltiu rd rs1 imm) = i_word 0x00003013 rd rs1 imm
word_of (Xori rd rs1 imm) = i_word 0x00004013 rd rs1 imm
word_of (Ori rd rs1 imm) = i_word 0x00006013 rd rs1 imm
word_of (Andi rd rs1 imm) = i_word 0x00007013 rd rs1 imm
word_of (Slli rd rs1 sh) = r_word 0x00001013 rd rs1 sh
word_of (Srli rd rs1 sh) = r_word 0x00005013 rd rs1 sh
word_of (Srai rd rs1 sh) = r_word 0x40005013 rd rs1 sh
word_of (Add rd rs1 rs2) = r_word 0x00000033 rd rs1 rs2
word_of (Sub rd rs1 rs2) = r_word 0x40000033 rd rs1 rs2
word_of (Sll rd rs1 rs2) = r_word 0x00001033 rd rs1 rs2
word_of (Slt rd rs1 rs2) = r_word 0x00002033 rd rs1 rs2
word_of (Sltu rd rs1 rs2) = r_word 0x00003033 rd rs1 rs2
word_of (Xor rd rs1 rs2) = r_word 0x00004033 rd rs1 rs2
word_of (Srl rd rs1 rs2) = r_word 0x00005033 rd rs1 rs2
word_of (Sra rd rs1 rs2) = r_word 0x40005033 rd rs1 rs2
word_of (Or rd rs1 rs2) = r_word 0x00006033 rd rs1 rs2
word_of (And rd rs1 rs2) = r_word 0x00007033 rd rs1 rs2
word_of Fence = 0x0ff0000f
word_of Ecall = 0x00000073
word_of Ebreak = 0x00100073
