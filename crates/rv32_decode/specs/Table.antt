-- The instruction table of RV32I: RISC-V Unprivileged ISA, chapter "RV32/64G Instruction Set Listings", table
-- "Instruction listing for RISC-V", part "RV32I Base Instruction Set", in its order. A row's match holds the opcode,
-- funct3 and funct7 of that table, and its mask has ones in the bits which these fill. FENCE's other fields are left
-- free, so that FENCE.TSO and PAUSE are words of FENCE.
use Rattle.std.specs.Prelude.{ℕ, ℤ, Option, Some, None, List, [], ◌∷◌, if◌then◌else◌, ◌==◌, bit_and}
use Rattle.rv32_decode.specs.Fields.{bits, i_immediate, s_immediate, b_immediate, j_immediate}
use Rattle.rv32_decode.specs.declared.insn.Insn.{Insn}
use Rattle.rv32_decode.specs.declared.insn.Insn.TheVariants.{Lui, Auipc, Jal, Jalr, Beq, Bne, Blt, Bge, Bltu, Bgeu, Lb, Lh, Lw, Lbu, Lhu, Sb, Sh, Sw, Addi, Slti, Sltiu, Xori, Ori, Andi, Slli, Srli, Srai, Add, Sub, Sll, Slt, Sltu, Xor, Srl, Sra, Or, And, Fence, Ecall, Ebreak}

-- a format, with the instruction that its operands make, given in the order rd, rs1, rs2, immediate
pub data Form : Type 0 where
  R : (ℕ → ℕ → ℕ → Insn) → Form
  I : (ℕ → ℕ → ℤ → Insn) → Form
  Shift : (ℕ → ℕ → ℕ → Insn) → Form
  S : (ℕ → ℕ → ℤ → Insn) → Form
  B : (ℕ → ℕ → ℤ → Insn) → Form
  U : (ℕ → ℕ → Insn) → Form
  J : (ℕ → ℤ → Insn) → Form
  Bare : Insn → Form

-- one instruction: a word is the instruction's where the bits of `mask` are those of `match`
pub record Row : Type 0 where
  pub mask : ℕ
  pub match : ℕ
  pub form : Form

-- a row as a line of the table: mask, match, format and mnemonic
abbrev pub row : ℕ → ℕ → Form → Row
row mask match form = record { mask = mask; match = match; form = form }

-- the 40 rows
unfoldable pub rows : List Row
rows =
    row 0x0000007f 0x00000037 (U Lui) ∷
    row 0x0000007f 0x00000017 (U Auipc) ∷
    row 0x0000007f 0x0000006f (J Jal) ∷
    row 0x0000707f 0x00000067 (I Jalr) ∷
    row 0x0000707f 0x00000063 (B Beq) ∷
    row 0x0000707f 0x00001063 (B Bne) ∷
    row 0x0000707f 0x00004063 (B Blt) ∷
    row 0x0000707f 0x00005063 (B Bge) ∷
    row 0x0000707f 0x00006063 (B Bltu) ∷
    row 0x0000707f 0x00007063 (B Bgeu) ∷
    row 0x0000707f 0x00000003 (I Lb) ∷
    row 0x0000707f 0x00001003 (I Lh) ∷
    row 0x0000707f 0x00002003 (I Lw) ∷
    row 0x0000707f 0x00004003 (I Lbu) ∷
    row 0x0000707f 0x00005003 (I Lhu) ∷
    row 0x0000707f 0x00000023 (S Sb) ∷
    row 0x0000707f 0x00001023 (S Sh) ∷
    row 0x0000707f 0x00002023 (S Sw) ∷
    row 0x0000707f 0x00000013 (I Addi) ∷
    row 0x0000707f 0x00002013 (I Slti) ∷
    row 0x0000707f 0x00003013 (I Sltiu) ∷
    row 0x0000707f 0x00004013 (I Xori) ∷
    row 0x0000707f 0x00006013 (I Ori) ∷
    row 0x0000707f 0x00007013 (I Andi) ∷
    row 0xfe00707f 0x00001013 (Shift Slli) ∷
    row 0xfe00707f 0x00005013 (Shift Srli) ∷
    row 0xfe00707f 0x40005013 (Shift Srai) ∷
    row 0xfe00707f 0x00000033 (R Add) ∷
    row 0xfe00707f 0x40000033 (R Sub) ∷
    row 0xfe00707f 0x00001033 (R Sll) ∷
    row 0xfe00707f 0x00002033 (R Slt) ∷
    row 0xfe00707f 0x00003033 (R Sltu) ∷
    row 0xfe00707f 0x00004033 (R Xor) ∷
    row 0xfe00707f 0x00005033 (R Srl) ∷
    row 0xfe00707f 0x40005033 (R Sra) ∷
    row 0xfe00707f 0x00006033 (R Or) ∷
    row 0xfe00707f 0x00007033 (R And) ∷
    row 0x0000707f 0x0000000f (Bare Fence) ∷
    row 0xffffffff 0x00000073 (Bare Ecall) ∷
    row 0xffffffff 0x00100073 (Bare Ebreak) ∷
    []

-- the instruction that a word of this format says
abbrev pub made : Form → ℕ → Insn
made (R insn) word = insn (bits word 11 7) (bits word 19 15) (bits word 24 20)
made (I insn) word = insn (bits word 11 7) (bits word 19 15) (i_immediate word)
made (Shift insn) word = insn (bits word 11 7) (bits word 19 15) (bits word 24 20)
made (S insn) word = insn (bits word 19 15) (bits word 24 20) (s_immediate word)
made (B insn) word = insn (bits word 19 15) (bits word 24 20) (b_immediate word)
made (U insn) word = insn (bits word 11 7) (bits word 31 12)
made (J insn) word = insn (bits word 11 7) (j_immediate word)
made (Bare insn) word = insn

-- the instruction of the row that a word matches
abbrev pub found : List Row → ℕ → Option Insn
found [] word = None
found (row ∷ rest) word = if bit_and word row.mask == row.match then Some (made row.form word) else found rest word

-- the instruction that a word is, None where it is of no row
unfoldable pub insn_at : ℕ → Option Insn
insn_at word = found rows word
