-- Instructions whose operands fit their fields: the ranges of RV32I's immediates, shifts and registers.
use Rattle.std.specs.Prelude.{◌≡◌, ℕ, ◌<◌, ◌%◌, ◌^◌, ℤ, pos, negsuc, ◌≤ℤ◌, unsigned_abs}
use Rattle.rv32_decode.specs.declared.insn.Insn.{Insn}
use Rattle.rv32_decode.specs.declared.insn.Insn.TheVariants.{Add, Sub, Sll, Slt, Sltu, Xor, Srl, Sra, Or, And, Addi, Slti, Sltiu, Xori, Ori, Andi, Slli, Srli, Srai, Lb, Lh, Lw, Lbu, Lhu, Jalr, Sb, Sh, Sw, Beq, Bne, Blt, Bge, Bltu, Bgeu, Jal, Lui, Auipc, Fence, Ecall, Ebreak}

-- the number of one of the 32 registers
abbrev pub IsRegister : ℕ → Type 0
IsRegister register = register < 32

-- a signed number of 12 bits
abbrev pub IsImmediate : ℤ → Type 0
IsImmediate imm = (negsuc 2047 ≤ℤ imm) × (imm ≤ℤ pos 2047)

-- a branch's distance: a signed number of 13 bits, the lowest of them 0
abbrev pub IsBranchOffset : ℤ → Type 0
IsBranchOffset off = (negsuc 4095 ≤ℤ off) × (off ≤ℤ pos 4094) × (unsigned_abs off % 2 ≡ 0)

-- a jump's distance: a signed number of 21 bits, the lowest of them 0
abbrev pub IsJumpOffset : ℤ → Type 0
IsJumpOffset off =
    (negsuc 1048575 ≤ℤ off) × (off ≤ℤ pos 1048574) × (unsigned_abs off % 2 ≡ 0)

-- each operand of the instruction is one that its field of the word holds
abbrev pub InRange : Insn → Type 0
InRange (Add rd rs1 rs2) = IsRegister rd × IsRegister rs1 × IsRegister rs2
InRange (Sub rd rs1 rs2) = IsRegister rd × IsRegister rs1 × IsRegister rs2
InRange (Sll rd rs1 rs2) = IsRegister rd × IsRegister rs1 × IsRegister rs2
InRange (Slt rd rs1 rs2) = IsRegister rd × IsRegister rs1 × IsRegister rs2
InRange (Sltu rd rs1 rs2) = IsRegister rd × IsRegister rs1 × IsRegister rs2
InRange (Xor rd rs1 rs2) = IsRegister rd × IsRegister rs1 × IsRegister rs2
InRange (Srl rd rs1 rs2) = IsRegister rd × IsRegister rs1 × IsRegister rs2
InRange (Sra rd rs1 rs2) = IsRegister rd × IsRegister rs1 × IsRegister rs2
InRange (Or rd rs1 rs2) = IsRegister rd × IsRegister rs1 × IsRegister rs2
InRange (And rd rs1 rs2) = IsRegister rd × IsRegister rs1 × IsRegister rs2
InRange (Addi rd rs1 imm) = IsRegister rd × IsRegister rs1 × IsImmediate imm
InRange (Slti rd rs1 imm) = IsRegister rd × IsRegister rs1 × IsImmediate imm
InRange (Sltiu rd rs1 imm) = IsRegister rd × IsRegister rs1 × IsImmediate imm
InRange (Xori rd rs1 imm) = IsRegister rd × IsRegister rs1 × IsImmediate imm
InRange (Ori rd rs1 imm) = IsRegister rd × IsRegister rs1 × IsImmediate imm
InRange (Andi rd rs1 imm) = IsRegister rd × IsRegister rs1 × IsImmediate imm
InRange (Slli rd rs1 sh) = IsRegister rd × IsRegister rs1 × (sh < 32)
InRange (Srli rd rs1 sh) = IsRegister rd × IsRegister rs1 × (sh < 32)
InRange (Srai rd rs1 sh) = IsRegister rd × IsRegister rs1 × (sh < 32)
InRange (Lb rd rs1 imm) = IsRegister rd × IsRegister rs1 × IsImmediate imm
InRange (Lh rd rs1 imm) = IsRegister rd × IsRegister rs1 × IsImmediate imm
InRange (Lw rd rs1 imm) = IsRegister rd × IsRegister rs1 × IsImmediate imm
InRange (Lbu rd rs1 imm) = IsRegister rd × IsRegister rs1 × IsImmediate imm
InRange (Lhu rd rs1 imm) = IsRegister rd × IsRegister rs1 × IsImmediate imm
InRange (Jalr rd rs1 imm) = IsRegister rd × IsRegister rs1 × IsImmediate imm
InRange (Sb rs1 rs2 imm) = IsRegister rs1 × IsRegister rs2 × IsImmediate imm
InRange (Sh rs1 rs2 imm) = IsRegister rs1 × IsRegister rs2 × IsImmediate imm
InRange (Sw rs1 rs2 imm) = IsRegister rs1 × IsRegister rs2 × IsImmediate imm
InRange (Beq rs1 rs2 off) = IsRegister rs1 × IsRegister rs2 × IsBranchOffset off
InRange (Bne rs1 rs2 off) = IsRegister rs1 × IsRegister rs2 × IsBranchOffset off
InRange (Blt rs1 rs2 off) = IsRegister rs1 × IsRegister rs2 × IsBranchOffset off
InRange (Bge rs1 rs2 off) = IsRegister rs1 × IsRegister rs2 × IsBranchOffset off
InRange (Bltu rs1 rs2 off) = IsRegister rs1 × IsRegister rs2 × IsBranchOffset off
InRange (Bgeu rs1 rs2 off) = IsRegister rs1 × IsRegister rs2 × IsBranchOffset off
InRange (Jal rd off) = IsRegister rd × IsJumpOffset off
InRange (Lui rd imm) = IsRegister rd × (imm < 2 ^ 20)
InRange (Auipc rd imm) = IsRegister rd × (imm < 2 ^ 20)
InRange Fence = Unit {0}
InRange Ecall = Unit {0}
InRange Ebreak = Unit {0}
