-- What the code's mnemonics stand for: each the form of its line, and the instruction that its operands make.
use Rattle.std.specs.Prelude.{ℕ, ℤ}
use Rattle.rv32_decode.specs.declared.insn.Insn.{Insn}
use Rattle.rv32_decode.specs.declared.insn.Insn.TheVariants as insns
use Rattle.rv32_asm.specs.Forms.{Form, Registers, Immediate, Shift, Load, Store, Branch, Jump, Upper, Bare}
use Rattle.rv32_asm.specs.declared.arithmetic.RegisterOp.{RegisterOp}
use Rattle.rv32_asm.specs.declared.arithmetic.RegisterOp.TheVariants.{Add, Sub, Sll, Slt, Sltu, Xor, Srl, Sra, Or, And}
use Rattle.rv32_asm.specs.declared.arithmetic.ImmediateOp.{ImmediateOp}
use Rattle.rv32_asm.specs.declared.arithmetic.ImmediateOp.TheVariants.{Addi, Slti, Sltiu, Xori, Ori, Andi}
use Rattle.rv32_asm.specs.declared.arithmetic.ShiftOp.{ShiftOp}
use Rattle.rv32_asm.specs.declared.arithmetic.ShiftOp.TheVariants.{Slli, Srli, Srai}
use Rattle.rv32_asm.specs.declared.addressed.LoadOp.{LoadOp}
use Rattle.rv32_asm.specs.declared.addressed.LoadOp.TheVariants.{Lb, Lh, Lw, Lbu, Lhu, Jalr}
use Rattle.rv32_asm.specs.declared.addressed.StoreOp.{StoreOp}
use Rattle.rv32_asm.specs.declared.addressed.StoreOp.TheVariants.{Sb, Sh, Sw}
use Rattle.rv32_asm.specs.declared.control.BranchOp.{BranchOp}
use Rattle.rv32_asm.specs.declared.control.BranchOp.TheVariants.{Beq, Bne, Blt, Bge, Bltu, Bgeu}
use Rattle.rv32_asm.specs.declared.arithmetic.UpperOp.{UpperOp}
use Rattle.rv32_asm.specs.declared.arithmetic.UpperOp.TheVariants.{Lui, Auipc}
use Rattle.rv32_asm.specs.declared.control.BareOp.{BareOp}
use Rattle.rv32_asm.specs.declared.control.BareOp.TheVariants.{Fence, Ecall, Ebreak}
use Rattle.rv32_asm.specs.declared.mnemonic.Mnemonic.{Mnemonic}
use Rattle.rv32_asm.specs.declared.mnemonic.Mnemonic.TheVariants as mnemonics

-- the instruction of a mnemonic that three registers follow
abbrev pub register_insn : RegisterOp → ℕ → ℕ → ℕ → Insn
register_insn Add = insns.Add
register_insn Sub = insns.Sub
register_insn Sll = insns.Sll
register_insn Slt = insns.Slt
register_insn Sltu = insns.Sltu
register_insn Xor = insns.Xor
register_insn Srl = insns.Srl
register_insn Sra = insns.Sra
register_insn Or = insns.Or
register_insn And = insns.And

-- of one that two registers and an immediate follow
abbrev pub immediate_insn : ImmediateOp → ℕ → ℕ → ℤ → Insn
immediate_insn Addi = insns.Addi
immediate_insn Slti = insns.Slti
immediate_insn Sltiu = insns.Sltiu
immediate_insn Xori = insns.Xori
immediate_insn Ori = insns.Ori
immediate_insn Andi = insns.Andi

-- of one that two registers and a distance in bits follow
abbrev pub shift_insn : ShiftOp → ℕ → ℕ → ℕ → Insn
shift_insn Slli = insns.Slli
shift_insn Srli = insns.Srli
shift_insn Srai = insns.Srai

-- of one that a register and an address follow
abbrev pub load_insn : LoadOp → ℕ → ℕ → ℤ → Insn
load_insn Lb = insns.Lb
load_insn Lh = insns.Lh
load_insn Lw = insns.Lw
load_insn Lbu = insns.Lbu
load_insn Lhu = insns.Lhu
load_insn Jalr = insns.Jalr

-- of one that a register which is stored and an address follow
abbrev pub store_insn : StoreOp → ℕ → ℕ → ℤ → Insn
store_insn Sb = insns.Sb
store_insn Sh = insns.Sh
store_insn Sw = insns.Sw

-- of one that two registers and a distance in bytes follow
abbrev pub branch_insn : BranchOp → ℕ → ℕ → ℤ → Insn
branch_insn Beq = insns.Beq
branch_insn Bne = insns.Bne
branch_insn Blt = insns.Blt
branch_insn Bge = insns.Bge
branch_insn Bltu = insns.Bltu
branch_insn Bgeu = insns.Bgeu

-- of one that a register and an upper immediate follow
abbrev pub upper_insn : UpperOp → ℕ → ℕ → Insn
upper_insn Lui = insns.Lui
upper_insn Auipc = insns.Auipc

-- of one that nothing follows
abbrev pub bare_insn : BareOp → Insn
bare_insn Fence = insns.Fence
bare_insn Ecall = insns.Ecall
bare_insn Ebreak = insns.Ebreak

-- the form of a mnemonic's line
abbrev pub form_meant : Mnemonic → Form
form_meant (mnemonics.Registers op) = Registers (register_insn op)
form_meant (mnemonics.Immediate op) = Immediate (immediate_insn op)
form_meant (mnemonics.Shift op) = Shift (shift_insn op)
form_meant (mnemonics.Load op) = Load (load_insn op)
form_meant (mnemonics.Store op) = Store (store_insn op)
form_meant (mnemonics.Branch op) = Branch (branch_insn op)
form_meant (mnemonics.Upper op) = Upper (upper_insn op)
form_meant mnemonics.Jump = Jump insns.Jal
form_meant (mnemonics.Bare op) = Bare (bare_insn op)
