-- The instructions of RV32I (RISC-V Unprivileged ISA, "RV32/64G Instruction Set Listings"): what each
-- does, row by row in the order of `Insn`.
use Rattle.std.specs.Prelude.{ℕ, ◌*◌, ◌/◌, ◌^◌, ◌<◌, List, Bool, true, false, not, ℤ, nat_lt, nat_le, int_lt, int_le, ◌==◌, bit_and, bit_or, bit_xor, if◌then◌else◌}
use Rattle.rv32_decode.specs.declared.insn.Insn.{Insn}
use Rattle.rv32_decode.specs.declared.insn.Insn.TheVariants.{Add, Sub, Sll, Slt, Sltu, Xor, Srl, Sra, Or, And, Addi, Slti, Sltiu, Xori, Ori, Andi, Slli, Srli, Srai, Lb, Lh, Lw, Lbu, Lhu, Jalr, Sb, Sh, Sw, Beq, Bne, Blt, Bge, Bltu, Bgeu, Jal, Lui, Auipc, Fence, Ecall, Ebreak}
use Rattle.rv32_user.specs.declared.effect.Effect.{Effect}
use Rattle.rv32_user.specs.declared.effect.Effect.TheVariants.{Next, Load, Store, Syscall, Break, Misaligned}
use Rattle.rv32_user.specs.declared.action.Action.{Action}
use Rattle.rv32_user.specs.declared.action.Action.TheVariants.{Write, Link, Only}
use Rattle.rv32_user.specs.Word.{word_of, signed_word, plus, sum_of, difference_of, shifted_left, shifted_right, shifted_right_signed, flag, low_bytes, is_aligned, next_of}
use Rattle.rv32_user.specs.Registers.{register}

-- going to an address: an instruction stands only at a multiple of 4
abbrev pub arrival : ℕ → Effect
arrival target = if is_aligned target then Next target else Misaligned target

-- a branch goes by its offset where the test holds, and else on
abbrev pub branch : ℕ → ℤ → Bool → Effect
branch pc off test = if test then arrival (plus pc off) else Next (next_of pc)

-- what the instruction at `pc` does with the registers `x`
unfoldable pub action_of : List ℕ → ℕ → Insn → Action
action_of x pc (Add rd rs1 rs2) = Write rd (sum_of (register x rs1) (register x rs2))
action_of x pc (Sub rd rs1 rs2) = Write rd (difference_of (register x rs1) (register x rs2))
action_of x pc (Sll rd rs1 rs2) = Write rd (shifted_left (register x rs1) (register x rs2))
action_of x pc (Slt rd rs1 rs2) =
    Write rd (flag (int_lt (signed_word (register x rs1)) (signed_word (register x rs2))))
action_of x pc (Sltu rd rs1 rs2) = Write rd (flag (nat_lt (register x rs1) (register x rs2)))
action_of x pc (Xor rd rs1 rs2) = Write rd (bit_xor (register x rs1) (register x rs2))
action_of x pc (Srl rd rs1 rs2) = Write rd (shifted_right (register x rs1) (register x rs2))
action_of x pc (Sra rd rs1 rs2) = Write rd (shifted_right_signed (register x rs1) (register x rs2))
action_of x pc (Or rd rs1 rs2) = Write rd (bit_or (register x rs1) (register x rs2))
action_of x pc (And rd rs1 rs2) = Write rd (bit_and (register x rs1) (register x rs2))
action_of x pc (Addi rd rs1 imm) = Write rd (plus (register x rs1) imm)
action_of x pc (Slti rd rs1 imm) = Write rd (flag (int_lt (signed_word (register x rs1)) imm))
action_of x pc (Sltiu rd rs1 imm) = Write rd (flag (nat_lt (register x rs1) (word_of imm)))
action_of x pc (Xori rd rs1 imm) = Write rd (bit_xor (register x rs1) (word_of imm))
action_of x pc (Ori rd rs1 imm) = Write rd (bit_or (register x rs1) (word_of imm))
action_of x pc (Andi rd rs1 imm) = Write rd (bit_and (register x rs1) (word_of imm))
action_of x pc (Slli rd rs1 sh) = Write rd (shifted_left (register x rs1) sh)
action_of x pc (Srli rd rs1 sh) = Write rd (shifted_right (register x rs1) sh)
action_of x pc (Srai rd rs1 sh) = Write rd (shifted_right_signed (register x rs1) sh)
action_of x pc (Lb rd rs1 imm) = Only (Load (plus (register x rs1) imm) 1 true rd)
action_of x pc (Lh rd rs1 imm) = Only (Load (plus (register x rs1) imm) 2 true rd)
action_of x pc (Lw rd rs1 imm) = Only (Load (plus (register x rs1) imm) 4 true rd)
action_of x pc (Lbu rd rs1 imm) = Only (Load (plus (register x rs1) imm) 1 false rd)
action_of x pc (Lhu rd rs1 imm) = Only (Load (plus (register x rs1) imm) 2 false rd)
action_of x pc (Jalr rd rs1 imm) = Link rd (plus (register x rs1) imm / 2 * 2)
action_of x pc (Sb rs1 rs2 imm) =
    Only (Store (plus (register x rs1) imm) 1 (low_bytes 1 (register x rs2)))
action_of x pc (Sh rs1 rs2 imm) =
    Only (Store (plus (register x rs1) imm) 2 (low_bytes 2 (register x rs2)))
action_of x pc (Sw rs1 rs2 imm) =
    Only (Store (plus (register x rs1) imm) 4 (low_bytes 4 (register x rs2)))
action_of x pc (Beq rs1 rs2 off) = Only (branch pc off (register x rs1 == register x rs2))
action_of x pc (Bne rs1 rs2 off) = Only (branch pc off (not (register x rs1 == register x rs2)))
action_of x pc (Blt rs1 rs2 off) =
    Only (branch pc off (int_lt (signed_word (register x rs1)) (signed_word (register x rs2))))
action_of x pc (Bge rs1 rs2 off) =
    Only (branch pc off (int_le (signed_word (register x rs2)) (signed_word (register x rs1))))
action_of x pc (Bltu rs1 rs2 off) = Only (branch pc off (nat_lt (register x rs1) (register x rs2)))
action_of x pc (Bgeu rs1 rs2 off) = Only (branch pc off (nat_le (register x rs2) (register x rs1)))
action_of x pc (Jal rd off) = Link rd (plus pc off)
action_of x pc (Lui rd imm) = Write rd (imm * 2 ^ 12)
action_of x pc (Auipc rd imm) = Write rd (sum_of pc (imm * 2 ^ 12))
action_of x pc Fence = Only (Next (next_of pc))
action_of x pc Ecall = Only Syscall
action_of x pc Ebreak = Only Break

-- an action writes one of the 32 registers
abbrev pub IsAction : Action → Type 0
IsAction (Write rd value) = rd < 32
IsAction (Link rd target) = rd < 32
IsAction (Only effect) = Unit {0}
