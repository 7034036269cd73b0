-- Facts about every step, for the crates above.
use Rattle.std.proofs.Common.{◌≡◌, ℕ, ◌%◌, List, Bool, true, false, ℤ, refl, arith, inl, inr}
use Rattle.std.specs.Prelude.{if◌then◌else◌}
use Rattle.std.proofs.lemmas.Bool.Decides.{eqb_tells}
use Rattle.rv32_decode.specs.declared.insn.Insn.{Insn}
use Rattle.rv32_decode.specs.declared.insn.Insn.TheVariants.{Lb, Lh, Lw, Lbu, Lhu, Jalr, Sb, Sh, Sw, Beq, Bne, Blt, Bge, Bltu, Bgeu, Jal, Ecall, Ebreak}
use Rattle.rv32_decode.specs.InRange.{InRange}
use Rattle.rv32_user.specs.declared.effect.Effect.{Effect}
use Rattle.rv32_user.specs.declared.effect.Effect.TheVariants.{Next, Load, Store, Syscall, Break, Misaligned}
use Rattle.rv32_user.specs.declared.action.Action.{Action}
use Rattle.rv32_user.specs.declared.action.Action.TheVariants.{Write, Link, Only}
use Rattle.rv32_user.specs.Word.{plus, next_of, is_aligned}
use Rattle.rv32_user.specs.Registers.{with_register}
use Rattle.rv32_user.specs.Table.{action_of, arrival, branch}
use Rattle.rv32_user.specs.Step.{effect_in, registers_in, effect_of, registers_after}
use Rattle.rv32_user.specs.Answers.{IsEffect, IsAlignedNext, ChangesOnlyAtNext, ComesFrom}

-- what holds of both ends of a choice holds of the chosen one
choice : (P : Effect → Type 0) (test : Bool) (taken passed : Effect) → P taken → P passed →
    P (if test then taken else passed)
choice P true taken passed at_taken at_passed = at_taken
choice P false taken passed at_taken at_passed = at_passed

-- arriving at an address
arrival-IsEffect : (target : ℕ) → IsEffect (arrival target)
arrival-IsEffect target = elim (eqb_tells (target % 4) 0) [ inl at ↦ rw at.0 tt | inr off ↦ rw off.0 off.1 ]

arrival-aligned : (target : ℕ) → IsAlignedNext (arrival target)
arrival-aligned target = elim (eqb_tells (target % 4) 0) [ inl at ↦ rw at.0 at.1 | inr off ↦ rw off.0 tt ]

-- the next instruction's address is a multiple of 4 where this one's is
next_of-aligned : (pc : ℕ) → pc % 4 ≡ 0 → next_of pc % 4 ≡ 0
next_of-aligned pc aligned = omega arith

-- a branch, taken or not
branch-IsEffect : (pc : ℕ) (off : ℤ) (test : Bool) → IsEffect (branch pc off test)
branch-IsEffect pc off test =
    choice IsEffect test (arrival (plus pc off)) (Next (next_of pc)) (arrival-IsEffect (plus pc off)) tt

branch-aligned : (pc : ℕ) (off : ℤ) (test : Bool) → pc % 4 ≡ 0 → IsAlignedNext (branch pc off test)
branch-aligned pc off test aligned =
    choice IsAlignedNext test (arrival (plus pc off)) (Next (next_of pc))
    (arrival-aligned (plus pc off)) (next_of-aligned pc aligned)

-- the effect of an instruction whose operands are in their ranges keeps to its parts' ranges
pub IsEffect-effect_of : (x : List ℕ) (pc : ℕ) (insn : Insn) →
    InRange insn → IsEffect (effect_of x pc insn)
unfolding effect_of action_of
IsEffect-effect_of x pc (Lb rd rs1 imm) range = (inl refl, range.0)
IsEffect-effect_of x pc (Lh rd rs1 imm) range = (inr (inl refl), range.0)
IsEffect-effect_of x pc (Lw rd rs1 imm) range = (inr (inr refl), range.0)
IsEffect-effect_of x pc (Lbu rd rs1 imm) range = (inl refl, range.0)
IsEffect-effect_of x pc (Lhu rd rs1 imm) range = (inr (inl refl), range.0)
IsEffect-effect_of x pc (Jalr rd rs1 imm) range = arrival-IsEffect _
IsEffect-effect_of x pc (Sb rs1 rs2 imm) range = (inl refl, omega arith)
IsEffect-effect_of x pc (Sh rs1 rs2 imm) range = (inr (inl refl), omega arith)
IsEffect-effect_of x pc (Sw rs1 rs2 imm) range = (inr (inr refl), omega arith)
IsEffect-effect_of x pc (Beq rs1 rs2 off) range = branch-IsEffect pc off _
IsEffect-effect_of x pc (Bne rs1 rs2 off) range = branch-IsEffect pc off _
IsEffect-effect_of x pc (Blt rs1 rs2 off) range = branch-IsEffect pc off _
IsEffect-effect_of x pc (Bge rs1 rs2 off) range = branch-IsEffect pc off _
IsEffect-effect_of x pc (Bltu rs1 rs2 off) range = branch-IsEffect pc off _
IsEffect-effect_of x pc (Bgeu rs1 rs2 off) range = branch-IsEffect pc off _
IsEffect-effect_of x pc (Jal rd off) range = arrival-IsEffect _
IsEffect-effect_of x pc _ range = tt

-- a program at a multiple of 4 goes on at a multiple of 4
pub IsAlignedNext-effect_of : (x : List ℕ) (pc : ℕ) (insn : Insn) →
    pc % 4 ≡ 0 → IsAlignedNext (effect_of x pc insn)
unfolding effect_of action_of
IsAlignedNext-effect_of x pc (Lb rd rs1 imm) aligned = tt
IsAlignedNext-effect_of x pc (Lh rd rs1 imm) aligned = tt
IsAlignedNext-effect_of x pc (Lw rd rs1 imm) aligned = tt
IsAlignedNext-effect_of x pc (Lbu rd rs1 imm) aligned = tt
IsAlignedNext-effect_of x pc (Lhu rd rs1 imm) aligned = tt
IsAlignedNext-effect_of x pc (Jalr rd rs1 imm) aligned = arrival-aligned _
IsAlignedNext-effect_of x pc (Sb rs1 rs2 imm) aligned = tt
IsAlignedNext-effect_of x pc (Sh rs1 rs2 imm) aligned = tt
IsAlignedNext-effect_of x pc (Sw rs1 rs2 imm) aligned = tt
IsAlignedNext-effect_of x pc (Beq rs1 rs2 off) aligned = branch-aligned pc off _ aligned
IsAlignedNext-effect_of x pc (Bne rs1 rs2 off) aligned = branch-aligned pc off _ aligned
IsAlignedNext-effect_of x pc (Blt rs1 rs2 off) aligned = branch-aligned pc off _ aligned
IsAlignedNext-effect_of x pc (Bge rs1 rs2 off) aligned = branch-aligned pc off _ aligned
IsAlignedNext-effect_of x pc (Bltu rs1 rs2 off) aligned = branch-aligned pc off _ aligned
IsAlignedNext-effect_of x pc (Bgeu rs1 rs2 off) aligned = branch-aligned pc off _ aligned
IsAlignedNext-effect_of x pc (Jal rd off) aligned = arrival-aligned _
IsAlignedNext-effect_of x pc Ecall aligned = tt
IsAlignedNext-effect_of x pc Ebreak aligned = tt
IsAlignedNext-effect_of x pc _ aligned = next_of-aligned pc aligned

-- jumps and branches call no system
arrival-ComesFrom : (insn : Insn) (target : ℕ) → ComesFrom insn (arrival target)
arrival-ComesFrom insn target = choice (ComesFrom insn) (is_aligned target) (Next target) (Misaligned target) tt tt

branch-ComesFrom : (insn : Insn) (pc : ℕ) (off : ℤ) (test : Bool) → ComesFrom insn (branch pc off test)
branch-ComesFrom insn pc off test =
    choice (ComesFrom insn) test (arrival (plus pc off)) (Next (next_of pc)) (arrival-ComesFrom insn (plus pc off)) tt

-- only ECALL is a system call, and only EBREAK a break
pub ComesFrom-effect_of : (x : List ℕ) (pc : ℕ) (insn : Insn) → ComesFrom insn (effect_of x pc insn)
unfolding effect_of action_of
ComesFrom-effect_of x pc (Jalr rd rs1 imm) = arrival-ComesFrom (Jalr rd rs1 imm) _
ComesFrom-effect_of x pc (Beq rs1 rs2 off) = branch-ComesFrom (Beq rs1 rs2 off) pc off _
ComesFrom-effect_of x pc (Bne rs1 rs2 off) = branch-ComesFrom (Bne rs1 rs2 off) pc off _
ComesFrom-effect_of x pc (Blt rs1 rs2 off) = branch-ComesFrom (Blt rs1 rs2 off) pc off _
ComesFrom-effect_of x pc (Bge rs1 rs2 off) = branch-ComesFrom (Bge rs1 rs2 off) pc off _
ComesFrom-effect_of x pc (Bltu rs1 rs2 off) = branch-ComesFrom (Bltu rs1 rs2 off) pc off _
ComesFrom-effect_of x pc (Bgeu rs1 rs2 off) = branch-ComesFrom (Bgeu rs1 rs2 off) pc off _
ComesFrom-effect_of x pc (Jal rd off) = arrival-ComesFrom (Jal rd off) _
ComesFrom-effect_of x pc Ecall = refl
ComesFrom-effect_of x pc Ebreak = refl
ComesFrom-effect_of x pc _ = tt

-- registers that no action touched are as before, whatever the effect
unchanged_by : (x : List ℕ) (effect : Effect) → ChangesOnlyAtNext effect x x
unchanged_by x (Next pc) = tt
unchanged_by x (Load at size signed rd) = refl
unchanged_by x (Store at size value) = refl
unchanged_by x Syscall = refl
unchanged_by x Break = refl
unchanged_by x (Misaligned target) = refl

-- an action changes registers only where the program goes on
kept_by : (x : List ℕ) (pc : ℕ) (action : Action) →
    ChangesOnlyAtNext (effect_in pc action) x (registers_in x pc action)
kept_by x pc (Write rd value) = tt
kept_by x pc (Link rd target) =
    elim (is_aligned target)
    as (λ v. ChangesOnlyAtNext (if v then Next target else Misaligned target) x
    (if v then with_register x rd (next_of pc) else x))
    [ true ↦ tt | false ↦ refl ]
kept_by x pc (Only effect) = unchanged_by x effect

-- the registers are as before unless the instruction is over
pub ChangesOnlyAtNext-effect_of : (x : List ℕ) (pc : ℕ) (insn : Insn) →
    ChangesOnlyAtNext (effect_of x pc insn) x (registers_after x pc insn)
unfolding effect_of registers_after
ChangesOnlyAtNext-effect_of x pc insn = kept_by x pc (action_of x pc insn)
