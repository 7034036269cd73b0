-- What every effect keeps to, whatever the instruction.
use Rattle.std.specs.Prelude.{◌≡◌, ◌≢◌, ℕ, ◌*◌, ◌%◌, ◌^◌, ◌<◌, List}
use Rattle.rv32_decode.specs.declared.insn.Insn.{Insn}
use Rattle.rv32_decode.specs.declared.insn.Insn.TheVariants.{Ecall, Ebreak}
use Rattle.rv32_user.specs.declared.effect.Effect.{Effect}
use Rattle.rv32_user.specs.declared.effect.Effect.TheVariants.{Next, Load, Store, Syscall, Break, Misaligned}
use Rattle.rv32_user.specs.Size.{IsSize}

-- a load names a register, loads and stores have a size, a stored value fits its size, and an address
-- that is reported as misaligned is no multiple of 4
abbrev pub IsEffect : Effect → Type 0
IsEffect (Next pc) = Unit {0}
IsEffect (Load at size signed rd) = IsSize size × (rd < 32)
IsEffect (Store at size value) = IsSize size × (value < 2 ^ (8 * size))
IsEffect Syscall = Unit {0}
IsEffect Break = Unit {0}
IsEffect (Misaligned target) = target % 4 ≢ 0

-- where the program goes on, it does at a multiple of 4
abbrev pub IsAlignedNext : Effect → Type 0
IsAlignedNext (Next pc) = pc % 4 ≡ 0
IsAlignedNext (Load at size signed rd) = Unit {0}
IsAlignedNext (Store at size value) = Unit {0}
IsAlignedNext Syscall = Unit {0}
IsAlignedNext Break = Unit {0}
IsAlignedNext (Misaligned target) = Unit {0}

-- only an instruction that is over has changed registers
abbrev pub ChangesOnlyAtNext : Effect → List ℕ → List ℕ → Type 0
ChangesOnlyAtNext (Next pc) old new = Unit {0}
ChangesOnlyAtNext (Load at size signed rd) old new = new ≡ old
ChangesOnlyAtNext (Store at size value) old new = new ≡ old
ChangesOnlyAtNext Syscall old new = new ≡ old
ChangesOnlyAtNext Break old new = new ≡ old
ChangesOnlyAtNext (Misaligned target) old new = new ≡ old

-- a system call and a break come from their own instructions alone
abbrev pub ComesFrom : Insn → Effect → Type 0
ComesFrom insn (Next pc) = Unit {0}
ComesFrom insn (Load at size signed rd) = Unit {0}
ComesFrom insn (Store at size value) = Unit {0}
ComesFrom insn Syscall = insn ≡ Ecall
ComesFrom insn Break = insn ≡ Ebreak
ComesFrom insn (Misaligned target) = Unit {0}
