-- What one instruction leaves: the effect that remains to be done, and the registers.
use Rattle.std.specs.Prelude.{ℕ, List, Bool, if◌then◌else◌}
use Rattle.rv32_decode.specs.declared.insn.Insn.{Insn}
use Rattle.rv32_user.specs.declared.effect.Effect.{Effect}
use Rattle.rv32_user.specs.declared.effect.Effect.TheVariants.{Next}
use Rattle.rv32_user.specs.declared.action.Action.{Action}
use Rattle.rv32_user.specs.declared.action.Action.TheVariants.{Write, Link, Only}
use Rattle.rv32_user.specs.Word.{extended, is_aligned, next_of}
use Rattle.rv32_user.specs.Registers.{with_register}
use Rattle.rv32_user.specs.Table.{action_of, arrival}

-- the effect of an action at `pc`
abbrev pub effect_in : ℕ → Action → Effect
effect_in pc (Write rd value) = Next (next_of pc)
effect_in pc (Link rd target) = arrival target
effect_in pc (Only effect) = effect

-- the registers after an action at `pc`: a jump that goes nowhere links nothing
abbrev pub registers_in : List ℕ → ℕ → Action → List ℕ
registers_in x pc (Write rd value) = with_register x rd value
registers_in x pc (Link rd target) =
    if is_aligned target then with_register x rd (next_of pc) else x
registers_in x pc (Only effect) = x

-- the effect of the instruction at `pc` over the registers `x`
unfoldable pub effect_of : List ℕ → ℕ → Insn → Effect
effect_of x pc insn = effect_in pc (action_of x pc insn)

-- the registers after the instruction at `pc` over the registers `x`
unfoldable pub registers_after : List ℕ → ℕ → Insn → List ℕ
registers_after x pc insn = registers_in x pc (action_of x pc insn)

-- the registers after a load that read this value of so many bytes
unfoldable pub loaded : List ℕ → ℕ → ℕ → Bool → ℕ → List ℕ
loaded x rd size is_signed value = with_register x rd (extended size is_signed value)
