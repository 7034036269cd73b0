-- One instruction of a process: what the instruction table leaves to be done, done.
use Rattle.std.specs.Prelude.{ℕ, None}
use Rattle.cap_format.specs.declared.fault.FaultCode.TheVariants.{Breakpoint}
use Rattle.rv32_decode.specs.declared.insn.Insn.{Insn}
use Rattle.rv32_user.specs.declared.effect.Effect.{Effect}
use Rattle.rv32_user.specs.declared.effect.Effect.TheVariants.{Next, Load, Store, Syscall, Break, Misaligned}
use Rattle.rv32_user.specs.Step.{effect_of, registers_after}
use Rattle.machine_state.specs.State.{State, process, pc_of}
use Rattle.machine_state.specs.Setters.{set_pc, set_registers}
use Rattle.machine_state.specs.Outcome.{Outcome, done}
use Rattle.messages.specs.Fault.{fault, misaligned}
use Rattle.kernel_core.specs.LoadStore.{load, store}
use Rattle.kernel_core.specs.SystemCall.{system_call}

-- what an instruction comes to by its effect (RV32I; faults are Coyotos's)
abbrev pub performed : State → ℕ → Insn → Effect → Outcome
performed s p insn (Next pc) =
    done (set_pc (set_registers s p (registers_after (process s p).regs (pc_of s p) insn)) p pc)
performed s p insn (Load at size signed rd) = load s p at size signed rd
performed s p insn (Store at size value) = store s p at size value
performed s p insn Syscall = system_call s p
performed s p insn Break = fault s p Breakpoint (pc_of s p) None
performed s p insn (Misaligned target) = misaligned s p target

-- the instruction of a process
unfoldable pub perform : State → ℕ → Insn → Outcome
perform s p insn = performed s p insn (effect_of (process s p).regs (pc_of s p) insn)
