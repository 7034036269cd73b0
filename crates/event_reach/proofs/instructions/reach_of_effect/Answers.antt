use Rattle.std.proofs.Common.{rules}
use Rattle.cap_format.specs.declared.fault.FaultCode.TheVariants.{Breakpoint, BadAlign}
use Rattle.machine_state.specs.State.{state_of, pc_of}
use Rattle.kernel_core.specs.Instruction.{perform}
use Rattle.event_reach.proofs.instructions.reach_of_effect.Goals as goal

pub returns-in-Load-clause-covers : goal.returns-in-Load-clause-covers
unfolding perform
returns-in-Load-clause-covers g c = λ q. let part = c.reach_of_load.ensures.covers q c.in-Load.signed c.in-Load.rd in search rules

pub returns-in-Store-clause-covers : goal.returns-in-Store-clause-covers
unfolding perform
returns-in-Store-clause-covers g c = λ q. let part = c.reach_of_store.ensures.covers q c.in-Store.value in search rules

pub returns-in-Syscall-clause-covers : goal.returns-in-Syscall-clause-covers
unfolding perform
returns-in-Syscall-clause-covers g c = λ q. let part = c.reach_of_call.ensures.covers q in search rules

pub returns-in-Break-clause-covers : goal.returns-in-Break-clause-covers
unfolding perform
returns-in-Break-clause-covers g c = λ q. let fault = c.reach_of_fault.ensures q Breakpoint (pc_of (state_of c.args.machine.now) c.args.p) in search rules

pub returns-in-Misaligned-clause-covers : goal.returns-in-Misaligned-clause-covers
unfolding perform
returns-in-Misaligned-clause-covers g c = λ q. let fault = c.reach_of_fault-in-Misaligned.ensures q BadAlign c.in-Misaligned.field-0 in search rules
