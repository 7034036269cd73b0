use Rattle.std.proofs.Common.{rules}
use Rattle.cap_format.specs.declared.fault.FaultCode.TheVariants.{BadAlign, MalformedSyscall}
use Rattle.machine_state.specs.State.{state_of, pc_of}
use Rattle.kernel_core.specs.CapTransfer.{load_cap}
use Rattle.event_reach.proofs.memory.reach_of_load_cap.Goals as goal

pub returns-then-to-gt31-clause-covers : goal.returns-then-to-gt31-clause-covers
unfolding load_cap
returns-then-to-gt31-clause-covers g c = λ q. let fault = c.reach_of_fault.ensures q MalformedSyscall (pc_of (state_of c.args.machine.now) c.args.p) in search rules

pub returns-then-at-ne0-clause-covers : goal.returns-then-at-ne0-clause-covers
unfolding load_cap
returns-then-at-ne0-clause-covers g c = λ q. let fault = c.reach_of_fault-then-at-ne0.ensures q BadAlign c.args.at in search rules

pub returns-in-Err-clause-covers : goal.returns-in-Err-clause-covers
unfolding load_cap
returns-in-Err-clause-covers g c = λ q. let fault = c.reach_of_fault-in-Err.ensures q c.in-Err.why.code c.args.at in search rules
