use Rattle.std.proofs.Common.{rules}
use Rattle.cap_format.specs.declared.fault.FaultCode.TheVariants.{MalformedSyscall}
use Rattle.machine_state.specs.State.{state_of, pc_of}
use Rattle.kernel_core.specs.SystemCall.{copy_cap}
use Rattle.event_reach.proofs.system_calls.reach_of_copy.Goals as goal

pub returns-else-from-le31 : goal.returns-else-from-le31
unfolding copy_cap
returns-else-from-le31 g c = λ q. let fault = c.reach_of_fault.ensures q MalformedSyscall (pc_of (state_of c.args.machine.now) c.args.p) in search rules
