use Rattle.std.proofs.Common.{rules}
use Rattle.cap_format.specs.declared.fault.FaultCode.TheVariants.{MalformedSyscall}
use Rattle.machine_state.specs.State.{state_of, pc_of}
use Rattle.kernel_core.specs.SystemCall.{system_call}
use Rattle.event_reach.proofs.system_calls.reach_of_call.Goals as goal

pub returns-in-None-clause-covers : goal.returns-in-None-clause-covers
unfolding system_call
returns-in-None-clause-covers g c = λ q. let fault = c.reach_of_fault.ensures q MalformedSyscall (pc_of (state_of c.args.machine.now) c.args.p) in search rules

pub returns-in-Some-Invoke-clause-covers : goal.returns-in-Some-Invoke-clause-covers
unfolding system_call
returns-in-Some-Invoke-clause-covers g c = λ q. let part = c.reach_of_invoke.ensures.covers q in search rules

pub returns-in-Some-LoadCap-clause-covers : goal.returns-in-Some-LoadCap-clause-covers
unfolding system_call
returns-in-Some-LoadCap-clause-covers g c = λ q. let part = c.reach_of_load_cap.ensures.covers q in search rules

pub returns-in-Some-StoreCap-clause-covers : goal.returns-in-Some-StoreCap-clause-covers
unfolding system_call
returns-in-Some-StoreCap-clause-covers g c = λ q. let part = c.reach_of_store_cap.ensures.covers q in search rules

pub returns-in-Some-CopyCap-clause-covers : goal.returns-in-Some-CopyCap-clause-covers
unfolding system_call
returns-in-Some-CopyCap-clause-covers g c = λ q. let part = c.reach_of_copy.ensures q in search rules
