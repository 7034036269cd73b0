use Rattle.std.proofs.Common.{rules}
use Rattle.cap_format.specs.declared.fault.FaultCode.TheVariants.{MalformedSyscall}
use Rattle.machine_state.specs.State.{state_of, pc_of}
use Rattle.machine_state.specs.Setters.{set_queues}
use Rattle.kernel_core.specs.SystemCall.{send, invoke}
use Rattle.event_reach.specs.Reach.{names_of}
use Rattle.event_reach.proofs.Covering.{covers_received}
use Rattle.event_reach.proofs.invoking.reach_of_invoke.Goals as goal

pub returns-in-Err-clause-covers : goal.returns-in-Err-clause-covers
unfolding invoke
returns-in-Err-clause-covers g c = λ q. let fault = c.reach_of_fault.ensures q MalformedSyscall (pc_of (state_of c.args.machine.now) c.args.p) in search rules

pub returns-then-send-clause-covers : goal.returns-then-send-clause-covers
unfolding invoke
returns-then-send-clause-covers g c = λ q. let all = covers_received (names_of c.reach_of_send.result) c.args.p c.in-Ok.inv (send (set_queues (state_of c.args.machine.now) q) c.args.p c.in-Ok.inv) (c.reach_of_send.ensures.covers q) in search rules
