use Rattle.std.proofs.Common.{rules}
use Rattle.cap_format.specs.declared.fault.FaultCode.TheVariants.{BadOpcode}
use Rattle.machine_state.specs.State.{state_of, pc_of}
use Rattle.event_reach.proofs.instructions.reach_of_word.Goals as goal

pub returns-in-Ok-clause-covers : goal.returns-in-Ok-clause-covers
returns-in-Ok-clause-covers g c = λ q. let part = c.reach_of_effect.ensures.covers q in search rules

pub returns-in-Err-clause-covers : goal.returns-in-Err-clause-covers
returns-in-Err-clause-covers g c = λ q. let fault = c.reach_of_fault.ensures q BadOpcode (pc_of (state_of c.args.machine.now) c.args.p) in search rules
