use Rattle.std.proofs.Common.{rules}
use Rattle.machine_state.specs.State.{state_of, pc_of}
use Rattle.kernel_core.specs.Event.{instruction}
use Rattle.event_reach.proofs.Covering.{covers_process}
use Rattle.event_reach.proofs.instructions.reach_of_instruction.Goals as goal

pub returns-in-Ok-clause-covers : goal.returns-in-Ok-clause-covers
unfolding instruction
returns-in-Ok-clause-covers g c = λ q. let part = c.reach_of_word.ensures.covers q in search (rules, covers_process)

pub returns-in-Err-clause-covers : goal.returns-in-Err-clause-covers
unfolding instruction
returns-in-Err-clause-covers g c = λ q. let fault = c.reach_of_fault.ensures q c.in-Err.why.code (pc_of (state_of c.args.machine.now) c.args.p) in search (rules, covers_process)
