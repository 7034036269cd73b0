use Rattle.std.proofs.Common.{rules}
use Rattle.cap_format.specs.Capability.{bare}
use Rattle.kernel_core.specs.KernelOperation.{kernel_op}
use Rattle.event_reach.proofs.operating.reach_of_operation.Goals as goal

pub returns-in-KernLog-clause-covers : goal.returns-in-KernLog-clause-covers
unfolding kernel_op
returns-in-KernLog-clause-covers g c = λ q. let logged = c.reach_of_log.ensures.covers q (bare c.args.cap) in search rules

pub returns-else-is_memory-clause-covers : goal.returns-else-is_memory-clause-covers
unfolding kernel_op
returns-else-is_memory-clause-covers g c = λ q. let done = c.reach_of_control.ensures q in search rules
