use Rattle.std.proofs.Common.{rules}
use Rattle.kernel_core.specs.SystemCall.{send}
use Rattle.event_reach.proofs.invoking.reach_of_send.Goals as goal

pub returns-in-Kernel-clause-covers : goal.returns-in-Kernel-clause-covers
unfolding send
returns-in-Kernel-clause-covers g c = λ q. let done = c.reach_of_operation.ensures.covers q in search rules

pub returns-in-Open-clause-covers : goal.returns-in-Open-clause-covers
unfolding send
returns-in-Open-clause-covers g c = λ q. let told = c.reach_of_message.ensures.covers q in search rules
