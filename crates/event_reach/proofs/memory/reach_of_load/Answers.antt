use Rattle.std.proofs.Common.{rules}
use Rattle.cap_format.specs.declared.fault.FaultCode.TheVariants.{BadAlign}
use Rattle.kernel_core.specs.LoadStore.{load}
use Rattle.event_reach.proofs.memory.reach_of_load.Goals as goal

pub returns-then-at-from-ne0-clause-covers : goal.returns-then-at-from-ne0-clause-covers
unfolding load
returns-then-at-from-ne0-clause-covers g c = λ q signed rd. let fault = c.reach_of_fault.ensures q BadAlign c.args.at in search rules

pub returns-in-Err-clause-covers : goal.returns-in-Err-clause-covers
unfolding load
returns-in-Err-clause-covers g c = λ q signed rd. let fault = c.reach_of_fault-in-Err.ensures q c.in-Err.why.code c.args.at in search rules
