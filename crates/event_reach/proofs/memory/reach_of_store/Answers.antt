use Rattle.std.proofs.Common.{rules}
use Rattle.cap_format.specs.declared.fault.FaultCode.TheVariants.{BadAlign}
use Rattle.kernel_core.specs.LoadStore.{store}
use Rattle.event_reach.proofs.memory.reach_of_store.Goals as goal

pub returns-then-at-from-ne0-clause-covers : goal.returns-then-at-from-ne0-clause-covers
unfolding store
returns-then-at-from-ne0-clause-covers g c = λ q value. let fault = c.reach_of_fault.ensures q BadAlign c.args.at in search rules

pub returns-in-Err-clause-covers : goal.returns-in-Err-clause-covers
unfolding store
returns-in-Err-clause-covers g c = λ q value. let fault = c.reach_of_fault-in-Err.ensures q c.in-Err.why.code c.args.at in search rules
