use Rattle.std.proofs.Common.{rules}
use Rattle.event_reach.proofs.sending.reach_behind.Goals as goal

pub returns-in-Some-clause-covers : goal.returns-in-Some-clause-covers
returns-in-Some-clause-covers g c = λ q from. let fault = c.reach_of_fault.ensures q c.in-Some.fault.why.code c.in-Some.fault.address in search rules

pub returns-in-None-clause-covers : goal.returns-in-None-clause-covers
returns-in-None-clause-covers g c = λ q from. let told = c.reach_of_delivery.ensures.covers q c.args.p from in search rules
