use Rattle.std.proofs.Common.{rules}
use Rattle.event_reach.proofs.operating.reach_behind_log.Goals as goal

pub returns-in-Some : goal.returns-in-Some
returns-in-Some g c = λ q pieces. let fault = c.reach_of_fault.ensures q c.in-Some.fault.why.code c.in-Some.fault.address in search rules
