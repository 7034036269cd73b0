use Rattle.machine_state.specs.State.{state_of}
use Rattle.machine_state.specs.Setters.{set_queues}
use Rattle.event_reach.specs.Reach.{names_of}
use Rattle.event_reach.proofs.Covering.{covers_log}
use Rattle.event_reach.proofs.operating.reach_of_log.Goals as goal

pub returns-clause-covers : goal.returns-clause-covers
returns-clause-covers g c = λ q cap. covers_log (names_of c.reach_of_logged.result) (set_queues (state_of c.args.machine.now) q) c.args.p c.args.inv.now cap (c.reach_of_logged.ensures.covers q)
