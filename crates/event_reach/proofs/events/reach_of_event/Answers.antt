use Rattle.std.proofs.Common.{rules}
use Rattle.schedules.specs.Queues.{dispatched}
use Rattle.kernel_core.specs.Event.{event_by}
use Rattle.event_reach.proofs.events.reach_of_event.Goals as goal

pub returns-in-Some-clause-covers : goal.returns-in-Some-clause-covers
unfolding event_by
returns-in-Some-clause-covers g c = let part = c.reach_of_instruction.ensures.covers (dispatched c.args.machine.now.queues c.in-Step.hart) in search rules
