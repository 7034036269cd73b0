use Rattle.preemption.proofs.Events.{event}
use Rattle.preemption.proofs.event_law.Goals as goal

pub returns : goal.returns
returns c = event
