use Rattle.preemption.proofs.Choosing.{turns, turns_within}
use Rattle.preemption.proofs.turns_law.Goals as goal

pub returns-clause-always : goal.returns-clause-always
returns-clause-always c = turns

pub returns-clause-within : goal.returns-clause-within
returns-clause-within c = turns_within
