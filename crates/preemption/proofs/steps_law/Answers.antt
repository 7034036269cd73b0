use Rattle.preemption.proofs.Searching.{steps, steps_within}
use Rattle.preemption.proofs.steps_law.Goals as goal

pub returns-clause-always : goal.returns-clause-always
returns-clause-always c = steps

pub returns-clause-within : goal.returns-clause-within
returns-clause-within c = steps_within
