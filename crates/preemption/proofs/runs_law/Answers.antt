use Rattle.preemption.proofs.Searching.{runs, runs_within}
use Rattle.preemption.proofs.runs_law.Goals as goal

pub returns-clause-always : goal.returns-clause-always
returns-clause-always c = runs c.simulation_law.ensures

pub returns-clause-within : goal.returns-clause-within
returns-clause-within c = runs_within c.simulation_law.ensures
