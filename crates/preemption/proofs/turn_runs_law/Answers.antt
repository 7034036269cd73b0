use Rattle.preemption.proofs.Choosing.{turn_runs, turn_runs_within}
use Rattle.preemption.proofs.turn_runs_law.Goals as goal

pub returns-clause-always : goal.returns-clause-always
returns-clause-always c = turn_runs

pub returns-clause-within : goal.returns-clause-within
returns-clause-within c = turn_runs_within
