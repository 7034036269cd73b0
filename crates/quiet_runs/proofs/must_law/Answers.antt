use Rattle.quiet_runs.proofs.Rounds.{must_law, always_law}
use Rattle.quiet_runs.proofs.must_law.Goals as goal

pub returns-clause-here : goal.returns-clause-here
returns-clause-here c = must_law

pub returns-clause-always : goal.returns-clause-always
returns-clause-always c = always_law
