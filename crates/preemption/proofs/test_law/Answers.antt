use Rattle.preemption.proofs.Testing.{test_law, kept_law}
use Rattle.preemption.proofs.test_law.Goals as goal

pub returns-clause-is : goal.returns-clause-is
returns-clause-is c = test_law

pub returns-clause-kept : goal.returns-clause-kept
returns-clause-kept c = kept_law
