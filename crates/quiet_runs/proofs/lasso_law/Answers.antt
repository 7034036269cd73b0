use Rattle.quiet_runs.proofs.Spelling.{lasso_law, evasion_law}
use Rattle.quiet_runs.proofs.lasso_law.Goals as goal

pub returns-clause-lasso : goal.returns-clause-lasso
returns-clause-lasso c = lasso_law

pub returns-clause-evasion : goal.returns-clause-evasion
returns-clause-evasion c = evasion_law
