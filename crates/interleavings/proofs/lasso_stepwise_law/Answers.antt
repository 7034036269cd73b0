use Rattle.interleavings.proofs.Must.{lasso_stepwise_law, evasion_stepwise_law}
use Rattle.interleavings.proofs.lasso_stepwise_law.Goals as goal

pub returns-clause-lasso : goal.returns-clause-lasso
returns-clause-lasso c = lasso_stepwise_law c.lasso_law.ensures.lasso c.found_law.ensures

pub returns-clause-evasion : goal.returns-clause-evasion
returns-clause-evasion c = evasion_stepwise_law c.lasso_law.ensures.evasion c.found_law.ensures
