use Rattle.interleavings.proofs.Stepwise.{within_stepwise_law}
use Rattle.interleavings.proofs.within_stepwise_law.Goals as goal

pub returns : goal.returns
returns c = within_stepwise_law c.simulation_law.ensures c.found_law.ensures
