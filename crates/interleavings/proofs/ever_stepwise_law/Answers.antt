use Rattle.interleavings.proofs.Stepwise.{ever_stepwise_law}
use Rattle.interleavings.proofs.ever_stepwise_law.Goals as goal

pub returns : goal.returns
returns c = ever_stepwise_law c.ever_law.ensures c.found_law.ensures
