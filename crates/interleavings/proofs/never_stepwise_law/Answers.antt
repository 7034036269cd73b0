use Rattle.interleavings.proofs.Stepwise.{never_stepwise_law}
use Rattle.interleavings.proofs.never_stepwise_law.Goals as goal

pub returns : goal.returns
returns c = never_stepwise_law c.never_law.ensures c.found_law.ensures
