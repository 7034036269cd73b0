use Rattle.interleavings.proofs.Must.{fair_stepwise_law, always_fair_law}
use Rattle.interleavings.proofs.fair_stepwise_law.Goals as goal

pub returns-clause-here : goal.returns-clause-here
returns-clause-here c = fair_stepwise_law c.must_stepwise_law.ensures.here

pub returns-clause-always : goal.returns-clause-always
returns-clause-always c = always_fair_law c.must_stepwise_law.ensures.always
