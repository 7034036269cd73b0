use Rattle.interleavings.proofs.Must.{must_stepwise_law, always_stepwise_law}
use Rattle.interleavings.proofs.must_stepwise_law.Goals as goal

pub returns-clause-here : goal.returns-clause-here
returns-clause-here c = must_stepwise_law c.must_law.ensures.here c.found_law.ensures c.short_law.ensures

pub returns-clause-always : goal.returns-clause-always
returns-clause-always c = always_stepwise_law c.must_law.ensures.always c.found_law.ensures c.short_law.ensures
