use Rattle.std.proofs.Common.{◌∙◌, sym}
use Rattle.questions.proofs.Any.{any-first, any-second}
use Rattle.questions.proofs.crossing.any_crosses.Goals as goal

pub returns-then-capability_crosses-clause-value : goal.returns-then-capability_crosses-clause-value
returns-then-capability_crosses-clause-value g c = any-first _ _ (sym c.capability_crosses.ensures.value ∙ c.if-capability_crosses.true)

pub returns-clause-value : goal.returns-clause-value
returns-clause-value g c = any-second _ _ _ (sym c.capability_crosses.ensures.value ∙ c.if-capability_crosses.false) c.sleeper_crosses.ensures
