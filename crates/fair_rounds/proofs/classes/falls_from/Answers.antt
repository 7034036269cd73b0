use Rattle.std.proofs.Common.{below_more}
use Rattle.fair_rounds.proofs.classes.falls_from.Goals as goal

pub loop-choice-preserved : goal.loop-choice-preserved
loop-choice-preserved c = below_more _ _ c.loop-choice.invariant c.if-classes-ends.false
