use Rattle.std.proofs.Common.{below_more}
use Rattle.fair_rounds.proofs.classes.are_falling.Goals as goal

pub loop-at-preserved : goal.loop-at-preserved
loop-at-preserved c = record {
  few = below_more _ _ c.loop-at.invariant.few c.if-classes-at.false;
  falls = below_more _ _ c.loop-at.invariant.falls (c.falls_from.ensures.0 c.if-not-falls_from.false);
}
