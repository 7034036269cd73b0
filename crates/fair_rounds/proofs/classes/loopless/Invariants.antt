use Rattle.fair_rounds.specs.Loops.{AreLoopless}
use Rattle.fair_rounds.proofs.classes.loopless.Given as goal

abbrev pub invariant-loop-at : goal.invariant-loop-at
invariant-loop-at l = AreLoopless l.width l.ends l.nodes l.marks.items
