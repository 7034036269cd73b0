use Rattle.fair_rounds.proofs.Looping.{IsUnderWay}
use Rattle.fair_rounds.proofs.loops.fair_loop.Given as goal

abbrev pub invariant-loop-choice : goal.invariant-loop-choice
invariant-loop-choice l = IsUnderWay l.width l.ends l.nodes l.at l.marks.items l.choice l.here l.taken.items
