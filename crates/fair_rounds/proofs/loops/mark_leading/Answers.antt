use Rattle.std.proofs.Common.{sym, subst, arith}
use Rattle.reaches_back.specs.Edges.{AreEdges}
use Rattle.fair_rounds.proofs.Looping.{leading-by}
use Rattle.fair_rounds.proofs.loops.mark_leading.Goals as goal

pub reach_back-requires : goal.reach_back-requires
reach_back-requires c = subst (AreEdges c.args.width c.args.ends.now) (sym c.mark_most.auto.marks) c.requires.table.edges

pub returns : goal.returns
returns c i l =
    leading-by c.args.width c.args.ends.now c.args.marks.now c.mark_most.new.marks c.reach_back.new.marks c.in_ok-mark_most.ensures.sound c.in_ok-mark_most.ensures.kept i
    (c.reach_back.ensures.marks i (omega (arith, l, c.mark_most.auto.marks)))
