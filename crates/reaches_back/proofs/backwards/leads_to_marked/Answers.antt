use Rattle.reaches_back.specs.Edges.{end_of}
use Rattle.reaches_back.proofs.Marks.{reach-here, reach-edge}
use Rattle.reaches_back.proofs.backwards.leads_to_marked.Goals as goal

pub returns-then-marks-ends-clause-some : goal.returns-then-marks-ends-clause-some
returns-then-marks-ends-clause-some c _ =
    reach-edge c.args.width c.args.ends.now c.args.marks.now c.args.at c.loop-edge.edge c.loop-edge-test.true
    (reach-here c.args.width c.args.ends.now c.args.marks.now (end_of c.args.width c.args.ends.now c.args.at c.loop-edge.edge) c.if-marks-ends.true)
