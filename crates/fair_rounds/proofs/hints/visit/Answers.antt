use Rattle.std.proofs.Common.{true, length, arith, length-set}
use Rattle.fair_rounds.proofs.Edges.{place-inside}
use Rattle.fair_rounds.proofs.hints.visit.Goals as goal

pub bounds-ends-last : goal.bounds-ends-last
bounds-ends-last c =
    place-inside c.args.width c.args.ends.now (length c.args.seen.now) c.requires.table.edges c.in-Some.last.node c.in-Some.last.choice
    (omega (arith, length-set c.args.seen.now c.args.root true)) (omega arith)
