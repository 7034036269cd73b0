use Rattle.std.proofs.Common.{◌-◌}
use Rattle.std.proofs.lemmas.Result.{IfOk-weaker}
use Rattle.fair_rounds.specs.Table.{IsLoop}
use Rattle.fair_rounds.specs.Loops.{IsLoopless, NoneFrom, OneFrom}
use Rattle.fair_rounds.proofs.Looping.{match-weaker}
use Rattle.fair_rounds.proofs.evading.caught_from.Goals as goal

pub returns : goal.returns
returns c =
    let a = c.args in
    IfOk-weaker c.fair_loop.result _ _
    (λ cycle h. match-weaker cycle (IsLoopless a.width a.walls.now (a.double - a.nodes)) (NoneFrom a.width a.walls.now a.nodes a.double)
    (λ b. IsLoop a.width a.walls.now (a.double - a.nodes) b.items) (λ b. OneFrom a.width a.walls.now a.nodes a.double b.items)
    (λ none far. none) (λ b loop. (c.if-double-nodes.false, loop)) h)
    c.fair_loop.ensures
