use Rattle.std.proofs.Common.{arith, ◌<◌, ◌^◌}
use Rattle.guard_math.proofs.BlockLaws.{IsBlock-around}
use Rattle.guard_math.proofs.block.Block.around.Goals as goal

pub invariant_of-result : goal.invariant_of-result
invariant_of-result c =
    let fits : c.args.address < 2 ^ 32 = omega arith in
    rw c.base_of.ensures (IsBlock-around _ _ c.requires.low c.requires.high fits)

pub returns-clause-range : goal.returns-clause-range
returns-clause-range c =
    let fits : c.args.address < 2 ^ 32 = omega arith in
    rw c.base_of.ensures (IsBlock-around _ _ c.requires.low c.requires.high fits)
