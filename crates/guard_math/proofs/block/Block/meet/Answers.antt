use Rattle.std.proofs.Common.{arith}
use Rattle.guard_math.proofs.BlockLaws.{IsWithin-smaller, IsWithin-smaller_behind, covers-within, covers-within_behind}
use Rattle.guard_math.proofs.block.Block.meet.Goals as goal

pub returns-then-l2-clause-both : goal.returns-then-l2-clause-both
returns-then-l2-clause-both c address =
    covers-within _ _ address (IsWithin-smaller _ _ c.requires (omega arith))

pub returns-else-l2-clause-both : goal.returns-else-l2-clause-both
returns-else-l2-clause-both c address =
    covers-within_behind _ _ address (IsWithin-smaller_behind _ _ c.requires (omega arith))
