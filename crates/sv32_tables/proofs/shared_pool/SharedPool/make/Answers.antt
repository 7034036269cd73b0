use Rattle.std.proofs.Common.{arith}
use Rattle.sv32_tables.proofs.SharedWords.{shared-made}
use Rattle.sv32_tables.proofs.shared_pool.SharedPool.make.Goals as goal

pub invariant_of-self : goal.invariant_of-self
invariant_of-self c = rw c.push.ensures.items (shared-made _ _ c.args.frame_use c.self.invariant (omega arith))
