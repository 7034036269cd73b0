use Rattle.std.proofs.Common.{arith}
use Rattle.sv32_tables.proofs.Blocks.{pages_below}
use Rattle.sv32_tables.proofs.pool.TablePool.clear.Goals as goal

pub overflow_cast-region : goal.overflow_cast-region
overflow_cast-region c = omega (arith, pages_below c.args.block c.first_page-first.ensures.range)

pub clear_region-requires-clause-inside : goal.clear_region-requires-clause-inside
clear_region-requires-clause-inside c = omega (arith, pages_below c.args.block c.first_page-first.ensures.range)
