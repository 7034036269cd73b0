use Rattle.std.proofs.Common.{arith}
use Rattle.cap_format.proofs.Ranges.{matches_small}
use Rattle.cap_format.proofs.codec.guard_word.Goals as goal

pub overflow_mul-result : goal.overflow_mul-result
overflow_mul-result c = let small = matches_small _ c.matches.ensures.range in omega (arith, small, c.matches.ensures.value)

pub overflow_add-result : goal.overflow_add-result
overflow_add-result c =
    let small = matches_small _ c.matches.ensures.range in
    omega (arith, small, c.matches.ensures.value, c.l2g.ensures.value, c.l2g.ensures.range.high, c.from.ensures)
