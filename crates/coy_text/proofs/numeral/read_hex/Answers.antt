use Rattle.std.proofs.Common.{arith}
use Rattle.coy_text.proofs.Numerals.{eight_digits_fit}
use Rattle.coy_text.proofs.numeral.read_hex.Goals as goal

pub overflow_mul-value : goal.overflow_mul-value
overflow_mul-value c =
    omega (arith, eight_digits_fit c.loop-byte.byte-index c.loop-byte.value c.loop-byte.invariant.0 (omega arith))

pub overflow_add-value : goal.overflow_add-value
overflow_add-value c =
    omega (arith, c.in-Some.ensures.below, eight_digits_fit c.loop-byte.byte-index c.loop-byte.value c.loop-byte.invariant.0 (omega arith))
