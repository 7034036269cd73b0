-- How long short numbers are.
use Rattle.std.proofs.Common.{ℕ, ◌≤◌, ◌<◌, length, decimal, arith}
use Rattle.std.proofs.lemmas.Fmt.{length-decimal-le}

-- a number of 8 bits has at most three decimal digits
pub length_decimal_8 : (n : ℕ) → n < 256 → length (decimal n) ≤ 3
length_decimal_8 n fits = length-decimal-le 3 n (omega arith) (omega arith) (omega arith)
