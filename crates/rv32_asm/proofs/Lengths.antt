-- How long the operands of a line are.
use Rattle.std.proofs.Common.{ℕ, ◌<◌, ◌≤◌, length, decimal, arith}
use Rattle.std.proofs.lemmas.Fmt.{length-decimal-le}

-- a register's number has at most two digits
pub register_length : (register : ℕ) → register < 32 → length (decimal register) ≤ 2
register_length register below = length-decimal-le 2 register (omega arith) (omega arith) (omega arith)

-- a number of at most seven digits
pub number_length : (number : ℕ) → number < 10000000 → length (decimal number) ≤ 7
number_length number below = length-decimal-le 7 number (omega arith) (omega arith) (omega arith)
