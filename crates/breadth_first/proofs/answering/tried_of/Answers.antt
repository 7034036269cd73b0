use Rattle.std.proofs.Common.{ℕ, ◌<◌, ◌≤◌, ◌+◌, ◌-◌, ◌*◌, ◌^◌, arith}
use Rattle.std.proofs.Math.Nat.{mul-le-mul}
use Rattle.breadth_first.proofs.answering.tried_of.Goals as goal

product : (a b : ℕ) → a ≤ 2 ^ 32 → b < 2 ^ 32 → a * b < 2 ^ 64
product a b l m =
    let k : b ≤ 2 ^ 32 - 1 = omega arith in
    let p : a * b ≤ 2 ^ 32 * (2 ^ 32 - 1) = mul-le-mul l k in
    omega (arith, p)

product-room : (a b : ℕ) → a < 2 ^ 32 → b < 2 ^ 32 → a * b + 2 ^ 32 < 2 ^ 64
product-room a b l m =
    let j : a ≤ 2 ^ 32 - 1 = omega arith in
    let k : b ≤ 2 ^ 32 - 1 = omega arith in
    let p : a * b ≤ (2 ^ 32 - 1) * (2 ^ 32 - 1) = mul-le-mul j k in
    omega (arith, p)

pub overflow_mul-result : goal.overflow_mul-result
overflow_mul-result c =
    let bound : c.from.result < 2 ^ 32 = omega (arith, c.from.ensures) in
    omega (arith, product c.args.states c.from.result c.requires bound)

pub returns-clause-room : goal.returns-clause-room
returns-clause-room c l =
    let bound : c.from.result < 2 ^ 32 = omega (arith, c.from.ensures) in
    product-room c.args.states c.from.result l bound
