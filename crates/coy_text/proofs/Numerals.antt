-- How large a number of so many digits can be.
use Rattle.std.proofs.Common.{ℕ, ◌≡◌, ◌+◌, ◌*◌, ◌^◌, ◌<◌, ◌≤◌, ◌/◌, ◌%◌, [], ◌∷◌, ◌++◌, length, decimal, refl, sym, append_assoc, List, arith, length-append}
use Rattle.std.proofs.lemmas.Fmt.{decimal_step, decimal_digit}
use Rattle.std.proofs.lemmas.Grind.{pow_more}
use Rattle.std.proofs.Math.Nat.{pow-le-pow_right, mul-le-mul_right}

-- a number of fewer than 10 digits, and one digit more, fit 64 bits
pub ten_digits_fit : (i v : ℕ) → v < 10 ^ i → i < 10 → v < 1000000000
ten_digits_fit i v below few =
    let most : 10 ^ i ≤ 10 ^ 9 = pow-le-pow_right {n = 10} (omega arith) {i = i} {j = 9} (omega arith) in
    omega arith

-- a number of fewer than 8 hexadecimal digits, and one digit more, fit 32 bits
pub eight_digits_fit : (i v : ℕ) → v < 16 ^ i → i < 8 → v < 268435456
eight_digits_fit i v below few =
    let most : 16 ^ i ≤ 16 ^ 7 = pow-le-pow_right {n = 16} (omega arith) {i = i} {j = 7} (omega arith) in
    omega arith

-- a number of i digits, and one digit more, is one of i + 1 digits
pub one_more_digit : (base i v d : ℕ) → v < base ^ i → d < base → v * base + d < base ^ (i + 1)
one_more_digit base i v d below digit =
    omega (arith, mul-le-mul_right {m = v + 1} {n = base ^ i} base (omega arith), pow_more base i)

-- a number below ten has one digit
pub one_digit : (n : ℕ) → n < 10 → decimal n ≡ (48 + n) ∷ []
one_digit n below = decimal_digit n below

pub length_one : (n : ℕ) → n < 10 → length (decimal n) ≡ 1
length_one n below = rw (decimal_digit n below) refl

-- another has the digits of its tenth and one more
pub more_digits : (text : List ℕ) (n : ℕ) → 10 ≤ n → n < 2 ^ 64 → text ++ decimal n ≡ text ++ decimal (n / 10) ++ (48 + n % 10) ∷ []
more_digits text n above fits = rw (decimal_step n above fits) (sym (append_assoc text (decimal (n / 10)) ((48 + n % 10) ∷ [])))

pub fewer_digits : (n : ℕ) → 10 ≤ n → n < 2 ^ 64 → length (decimal n) ≡ length (decimal (n / 10)) + 1
fewer_digits n above fits =
    rw (decimal_step n above fits) (length-append (decimal (n / 10)) ((48 + n % 10) ∷ []))
