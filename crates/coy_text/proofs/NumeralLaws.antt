-- Laws of numbers as text, for the crates that print them: how long a text is, and that it is read as its number.
use Rattle.std.specs.Prelude.{ℕ, zero, suc, ◌≡◌, ◌+◌, ◌*◌, ◌/◌, ◌%◌, ◌^◌, ◌<◌, ◌≤◌, List, [], ◌∷◌, ◌++◌, length, Option, Some, None, option_and_then, decimal, refl}
use Rattle.std.proofs.Common.{arith, ◌∙◌, ap, length-append}
use Rattle.std.proofs.lemmas.Fmt.{length-decimal-le, decimal_nonempty, decimal_by_steps}
use Rattle.std.proofs.lemmas.Bool.{le-leb, lt-ltb}
use Rattle.std.proofs.lemmas.Bool.Decides.{nat_tests}
use Rattle.std.proofs.Math.Nat.{div-lt_iff_lt-mul, pow-suc}
use Rattle.coy_text.specs.Numeral.{value_on, dec_digit, hex_digit, dec_of, hex_of, hex_glyph, hex_text}

-- a number of 64 bits has at most 20 decimal digits
pub length_decimal : (n : ℕ) → n < 2 ^ 64 → length (decimal n) ≤ 20
length_decimal n fits = length-decimal-le 20 n (omega arith) (omega arith) fits

-- and one of 32 bits at most 10
pub length_decimal_32 : (n : ℕ) → n < 2 ^ 32 → length (decimal n) ≤ 10
length_decimal_32 n fits = length-decimal-le 10 n (omega arith) (omega arith) (omega arith)

-- a text of k hexadecimal digits has k bytes
pub length-hex_text : (k n : ℕ) → length (hex_text k n) ≡ k
unfolding hex_text
length-hex_text zero n = refl
length-hex_text (suc k) n = length-append (hex_text k (n / 16)) (hex_glyph (n % 16) ∷ []) ∙ omega (arith, length-hex_text k (n / 16))

-- digits behind digits
pub value_on-append : (base : ℕ) (digit : ℕ → Option ℕ) (n : ℕ) (xs ys : List ℕ) → value_on base digit n (xs ++ ys) ≡ option_and_then (λ m. value_on base digit m ys) (value_on base digit n xs)
value_on-append base digit n [] ys = refl
value_on-append base digit n (x ∷ xs) ys =
    elim (digit x) as (λ d. option_and_then (λ d. value_on base digit (n * base + d) (xs ++ ys)) d ≡ option_and_then (λ m. value_on base digit m ys) (option_and_then (λ d. value_on base digit (n * base + d) xs) d))
    [ None ↦ refl | Some d ↦ value_on-append base digit (n * base + d) xs ys ]

-- the byte of a digit below ten is read as that digit
pub dec_digit-byte : (d : ℕ) → d < 10 → dec_digit (48 + d) ≡ Some d
dec_digit-byte d below = grind (arith, nat_tests)

-- and the byte of a hexadecimal digit
pub hex_digit-byte : (d : ℕ) → d < 16 → hex_digit (hex_glyph d) ≡ Some d
hex_digit-byte d below = grind (arith, nat_tests)

-- the value of a number's decimal text is the number
pub value_on-decimal : (n : ℕ) → n < 2 ^ 64 → value_on 10 dec_digit 0 (decimal n) ≡ Some n
value_on-decimal n fits =
    decimal_by_steps (λ n text. value_on 10 dec_digit 0 text ≡ Some n)
    (λ n below. rw (dec_digit-byte n below) (ap Some (omega arith)))
    (λ n text above front.
    rw (value_on-append 10 dec_digit 0 text ((48 + n % 10) ∷ []), front, dec_digit-byte (n % 10) (omega arith))
    (ap Some (omega arith)))
    n fits

-- the value of a number's hexadecimal text is the number
pub value_on-hex_text : (k n : ℕ) → n < 16 ^ k → value_on 16 hex_digit 0 (hex_text k n) ≡ Some n
unfolding hex_text
value_on-hex_text zero n fits = ap Some (omega arith)
value_on-hex_text (suc k) n fits =
    let front : n / 16 < 16 ^ k = (div-lt_iff_lt-mul {k = 16} {x = n} {y = 16 ^ k} (omega arith)).1 (omega (arith, pow-suc 16 k)) in
    rw (value_on-append 16 hex_digit 0 (hex_text k (n / 16)) (hex_glyph (n % 16) ∷ []), value_on-hex_text k (n / 16) front, hex_digit-byte (n % 16) (omega arith))
    (ap Some (omega arith))

-- a number of 32 bits is read from its decimal text
pub dec_of-decimal : (n : ℕ) → n < 2 ^ 32 → dec_of (decimal n) ≡ Some n
unfolding dec_of
dec_of-decimal n fits =
    rw (
      le-leb 1 (length (decimal n)) (decimal_nonempty n (omega arith)),
      le-leb (length (decimal n)) 10 (length_decimal_32 n fits),
      value_on-decimal n (omega arith),
      lt-ltb n (2 ^ 32) fits,
    )
    refl

-- and from its hexadecimal text
pub hex_of-hex_text : (k n : ℕ) → 1 ≤ k → k ≤ 8 → n < 16 ^ k → hex_of (hex_text k n) ≡ Some n
unfolding hex_of
hex_of-hex_text k n some most fits =
    rw (length-hex_text k n, le-leb 1 k some, le-leb k 8 most) (value_on-hex_text k n fits)
