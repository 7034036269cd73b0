-- The operands that are written are read again, and each is one word.
use Rattle.std.proofs.Common.{ℕ, suc, ◌≡◌, ◌+◌, ◌%◌, ◌^◌, ◌<◌, ◌≤◌, ◌==◌, ◌||◌, not, Bool, true, false, ℤ, pos, negsuc, ◌≤ℤ◌, List, [], ◌∷◌, ◌++◌, length, take, slice_index, decimal, refl, inl, inr, length-append, arith}
use Rattle.std.specs.Prelude.{Some, int_le, nat_le, unsigned_abs, bytes_eq, codes}
use Rattle.std.specs.Fmt.{signed_decimal}
use Rattle.std.proofs.lemmas.Bool.{cases_lt, lt-ltb, and_parts, and_right, not-true, ne_eqb}
use Rattle.std.proofs.lemmas.Int.{ints}
use Rattle.std.proofs.lemmas.Fmt.{first_decimal, decimal_nonempty, decimal_digit}
use Rattle.coy_text.proofs.NumeralLaws.{dec_of-decimal}
use Rattle.coy_text.specs.Words.{lacks, is_word}
use Rattle.coy_text.proofs.WordLaws.{lacks-append, lacks-decimal, cut_at-append}
use Rattle.rv32_decode.specs.InRange.{IsImmediate}
use Rattle.rv32_asm.specs.Operands.{register_of, immediate_of, number_of, offset_of, natural_of, address_of}
use Rattle.rv32_asm.specs.Text.{register_text, address_text}

-- a text that lacks the sign begins with none
no_sign : (text : List ℕ) → lacks 45 text ≡ true → bytes_eq (take 1 text) (codes "-") ≡ false
no_sign [] free = refl
no_sign (byte ∷ bytes) free =
    let other = not-true (byte == 45) (and_parts (not (byte == 45)) (lacks 45 bytes) free).0 in
    rw other refl

-- a text that lacks `x` does not begin with `0x`
no_prefix : (text : List ℕ) → lacks 120 text ≡ true → bytes_eq (take 2 text) (codes "0x") ≡ false
no_prefix [] free = refl
no_prefix (first ∷ []) free = and_right (first == 48) false refl
no_prefix (first ∷ second ∷ bytes) free =
    let others = and_parts (not (first == 120)) (lacks 120 (second ∷ bytes)) free in
    let other = not-true (second == 120) (and_parts (not (second == 120)) (lacks 120 bytes) others.1).0 in
    rw other (and_right (first == 48) false refl)

or_true : (test : Bool) → (test || true) ≡ true
or_true true = refl
or_true false = refl

-- a number's decimal text has no leading zero
plain_digits : (n : ℕ) → n < 2 ^ 32 → (nat_le (length (register_text n)) 2 || not (slice_index (register_text n) 1 == 48)) ≡ true
plain_digits n fits =
    elim (cases_lt n 10) [
      | inl one ↦ rw (decimal_digit n one) refl
      | inr more ↦
          let above : 48 < slice_index (decimal n) 0 = first_decimal n (omega arith) (omega arith) in
          rw (ne_eqb (slice_index (decimal n) 0) 48 (λ same. omega arith)) (or_true (nat_le (suc (length (decimal n))) 2))
    ]

-- a register is read from its text
pub register_of-register_text : (register : ℕ) → register < 32 → register_of (register_text register) ≡ Some register
unfolding register_of
register_of-register_text register below =
    rw (plain_digits register (omega arith), dec_of-decimal register (omega arith), lt-ltb register 32 below) refl

-- a number is read from its decimal text
immediate_of-decimal : (n : ℕ) → n < 2 ^ 31 → immediate_of (decimal n) ≡ Some (pos n)
unfolding immediate_of
immediate_of-decimal n fits =
    rw (
      no_sign (decimal n) (lacks-decimal 45 n (omega arith) (inl (omega arith))),
      no_prefix (decimal n) (lacks-decimal 120 n (omega arith) (inr (omega arith))),
      dec_of-decimal n (omega arith),
    )
    refl

immediate_of-signed_decimal : (z : ℤ) → unsigned_abs z < 2 ^ 31 → immediate_of (signed_decimal z) ≡ Some z
unfolding immediate_of
immediate_of-signed_decimal (pos n) fits = immediate_of-decimal n fits
immediate_of-signed_decimal (negsuc n) fits = rw (dec_of-decimal (suc n) (omega arith)) refl

int_le-true : (a b : ℤ) → a ≤ℤ b → int_le a b ≡ true
int_le-true a b le = grind (arith, ints)

pub number_of-signed_decimal : (low high z : ℤ) → unsigned_abs z < 2 ^ 31 → low ≤ℤ z → z ≤ℤ high → number_of low high (signed_decimal z) ≡ Some z
unfolding number_of
number_of-signed_decimal low high z fits above below =
    rw (immediate_of-signed_decimal z fits, int_le-true low z above, int_le-true z high below) refl

pub offset_of-signed_decimal : (low high z : ℤ) → unsigned_abs z < 2 ^ 31 → low ≤ℤ z → z ≤ℤ high → unsigned_abs z % 2 ≡ 0 → offset_of low high (signed_decimal z) ≡ Some z
unfolding offset_of
offset_of-signed_decimal low high z fits above below even =
    rw (number_of-signed_decimal low high z fits above below, even) refl

pub natural_of-decimal : (most n : ℕ) → n ≤ most → most < 2 ^ 31 → natural_of most (decimal n) ≡ Some n
unfolding natural_of
natural_of-decimal most n below fits =
    let low : pos 0 ≤ℤ pos n = omega (arith, ints) in
    let high : pos n ≤ℤ pos most = omega (arith, ints) in
    rw (number_of-signed_decimal (pos 0) (pos most) (pos n) (omega arith) low high) refl

-- the absolute value of a number in a range
pub abs_below : (n : ℕ) (z : ℤ) → negsuc n ≤ℤ z → z ≤ℤ pos n → unsigned_abs z < n + 2
abs_below n (pos m) low high = grind (arith, ints)
abs_below n (negsuc m) low high = grind (arith, ints)

-- a signed number has digits and a sign alone
lacks-signed_decimal : (mark : ℕ) (z : ℤ) → mark < 45 → unsigned_abs z < 2 ^ 31 → lacks mark (signed_decimal z) ≡ true
lacks-signed_decimal mark (pos n) outside fits = lacks-decimal mark n (omega arith) (inl (omega arith))
lacks-signed_decimal mark (negsuc n) outside fits =
    rw (ne_eqb 45 mark (λ same. omega arith)) (lacks-decimal mark (suc n) (omega arith) (inl (omega arith)))

-- an address is read from its text
pub address_of-address_text : (imm : ℤ) (register : ℕ) → IsImmediate imm → register < 32 → address_of (address_text imm register) ≡ Some (imm, register)
unfolding address_of
address_of-address_text imm register range below =
    let fits : unsigned_abs imm < 2 ^ 31 = omega (arith, abs_below 2047 imm range.0 range.1) in
    rw (
      cut_at-append 40 (signed_decimal imm) (register_text register ++ codes ")") (lacks-signed_decimal 40 imm (omega arith) fits),
      cut_at-append 41 (register_text register) [] (lacks-decimal 41 register (omega arith) (inl (omega arith))),
      number_of-signed_decimal (negsuc 2047) (pos 2047) imm fits range.0 range.1,
      register_of-register_text register below,
    )
    refl

-- each operand is one word
is_word_from : (text : List ℕ) → 0 < length text → lacks 32 text ≡ true → is_word text ≡ true
is_word_from [] some free = absurd (omega arith)
is_word_from (byte ∷ bytes) some free = free

pub is_word-register_text : (register : ℕ) → register < 32 → is_word (register_text register) ≡ true
is_word-register_text register below = lacks-decimal 32 register (omega arith) (inl (omega arith))

pub is_word-decimal : (n : ℕ) → n < 2 ^ 31 → is_word (decimal n) ≡ true
is_word-decimal n fits =
    is_word_from (decimal n) (decimal_nonempty n (omega arith)) (lacks-decimal 32 n (omega arith) (inl (omega arith)))

pub is_word-signed_decimal : (z : ℤ) → unsigned_abs z < 2 ^ 31 → is_word (signed_decimal z) ≡ true
is_word-signed_decimal (pos n) fits = is_word-decimal n fits
is_word-signed_decimal (negsuc n) fits = lacks-decimal 32 (suc n) (omega arith) (inl (omega arith))

pub is_word-address_text : (imm : ℤ) (register : ℕ) → unsigned_abs imm < 2 ^ 31 → register < 32 → is_word (address_text imm register) ≡ true
is_word-address_text imm register fits below =
    is_word_from (address_text imm register) (omega (arith, length-append (signed_decimal imm) (codes "(" ++ (register_text register ++ codes ")"))))
    (lacks-append 32 (signed_decimal imm) (codes "(" ++ (register_text register ++ codes ")"))
    (lacks-signed_decimal 32 imm (omega arith) fits)
    (lacks-append 32 (decimal register) (codes ")") (lacks-decimal 32 register (omega arith) (inl (omega arith))) refl))
