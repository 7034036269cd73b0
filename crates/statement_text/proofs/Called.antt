-- A number that is written begins with no `$`.
use Rattle.std.proofs.Common.{ℕ, ◌≡◌, ◌^◌, ◌<◌, ◌==◌, not, Bool, true, false, List, [], ◌∷◌, decimal, refl, inl, arith}
use Rattle.std.specs.Prelude.{None}
use Rattle.std.proofs.lemmas.Bool.{and_parts, not-true}
use Rattle.coy_text.specs.Words.{lacks}
use Rattle.coy_text.proofs.WordLaws.{lacks-decimal}
use Rattle.cap_words.specs.Name.{begins_with, called}

-- a word that lacks a byte does not begin with it
begins_with-lacks : (byte : ℕ) (word : List ℕ) → lacks byte word ≡ true → begins_with byte word ≡ false
begins_with-lacks byte [] free = refl
begins_with-lacks byte (first ∷ rest) free = not-true (first == byte) (and_parts (not (first == byte)) (lacks byte rest) free).0

-- so no name stands behind it
pub called-decimal : (names : Bool) (n : ℕ) → n < 2 ^ 32 → called names (decimal n) ≡ None
called-decimal false n fits = refl
called-decimal true n fits =
    let other = begins_with-lacks 36 (decimal n) (lacks-decimal 36 n (omega arith) (inl (omega arith))) in
    rw other refl
