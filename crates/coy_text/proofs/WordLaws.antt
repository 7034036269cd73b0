-- Laws of words, for the crates that show that what they write is read again: how a text that was put together falls
-- into its words, and a word into its parts.
use Rattle.std.specs.Prelude.{ℕ, zero, suc, ◌≡◌, ◌+◌, ◌/◌, ◌%◌, ◌^◌, ◌<◌, ◌==◌, ◌⊎◌, not, true, List, [], ◌∷◌, ◌++◌, Some, decimal, refl}
use Rattle.std.specs.List.{list_all, join_with_byte}
use Rattle.std.proofs.Common.{arith, sym, ◌∙◌, ap, append_assoc, inl, inr}
use Rattle.std.proofs.lemmas.List.{append-nil}
use Rattle.std.proofs.lemmas.Bool.{and_parts, and_from, not-true, ne_eqb, eq-eqb, false≢true}
use Rattle.std.proofs.lemmas.Bool.Decides.{nat_tests}
use Rattle.std.proofs.lemmas.Fmt.{decimal_by_steps}
use Rattle.coy_text.specs.Numeral.{hex_glyph, hex_text}
use Rattle.coy_text.specs.Words.{words_on, words_of, cut_at, lacks, is_word}

-- two texts lack what both lack
pub lacks-append : (mark : ℕ) (xs ys : List ℕ) → lacks mark xs ≡ true → lacks mark ys ≡ true → lacks mark (xs ++ ys) ≡ true
lacks-append mark [] ys first second = second
lacks-append mark (x ∷ xs) ys first second =
    let parts = and_parts (not (x == mark)) (lacks mark xs) first in
    and_from (not (x == mark)) (lacks mark (xs ++ ys)) parts.0 (lacks-append mark xs ys parts.1 second)

-- one byte lacks each other byte
pub lacks-byte : (mark byte : ℕ) → (byte ≡ mark → ⊥) → lacks mark (byte ∷ []) ≡ true
lacks-byte mark byte other = rw (ne_eqb byte mark other) refl

other_than : (mark digit : ℕ) → digit < 10 → (mark < 48) ⊎ (57 < mark) → 48 + digit ≡ mark → ⊥
other_than mark digit below outside = elim outside [ inl low ↦ λ same. omega arith | inr high ↦ λ same. omega arith ]

-- a decimal text has digits alone
pub lacks-decimal : (mark n : ℕ) → n < 2 ^ 64 → (mark < 48) ⊎ (57 < mark) → lacks mark (decimal n) ≡ true
lacks-decimal mark n fits outside =
    decimal_by_steps (λ n text. lacks mark text ≡ true)
    (λ n below. lacks-byte mark (48 + n) (other_than mark n below outside))
    (λ n text above front. lacks-append mark text ((48 + n % 10) ∷ []) front (lacks-byte mark (48 + n % 10) (other_than mark (n % 10) (omega arith) outside)))
    n fits

other_than_glyph : (mark digit : ℕ) → digit < 16 → (mark < 48) ⊎ ((57 < mark) × (mark < 97)) ⊎ (102 < mark) → hex_glyph digit ≡ mark → ⊥
other_than_glyph mark digit below outside same = grind (arith, nat_tests)

-- a hexadecimal text has digits and the letters `a` to `f` alone
pub lacks-hex_text : (mark k n : ℕ) → (mark < 48) ⊎ ((57 < mark) × (mark < 97)) ⊎ (102 < mark) → lacks mark (hex_text k n) ≡ true
unfolding hex_text
lacks-hex_text mark zero n outside = refl
lacks-hex_text mark (suc k) n outside =
    lacks-append mark (hex_text k (n / 16)) (hex_glyph (n % 16) ∷ []) (lacks-hex_text mark k (n / 16) outside)
    (lacks-byte mark (hex_glyph (n % 16)) (other_than_glyph mark (n % 16) (omega arith) outside))

-- bytes without a space go into the unfinished word
pub words_on-append : (word bytes rest : List ℕ) → lacks 32 bytes ≡ true → words_on word (bytes ++ rest) ≡ words_on (word ++ bytes) rest
unfolding words_on
words_on-append word [] rest free = ap (λ w. words_on w rest) (sym (append-nil word))
words_on-append word (byte ∷ bytes) rest free =
    let parts = and_parts (not (byte == 32)) (lacks 32 bytes) free in
    let letter = not-true (byte == 32) parts.0 in
    rw letter (words_on-append (word ++ byte ∷ []) bytes rest parts.1 ∙ ap (λ w. words_on w rest) (append_assoc word (byte ∷ []) bytes))

-- a text without a space is a word
pub words_of-word : (byte : ℕ) (bytes : List ℕ) → lacks 32 (byte ∷ bytes) ≡ true → words_of (byte ∷ bytes) ≡ (byte ∷ bytes) ∷ []
unfolding words_on
words_of-word byte bytes free =
    ap words_of (sym (append-nil (byte ∷ bytes))) ∙ words_on-append [] (byte ∷ bytes) [] free

-- a text without a space is the first word of what it is followed by behind a space
pub words_of-append : (byte : ℕ) (bytes rest : List ℕ) → lacks 32 (byte ∷ bytes) ≡ true → words_of ((byte ∷ bytes) ++ (32 ∷ rest)) ≡ (byte ∷ bytes) ∷ words_of rest
unfolding words_on
words_of-append byte bytes rest free = words_on-append [] (byte ∷ bytes) (32 ∷ rest) free

-- words that are joined by a space are the words of the line that they make
pub words_of-join : (words : List (List ℕ)) → list_all is_word words ≡ true → words_of (join_with_byte 32 words) ≡ words
unfolding words_on
words_of-join [] each = refl
words_of-join ([] ∷ words) each = absurd (false≢true each)
words_of-join ((byte ∷ bytes) ∷ []) each =
    words_of-word byte bytes (and_parts (lacks 32 (byte ∷ bytes)) true each).0
words_of-join ((byte ∷ bytes) ∷ next ∷ words) each =
    let parts = and_parts (lacks 32 (byte ∷ bytes)) (list_all is_word (next ∷ words)) each in
    words_of-append byte bytes (join_with_byte 32 (next ∷ words)) parts.0
    ∙ ap (λ others. (byte ∷ bytes) ∷ others) (words_of-join (next ∷ words) parts.1)

-- a word is cut at the mark behind a text that lacks it
pub cut_at-append : (mark : ℕ) (front behind : List ℕ) → lacks mark front ≡ true → cut_at mark (front ++ (mark ∷ behind)) ≡ Some (front, behind)
unfolding cut_at
cut_at-append mark [] behind free = rw (eq-eqb mark mark refl) refl
cut_at-append mark (byte ∷ front) behind free =
    let parts = and_parts (not (byte == mark)) (lacks mark front) free in
    rw (not-true (byte == mark) parts.0, cut_at-append mark front behind parts.1) refl
