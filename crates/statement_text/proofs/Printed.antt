-- The words of a printed line: each has visible bytes alone and is short, so that the line they make is read word by word.
use Rattle.std.proofs.Common.{ℕ, zero, suc, ◌≡◌, ◌+◌, ◌*◌, ◌/◌, ◌%◌, ◌^◌, ◌<◌, ◌≤◌, ◌==◌, ◌&&◌, not, Bool, true, List, [], ◌∷◌, ◌++◌, length, decimal, refl, length-append, arith, ◌∙◌}
use Rattle.std.specs.Prelude.{nat_le}
use Rattle.std.specs.List.{list_all, join_with_byte}
use Rattle.std.proofs.lemmas.Bool.{and_parts, and_from}
use Rattle.std.proofs.lemmas.Bool.Decides.{nat_tests}
use Rattle.std.proofs.lemmas.List.Folds.{list_all-append}
use Rattle.std.proofs.lemmas.Fmt.{decimal_by_steps}
use Rattle.coy_text.specs.Numeral.{hex_glyph, hex_text}
use Rattle.coy_text.proofs.NumeralLaws.{length_decimal_32, length-hex_text}
use Rattle.coy_text.specs.Words.{lacks, is_word}
use Rattle.coy_io.specs.Lines.{IsUnfinished}
use Rattle.coy_text.specs.Line.{is_visible}

-- a visible byte that is no space
abbrev pub is_glyph : ℕ → Bool
is_glyph byte = nat_le 33 byte && nat_le byte 126

-- at most so many of them
pub record IsPiece (most : ℕ) (text : List ℕ) : Type 0 where
  pub short : length text ≤ most
  pub glyphs : list_all is_glyph text ≡ true

-- a word of a printed line: at least one of them, and at most so many
pub record IsPrinted (most : ℕ) (word : List ℕ) : Type 0 where
  pub some : 1 ≤ length word
  pub short : length word ≤ most
  pub glyphs : list_all is_glyph word ≡ true

-- each of the words is such a one
abbrev pub ArePrinted : ℕ → List (List ℕ) → Type 0
ArePrinted most [] = Unit {0}
ArePrinted most (word ∷ words) = IsPrinted most word × ArePrinted most words

-- a text with these bytes alone
pub piece : (text : List ℕ) → list_all is_glyph text ≡ true → IsPiece (length text) text
piece text glyphs = record { short = omega arith; glyphs = glyphs }

-- two pieces are one
pub joined : {a b : ℕ} {xs ys : List ℕ} → IsPiece a xs → IsPiece b ys → IsPiece (a + b) (xs ++ ys)
joined {a} {b} {xs} {ys} first second =
    record {
      short = omega (arith, length-append xs ys, first.short, second.short);
      glyphs = list_all-append is_glyph xs ys ∙ and_from (list_all is_glyph xs) (list_all is_glyph ys) first.glyphs second.glyphs;
    }

-- a piece with a byte in it is a word
pub printed : {most limit : ℕ} {text : List ℕ} → IsPiece most text → most ≤ limit → 1 ≤ length text → IsPrinted limit text
printed is small some = record { some = some; short = omega (arith, is.short); glyphs = is.glyphs }

-- the digits of a number
glyphs-digit : (d : ℕ) → d < 10 → list_all is_glyph ((48 + d) ∷ []) ≡ true
glyphs-digit d below = grind (arith, nat_tests)

glyphs-hex_glyph : (d : ℕ) → d < 16 → list_all is_glyph (hex_glyph d ∷ []) ≡ true
glyphs-hex_glyph d below = grind (arith, nat_tests)

glyphs-decimal : (n : ℕ) → n < 2 ^ 64 → list_all is_glyph (decimal n) ≡ true
glyphs-decimal n fits =
    decimal_by_steps (λ n text. list_all is_glyph text ≡ true)
    glyphs-digit
    (λ n text above front. list_all-append is_glyph text ((48 + n % 10) ∷ []) ∙ and_from (list_all is_glyph text) (list_all is_glyph ((48 + n % 10) ∷ [])) front (glyphs-digit (n % 10) (omega arith)))
    n fits

glyphs-hex_text : (k n : ℕ) → list_all is_glyph (hex_text k n) ≡ true
unfolding hex_text
glyphs-hex_text zero n = refl
glyphs-hex_text (suc k) n =
    list_all-append is_glyph (hex_text k (n / 16)) (hex_glyph (n % 16) ∷ [])
    ∙ and_from (list_all is_glyph (hex_text k (n / 16))) (list_all is_glyph (hex_glyph (n % 16) ∷ [])) (glyphs-hex_text k (n / 16)) (glyphs-hex_glyph (n % 16) (omega arith))

pub piece-decimal : (n : ℕ) → n < 2 ^ 32 → IsPiece 10 (decimal n)
piece-decimal n fits = record { short = length_decimal_32 n fits; glyphs = glyphs-decimal n (omega arith) }

pub piece-hex_text : (k n : ℕ) → IsPiece k (hex_text k n)
piece-hex_text k n = record { short = omega (arith, length-hex_text k n); glyphs = glyphs-hex_text k n }

-- ---- what a line of such words is

no_space : (byte : ℕ) → is_glyph byte ≡ true → not (byte == 32) ≡ true
no_space byte glyph = grind (arith, nat_tests)

lacks-glyphs : (text : List ℕ) → list_all is_glyph text ≡ true → lacks 32 text ≡ true
lacks-glyphs [] glyphs = refl
lacks-glyphs (byte ∷ bytes) glyphs =
    let parts = and_parts (is_glyph byte) (list_all is_glyph bytes) glyphs in
    and_from (not (byte == 32)) (lacks 32 bytes) (no_space byte parts.0) (lacks-glyphs bytes parts.1)

is_visible-glyph : (byte : ℕ) → is_glyph byte ≡ true → is_visible byte ≡ true
is_visible-glyph byte glyph = grind (arith, nat_tests)

visible-glyphs : (text : List ℕ) → list_all is_glyph text ≡ true → list_all is_visible text ≡ true
visible-glyphs [] glyphs = refl
visible-glyphs (byte ∷ bytes) glyphs =
    let parts = and_parts (is_glyph byte) (list_all is_glyph bytes) glyphs in
    and_from (is_visible byte) (list_all is_visible bytes) (is_visible-glyph byte parts.0) (visible-glyphs bytes parts.1)

is_word-printed : (most : ℕ) (word : List ℕ) → IsPrinted most word → is_word word ≡ true
is_word-printed most [] is = absurd (omega (arith, is.some))
is_word-printed most (byte ∷ bytes) is = lacks-glyphs (byte ∷ bytes) is.glyphs

-- what the line of printed words is
pub record IsPrintedLine (most : ℕ) (words : List (List ℕ)) : Type 0 where
  pub words_are : list_all is_word words ≡ true
  pub visible : list_all is_visible (join_with_byte 32 words) ≡ true
  pub short : length (join_with_byte 32 words) ≤ (most + 1) * length words

pub printed_line : (most : ℕ) (words : List (List ℕ)) → ArePrinted most words → IsPrintedLine most words
printed_line most [] each = record { words_are = refl; visible = refl; short = omega arith }
printed_line most (word ∷ []) each =
    record {
      words_are = and_from (is_word word) true (is_word-printed most word each.0) refl;
      visible = visible-glyphs word each.0.glyphs;
      short = omega (arith, each.0.short);
    }
printed_line most (word ∷ next ∷ words) each =
    let others = printed_line most (next ∷ words) each.1 in
    record {
      words_are = and_from (is_word word) (list_all is_word (next ∷ words)) (is_word-printed most word each.0) others.words_are;
      visible = list_all-append is_visible word (32 ∷ join_with_byte 32 (next ∷ words)) ∙ and_from (list_all is_visible word) (list_all is_visible (join_with_byte 32 (next ∷ words))) (visible-glyphs word each.0.glyphs) others.visible;
      short = omega (arith, each.0.short, others.short, length-append word (32 ∷ join_with_byte 32 (next ∷ words)));
    }

no_line_feed : (byte : ℕ) → is_visible byte ≡ true → not (byte == 10) ≡ true
no_line_feed byte visible = grind (arith, nat_tests)

-- a visible line has no line feed
pub whole-visible : (line : List ℕ) → list_all is_visible line ≡ true → IsUnfinished line
whole-visible [] visible = refl
whole-visible (byte ∷ bytes) visible =
    let parts = and_parts (is_visible byte) (list_all is_visible bytes) visible in
    rw (no_line_feed byte parts.0) (omega (arith, whole-visible bytes parts.1))
