-- A line of printed words is read by a reader, and says the statement of its words.
use Rattle.std.proofs.Common.{ℕ, ◌≡◌, ◌+◌, ◌^◌, ◌<◌, ◌≤◌, ◌&&◌, not, Bool, true, false, ◌*◌, List, [], ◌∷◌, ◌++◌, length, refl, arith, append-nil, subst, sym, ap, ◌∙◌, decimal, length-append}
use Rattle.std.specs.Prelude.{nat_le, Ok, bytes_eq, codes}
use Rattle.std.specs.List.{join_with_byte, list_all}
use Rattle.coy_text.specs.Words.{words_of}
use Rattle.std.proofs.lemmas.Fmt.{decimal_nonempty}
use Rattle.std.proofs.lemmas.Bool.{and_parts, leb-true, not-true}
use Rattle.coy_text.proofs.WordLaws.{words_of-join}
use Rattle.coy_text.specs.Numeral.{hex_text}
use Rattle.coy_text.proofs.NumeralLaws.{length-hex_text}
use Rattle.coy_io.specs.Limits.{line_limit}
use Rattle.coy_io.specs.Lines.{line_feed, IsUnfinished}
use Rattle.listing_read.specs.Terms.{has_names}
use Rattle.listing_read.specs.declared.terms.Terms.{Terms}
use Rattle.listing_read.specs.declared.statement.Statement.{Statement}
use Rattle.coy_text.specs.Line.{is_visible, says_nothing}
use Rattle.listing_read.specs.StatementLines.{statement_of}
use Rattle.listing_read.specs.Listing.{judged, further_line, stating_line, says_line}
use Rattle.coy_text.specs.Spaced.{line_of}
use Rattle.statement_text.specs.ReadsBack.{ReadsBack}
use Rattle.statement_text.proofs.Printed.{ArePrinted, printed_line, whole-visible, is_glyph, IsPrinted, printed, piece-decimal, piece-hex_text}

-- the test of a printed word
abbrev pub is_keyword : List ℕ → Bool
is_keyword word = nat_le 1 (length word) && nat_le (length word) 64 && list_all is_glyph word

-- a keyword is one
pub keyword : (word : List ℕ) → is_keyword word ≡ true → IsPrinted 64 word
keyword word is =
    let parts = and_parts (nat_le 1 (length word) && nat_le (length word) 64) (list_all is_glyph word) is in
    let sizes = and_parts (nat_le 1 (length word)) (nat_le (length word) 64) parts.0 in
    record { some = leb-true 1 (length word) sizes.0; short = leb-true (length word) 64 sizes.1; glyphs = parts.1 }

-- numbers are printed words
pub printed-decimal : (n : ℕ) → n < 2 ^ 32 → IsPrinted 64 (decimal n)
printed-decimal n fits = printed (piece-decimal n fits) (omega arith) (decimal_nonempty n (omega arith))

pub printed-hex_text : (k n : ℕ) → 1 ≤ k → k ≤ 64 → IsPrinted 64 (hex_text k n)
printed-hex_text k n some short = printed (piece-hex_text k n) short (omega (arith, length-hex_text k n))

-- a test that fails on one side fails
and_false : (b : Bool) {c : Bool} → c ≡ false → (b && c) ≡ false
and_false true off = off
and_false false off = refl

-- a word that a statement may begin with
abbrev pub is_opening : List ℕ → Bool
is_opening word =
    is_keyword word && (not (says_nothing word) && (not (bytes_eq word (codes "end")) && not (bytes_eq word (codes "name"))))

-- the line of printed words, of which each has at most so many bytes
pub record IsLine (words : List (List ℕ)) : Type 0 where
  pub words_are : words_of (line_of words) ≡ words
  pub visible : list_all is_visible (line_of words) ≡ true
  pub short : length (line_of words) ≤ line_limit
  pub whole : IsUnfinished (line_of words)

-- how long the line of printed words is
length_join : (most : ℕ) (first : List ℕ) (words : List (List ℕ)) → ArePrinted most words → length (join_with_byte 32 (first ∷ words)) ≤ length first + 1 + (most + 1) * length words
length_join most first [] each = omega arith
length_join most first (word ∷ words) each =
    let others = printed_line most (word ∷ words) each in
    omega (arith, length-append first (32 ∷ join_with_byte 32 (word ∷ words)), others.short)

-- words with one space between two, as std has them
pub line_of-join : (first : List ℕ) (words : List (List ℕ)) → line_of (first ∷ words) ≡ join_with_byte 32 (first ∷ words)
unfolding line_of
line_of-join first [] = append-nil first
line_of-join first (word ∷ words) = ap (λ text. first ++ 32 ∷ text) (line_of-join word words)

pub line_is : (most : ℕ) (first : List ℕ) (words : List (List ℕ)) → is_keyword first ≡ true → 64 ≤ most → (most + 1) * length words ≤ 440 → ArePrinted most words → IsLine (first ∷ words)
line_is most first words opens above few each =
    let word : IsPrinted 64 first = keyword first opens in
    let line = printed_line most (first ∷ words) (record { some = word.some; short = omega (arith, word.short); glyphs = word.glyphs }, each) in
    let same = line_of-join first words in
    record {
      words_are = ap words_of same ∙ words_of-join (first ∷ words) line.words_are;
      visible = ap (list_all is_visible) same ∙ line.visible;
      short = omega (arith, ap length same, length_join most first words each, word.short);
      whole = subst IsUnfinished (sym same) (whole-visible (join_with_byte 32 (first ∷ words)) line.visible);
    }

-- printed words that say a statement
pub line_reads : {terms : Terms} {statement : Statement} (most : ℕ) (first : List ℕ) (words : List (List ℕ)) → is_opening first ≡ true → 64 ≤ most → (most + 1) * length words ≤ 440 → ArePrinted most words → statement_of terms (first ∷ words) ≡ Ok statement → ReadsBack terms (line_of (first ∷ words) ++ line_feed) statement
unfolding judged further_line stating_line says_line
line_reads {terms} most first words opening above few each says =
    let opens = and_parts (is_keyword first) (not (says_nothing first) && (not (bytes_eq first (codes "end")) && not (bytes_eq first (codes "name")))) opening in
    let others = and_parts (not (says_nothing first)) (not (bytes_eq first (codes "end")) && not (bytes_eq first (codes "name"))) opens.1 in
    let apart = and_parts (not (bytes_eq first (codes "end"))) (not (bytes_eq first (codes "name"))) others.1 in
    let line = line_is most first words opens.0 above few each in
    record {
      line = line_of (first ∷ words);
      text_is = refl;
      short = line.short;
      whole = line.whole;
      said = rw (line.visible, line.words_are, not-true (says_nothing first) others.0, not-true (bytes_eq first (codes "end")) apart.0, and_false (has_names terms.version) (not-true (bytes_eq first (codes "name")) apart.1), says) refl;
    }
