-- Texts that list statements, one behind the other, and the lines in front of them and behind.
use Rattle.std.proofs.Common.{ℕ, ◌≡◌, ◌+◌, ◌-◌, ◌^◌, ◌*◌, ◌<◌, ◌≤◌, ◌&&◌, not, Bool, true, List, [], ◌∷◌, ◌++◌, length, decimal, refl, sym, ap, ◌∙◌, arith, append_assoc, append-nil, length-append}
use Rattle.std.specs.Prelude.{Some, Ok, codes}
use Rattle.std.specs.List.{All}
use Rattle.std.proofs.lemmas.Bool.{and_parts, le-leb, not-true}
use Rattle.std.proofs.lemmas.List.Elements.{All-tail}
use Rattle.coy_text.proofs.NumeralLaws.{dec_of-decimal}
use Rattle.coy_text.proofs.WordLaws.{words_of-join}
use Rattle.coy_io.specs.Limits.{line_limit, input_limit}
use Rattle.coy_io.specs.Lines.{line_feed, IsUnfinished, parts}
use Rattle.coy_io.proofs.LineLaws.{parts-line_in_front}
use Rattle.object_store.specs.declared.sizes.Sizes.{Sizes}
use Rattle.object_store.specs.Ranges.{IsWithinLimits}
use Rattle.cap_words.specs.Spelling.{dec_to}
use Rattle.coy_text.specs.Line.{says_nothing}
use Rattle.listing_read.specs.Machine.{version_of, machine_of}
use Rattle.listing_read.specs.Terms.{terms_of}
use Rattle.listing_read.specs.Statement.{IsStatement, IsTyped, ListingValue}
use Rattle.listing_read.specs.declared.place.Place.{Place}
use Rattle.listing_read.specs.declared.place.Place.TheVariants.{Header, Machine, Statements}
use Rattle.listing_read.specs.declared.place.Said.TheVariants.{Opens, Says, Ends}
use Rattle.listing_read.specs.declared.statement.Statement.{Statement}
use Rattle.listing_read.specs.declared.statement.Statement.TheVariants.{Region}
use Rattle.listing_read.specs.declared.terms.Terms.{Terms}
use Rattle.listing_read.specs.declared.terms.Version.{Version}
use Rattle.listing_read.specs.declared.terms.Version.TheVariants.{One, Two}
use Rattle.listing_read.specs.Listing.{Listed, Good, Refused, Past, listing_of, with_front, judged, said_by, header_line, machine_line, further_line, end_line}
use Rattle.coy_text.specs.Spaced.{line_of}
use Rattle.statement_text.specs.Text.{format_text, machine_text, end_text, statement_text, statements_text}
use Rattle.statement_text.specs.ReadsBack.{IsSayable}
use Rattle.statement_text.specs.Lists.{Lists}
use Rattle.statement_text.specs.Laws.{TextsAreListed, NothingIsListed, BothAreListed, ListedIsListing}
use Rattle.statement_text.proofs.Printed.{ArePrinted}
use Rattle.statement_text.proofs.Lines.{is_keyword, keyword, printed-decimal, line_is}
use Rattle.statement_text.proofs.Statements.{statement_reads}

-- nothing in front
with_front-none : (behind : Listed) → with_front [] behind ≡ behind
with_front-none (Good listing last rest) = refl
with_front-none (Refused line fault) = refl
with_front-none Past = refl

-- statements in front of others
with_front-both : (xs ys : List Statement) (behind : Listed) → with_front xs (with_front ys behind) ≡ with_front (xs ++ ys) behind
with_front-both xs ys (Good listing last rest) =
    ap (λ statements. let l : ListingValue = record { sizes = listing.sizes; statements = statements } in Good l last rest) (sym (append_assoc xs ys listing.statements))
with_front-both xs ys (Refused line fault) = refl
with_front-both xs ys Past = refl

-- what stands behind a text
abbrev behind : Terms → ℕ → ℕ → List ℕ → Listed
behind terms n room rest = listing_of (Statements terms) n (parts [] room rest)

pub nothing : NothingIsListed
nothing terms = record {
  listed = λ n room rest fits.
      let line : n + 0 ≡ n = omega arith in
      let left : room - 0 ≡ room = omega arith in
      sym (with_front-none (behind terms (n + 0) (room - 0) rest) ∙ ap (λ k. behind terms k (room - 0) rest) line ∙ ap (λ k. behind terms n k rest) left);
}

-- a line in front of other lines
line_in_front : (terms : Terms) (line rest : List ℕ) (statement : Statement) (n room : ℕ) → IsUnfinished line → length line ≤ line_limit → judged (Statements terms) line ≡ Ok (Says statement) → length line < room → listing_of (Statements terms) n (parts [] room (line ++ (10 ∷ rest))) ≡ with_front (statement ∷ []) (listing_of (Statements terms) (n + 1) (parts [] (room - (length line + 1)) rest))
unfolding listing_of
line_in_front terms line rest statement n room whole short said fits =
    rw (parts-line_in_front line rest room whole short fits, said) refl

pub one : TextsAreListed
one terms text statement is = record {
  listed = λ n room rest fits.
      let len : length text ≡ length is.line + 1 = ap length is.text_is ∙ length-append is.line line_feed in
      rw (len, is.text_is, append_assoc is.line line_feed rest)
      (line_in_front terms is.line rest statement n room is.whole is.short is.said (omega arith));
}

pub both : BothAreListed
both terms first second xs ys a b = record {
  listed = λ n room rest fits.
      let len = length-append first second in
      let count = length-append xs ys in
      let line : (n + length xs) + length ys ≡ n + length (xs ++ ys) = omega arith in
      let left : (room - length first) - length second ≡ room - length (first ++ second) = omega arith in
      ap (λ text. listing_of (Statements terms) n (parts [] room text)) (append_assoc first second rest)
      ∙ a.listed n room (second ++ rest) (omega arith)
      ∙ ap (with_front xs) (b.listed (n + length xs) (room - length first) rest (omega arith))
      ∙ with_front-both xs ys (behind terms ((n + length xs) + length ys) ((room - length first) - length second) rest)
      ∙ ap (λ k. with_front (xs ++ ys) (behind terms k ((room - length first) - length second) rest)) line
      ∙ ap (λ k. with_front (xs ++ ys) (behind terms (n + length (xs ++ ys)) k rest)) left;
}

-- the lines of statements, all of which version 2 may say
sayable : (statement : Statement) → IsSayable Two statement
sayable (Region gpt slot count page restr) = refl
sayable _ = tt

pub all_listed : (sizes : Sizes) (xs : List Statement) → IsWithinLimits sizes → All (IsStatement sizes) xs → All IsTyped xs → Lists (terms_of Two sizes) (statements_text xs) xs
all_listed sizes [] limits are typed = nothing (terms_of Two sizes)
all_listed sizes (x ∷ xs) limits are typed =
    both (terms_of Two sizes) (statement_text x) (statements_text xs) (x ∷ []) xs
    (one (terms_of Two sizes) (statement_text x) x (statement_reads (terms_of Two sizes) x limits (are 0 x (omega arith)) (typed 0 x (omega arith)) (sayable x)))
    (all_listed sizes xs limits (All-tail (IsStatement sizes) x xs are) (All-tail IsTyped x xs typed))

-- ---- the two lines in front

-- a line that opens a place, in front of other lines
opened : (place next : Place) (line rest : List ℕ) (n room : ℕ) → IsUnfinished line → length line ≤ line_limit → judged place line ≡ Ok (Opens next) → length line < room → listing_of place n (parts [] room (line ++ (10 ∷ rest))) ≡ listing_of next (n + 1) (parts [] (room - (length line + 1)) rest)
unfolding listing_of
opened place next line rest n room whole short said fits = rw (parts-line_in_front line rest room whole short fits, said) refl

-- a word that such a line may begin with
abbrev is_opening : List ℕ → Bool
is_opening word = is_keyword word && not (says_nothing word)

-- the line of printed words that open a place
words_open : (place next : Place) (first : List ℕ) (words : List (List ℕ)) → is_opening first ≡ true → 65 * length words ≤ 440 → ArePrinted 64 words → said_by place (first ∷ words) ≡ Ok (Opens next) → (rest : List ℕ) (n room : ℕ) → length (line_of (first ∷ words) ++ line_feed) ≤ room → listing_of place n (parts [] room ((line_of (first ∷ words) ++ line_feed) ++ rest)) ≡ listing_of next (n + 1) (parts [] (room - length (line_of (first ∷ words) ++ line_feed)) rest)
unfolding judged
words_open place next first words opening few each opens rest n room fits =
    let test = and_parts (is_keyword first) (not (says_nothing first)) opening in
    let line = line_is 64 first words test.0 (omega arith) few each in
    let text : List ℕ = line_of (first ∷ words) in
    let len : length (text ++ line_feed) ≡ length text + 1 = length-append text line_feed in
    rw (len, append_assoc text line_feed rest)
    (opened place next text rest n room line.whole line.short
    (rw (line.visible, line.words_are, not-true (says_nothing first) test.1) opens)
    (omega arith))

-- the format
format_opens : (version : Version) (rest : List ℕ) (n room : ℕ) → length (format_text version) ≤ room → listing_of Header n (parts [] room (format_text version ++ rest)) ≡ listing_of (Machine version) (n + 1) (parts [] (room - length (format_text version)) rest)
unfolding header_line version_of
format_opens One rest n room fits =
    words_open Header (Machine One) (codes "coyotos") (codes "1" ∷ []) refl (omega arith) (keyword (codes "1") refl, tt) refl rest n room fits
format_opens Two rest n room fits =
    words_open Header (Machine Two) (codes "coyotos") (codes "2" ∷ []) refl (omega arith) (keyword (codes "2") refl, tt) refl rest n room fits

-- a number of the sizes
dec_to-decimal : (most n : ℕ) → most < 2 ^ 32 → n ≤ most → dec_to most (decimal n) ≡ Some n
unfolding dec_to
dec_to-decimal most n fits below = rw (dec_of-decimal n (omega arith), le-leb n most below) refl

-- the sizes
machine_opens : (version : Version) (sizes : Sizes) → IsWithinLimits sizes → (rest : List ℕ) (n room : ℕ) → length (machine_text sizes) ≤ room → listing_of (Machine version) n (parts [] room (machine_text sizes ++ rest)) ≡ listing_of (Statements (terms_of version sizes)) (n + 1) (parts [] (room - length (machine_text sizes)) rest)
unfolding machine_line machine_of
machine_opens version sizes is rest n room fits =
    words_open (Machine version) (Statements (terms_of version sizes)) (codes "machine")
    (decimal sizes.harts ∷ decimal sizes.pages ∷ decimal sizes.cappages ∷ decimal sizes.gpts ∷ decimal sizes.processes ∷ decimal sizes.endpoints ∷ []) refl (omega arith)
    (printed-decimal sizes.harts (omega (arith, is.harts)), (printed-decimal sizes.pages (omega (arith, is.pages)), (printed-decimal sizes.cappages (omega (arith, is.cappages)), (printed-decimal sizes.gpts (omega (arith, is.gpts)), (printed-decimal sizes.processes (omega (arith, is.processes)), (printed-decimal sizes.endpoints (omega (arith, is.endpoints)), tt))))))
    (rw (
      dec_to-decimal 8 sizes.harts (omega arith) is.harts,
      le-leb 1 sizes.harts is.some_hart,
      dec_to-decimal 4096 sizes.pages (omega arith) is.pages,
      dec_to-decimal 256 sizes.cappages (omega arith) is.cappages,
      dec_to-decimal 1024 sizes.gpts (omega arith) is.gpts,
      dec_to-decimal 256 sizes.processes (omega arith) is.processes,
      dec_to-decimal 1024 sizes.endpoints (omega arith) is.endpoints,
    )
    refl)
    rest n room fits

-- ---- the last line

end_ends : (terms : Terms) → judged (Statements terms) (codes "end") ≡ Ok (Ends terms.sizes)
unfolding judged further_line end_line
end_ends terms = rw (words_of-join (codes "end" ∷ []) refl) refl

ends : (terms : Terms) (rest : List ℕ) (n room : ℕ) → 4 ≤ room → listing_of (Statements terms) n (parts [] room (end_text ++ rest)) ≡ Good (record { sizes = terms.sizes; statements = [] }) n (parts [] (room - 4) rest)
unfolding listing_of
ends terms rest n room fits = rw (parts-line_in_front (codes "end") rest room refl (omega arith) (omega arith), end_ends terms) refl

-- ---- all of it

pub listing_listed : ListedIsListing
listing_listed version sizes text statements rest is lists fits =
    let terms : Terms = terms_of version sizes in
    let one = length-append (format_text version) (machine_text sizes ++ (text ++ (end_text ++ rest))) in
    let two = length-append (machine_text sizes) (text ++ (end_text ++ rest)) in
    let three = length-append text (end_text ++ rest) in
    let four = length-append end_text rest in
    let last : length end_text ≡ 4 = refl in
    let left : (((input_limit - length (format_text version)) - length (machine_text sizes)) - length text) - 4 ≡ input_limit - (length (format_text version) + (length (machine_text sizes) + (length text + length end_text))) = omega arith in
    format_opens version (machine_text sizes ++ (text ++ (end_text ++ rest))) 1 input_limit (omega arith)
    ∙ machine_opens version sizes is (text ++ (end_text ++ rest)) 2 (input_limit - length (format_text version)) (omega arith)
    ∙ lists.listed 3 ((input_limit - length (format_text version)) - length (machine_text sizes)) (end_text ++ rest) (omega arith)
    ∙ ap (with_front statements) (ends terms rest (3 + length statements) (((input_limit - length (format_text version)) - length (machine_text sizes)) - length text) (omega arith))
    ∙ ap (λ xs. let l : ListingValue = record { sizes = sizes; statements = xs } in Good l (3 + length statements) (parts [] ((((input_limit - length (format_text version)) - length (machine_text sizes)) - length text) - 4) rest)) (append-nil statements)
    ∙ ap (λ room. let l : ListingValue = record { sizes = sizes; statements = statements } in Good l (3 + length statements) (parts [] room rest)) left
