-- What the reader's search finds in the lines of the bytes to come.
use Rattle.std.proofs.Common.{◌≡◌, ◌≤◌, ℕ, ◌+◌, ◌-◌, ◌<◌, List, [], ◌∷◌, ◌++◌, length, take, drop, Bool, true, false, refl, sym, ap, ◌∙◌, append_assoc, append-nil, arith, if◌then◌else◌, length-append}
use Rattle.std.specs.Prelude.{eqb, ◌==◌}
use Rattle.std.proofs.lemmas.Bool.{ne_eqb, eqb-true, le-leb, lt-leb}
use Rattle.std.proofs.lemmas.List.{take-append-drop, length-take-le, length-drop}
use Rattle.std.proofs.lemmas.List.Sums.{split_at_first, passes_at_first}
use Rattle.coy_io.specs.Limits.{line_limit}
use Rattle.coy_io.specs.Lines.{Part, Line, LongLine, PastLimit, is_line_feed, line_len, part_of, cut_part_of, parts}
use Rattle.coy_io.proofs.LineLaws.{parts-append, parts-line_in_front, short_part}
use Rattle.coy_io.specs.Found.{HasLine, HasFront, HasLongLine, IsPastLimit}
use Rattle.coy_io.proofs.FirstLine.{line_len_within, unfinished_front}

-- where the first line ends
pub line_split : (bytes : List ℕ) (n : ℕ) → n ≡ line_len bytes → n < length bytes → bytes ≡ take n bytes ++ (10 ∷ drop (n + 1) bytes)
line_split bytes n e h =
    let inside : line_len bytes < length bytes = omega arith in
    let feed = eqb-true _ _ (passes_at_first is_line_feed bytes 0 inside) in
    rw e (split_at_first is_line_feed bytes 0 inside ∙ ap (λ b. take (line_len bytes) bytes ++ (b ∷ drop (line_len bytes + 1) bytes)) feed)

-- what stands in the place of a line too long
long_part : (line : List ℕ) → line_limit < length line → part_of line ≡ LongLine
long_part line h = rw (lt-leb (length line) line_limit h) refl

long_cut : (line : List ℕ) → line_limit < length line → cut_part_of line ≡ LongLine
long_cut line h = rw (lt-leb (length line) line_limit h) refl

long_at : (last feed : Bool) (byte : ℕ) (left line : List ℕ) (room : ℕ) → line_limit < length line
    → ((rest : List Part) × (parts (line ++ byte ∷ []) (room - 1) left ≡ LongLine ∷ rest))
    → (rest : List Part) × ((if last then cut_part_of line ∷ [] else (if feed then part_of line ∷ [] else []) ++ parts (if feed then [] else line ++ byte ∷ []) (room - 1) left) ≡ LongLine ∷ rest)
long_at true feed byte left line room h more = ([], ap (λ p. p ∷ []) (long_cut line h))
long_at false true byte left line room h more = (parts [] (room - 1) left, ap (λ p. p ∷ parts [] (room - 1) left) (long_part line h))
long_at false false byte left line room h more = more

-- a line too long stays so
long_begins : (left line : List ℕ) (room : ℕ) → line_limit < length line → (rest : List Part) × (parts line room left ≡ LongLine ∷ rest)
unfolding parts
long_begins [] line room h = ([], rw (ne_eqb (length line) 0 (λ z. omega arith)) (ap (λ p. p ∷ []) (long_part line h)))
long_begins (byte ∷ left) line room h =
    let longer : line_limit < length (line ++ byte ∷ []) = omega (arith, length-append line (byte ∷ [])) in
    long_at (eqb room 0) (is_line_feed byte) byte left line room h (long_begins left (line ++ byte ∷ []) (room - 1) longer)

-- where the search found a line
pub parts-line : (n : ℕ) (window : List ℕ) (room : ℕ) (left : List ℕ) → HasLine n window room
    → parts [] room (window ++ left) ≡ Line (take n window) ∷ parts [] (room - (n + 1)) (drop (n + 1) window ++ left)
parts-line n window room left h =
    let front = take n window in
    let rest = drop (n + 1) window ++ left in
    let len : length front ≡ n = length-take-le n window (omega (arith, h.whole)) in
    let split = ap (λ l. l ++ left) (line_split window n h.place h.whole) ∙ append_assoc front (10 ∷ drop (n + 1) window) left in
    let unfinished = unfinished_front window n (omega (arith, h.place)) in
    ap (parts [] room) split
    ∙ parts-line_in_front front rest room unfinished (omega (arith, h.short)) (omega (arith, h.whole, h.within))
    ∙ ap (λ k. Line front ∷ parts [] (room - (k + 1)) rest) len

-- where it found a line too long
pub parts-long : (window : List ℕ) (room : ℕ) (left : List ℕ) → HasLongLine window room → (rest : List Part) × (parts [] room (window ++ left) ≡ LongLine ∷ rest)
parts-long window room left h =
    let n = line_len window in
    let front = take n window in
    let len : length front ≡ n = length-take-le n window (line_len_within window) in
    let split = ap (λ l. l ++ left) (sym (take-append-drop n window)) ∙ append_assoc front (drop n window) left in
    let moved = parts-append front [] room (drop n window ++ left) (unfinished_front window n (omega arith)) (omega (arith, line_len_within window, h.within)) in
    let begins = long_begins (drop n window ++ left) front (room - length front) (omega (arith, h.long)) in
    (begins.0, ap (parts [] room) split ∙ moved ∙ begins.1)

parts-cut : (left line : List ℕ) → 0 < length left → length line ≤ line_limit → parts line 0 left ≡ PastLimit ∷ []
unfolding parts
parts-cut [] line some h = absurd (omega arith)
parts-cut (byte ∷ left) line some h = rw (le-leb (length line) line_limit h) refl

-- where the input goes on behind the last byte that is read
pub parts-past : (window : List ℕ) (room : ℕ) (left : List ℕ) → IsPastLimit window room → parts [] room (window ++ left) ≡ PastLimit ∷ []
parts-past window room left h =
    let front = take room window in
    let more = drop room window ++ left in
    let len : length front ≡ room = length-take-le room window (omega (arith, h.more)) in
    let some : 0 < length more = omega (arith, length-append (drop room window) left, length-drop room window, h.more) in
    let split = ap (λ l. l ++ left) (sym (take-append-drop room window)) ∙ append_assoc front (drop room window) left in
    let none : room - length front ≡ 0 = omega arith in
    ap (parts [] room) split
    ∙ parts-append front [] room more (unfinished_front window room h.unfinished) (omega arith)
    ∙ ap (λ k. parts front k more) none
    ∙ parts-cut more front some (omega (arith, h.short))

-- where the input ended
pub parts-end : (window : List ℕ) (room : ℕ) → HasFront window room → parts [] room window ≡ (if length window == 0 then [] else Line window ∷ [])
unfolding parts
parts-end window room h =
    let moved = parts-append window [] room [] h.front.unfinished h.within in
    ap (parts [] room) (sym (append-nil window)) ∙ moved ∙ ap (λ p. if length window == 0 then [] else p ∷ []) (short_part window h.front.short)
