-- Laws of lines: what bytes in front do to the parts of those behind.
use Rattle.std.specs.Prelude.{◌≡◌, ◌≤◌, ◌<◌, ℕ, suc, ◌+◌, ◌-◌, List, [], ◌∷◌, ◌++◌, length, Bool, true, false, cond, not}
use Rattle.std.proofs.Common.{refl, sym, ap, ◌∙◌, append_assoc, append-nil, arith}
use Rattle.std.proofs.Math.Nat.{sub-zero}
use Rattle.std.proofs.lemmas.Bool.{ne_eqb, le-leb}
use Rattle.coy_io.specs.Limits.{line_limit}
use Rattle.coy_io.specs.Lines.{Line, is_line_feed, line_len, IsUnfinished, part_of, parts, whole_lines}

tail_of : (feed : Bool) (n m : ℕ) → cond (not feed) (1 + n) 0 ≡ suc m → (feed ≡ false) × (n ≡ m)
tail_of true n m e = absurd (omega arith)
tail_of false n m e = (refl, omega arith)

-- the first of some bytes without a line feed is none, and neither is any other
unfinished_tail : (byte : ℕ) (bytes : List ℕ) → IsUnfinished (byte ∷ bytes) → (is_line_feed byte ≡ false) × IsUnfinished bytes
unfinished_tail byte bytes u = tail_of (is_line_feed byte) (line_len bytes) (length bytes) u

-- a byte that ends no line
parts-step : (byte : ℕ) (bytes line : List ℕ) (room : ℕ) → is_line_feed byte ≡ false → 1 ≤ room
    → parts line room (byte ∷ bytes) ≡ parts (line ++ byte ∷ []) (room - 1) bytes
unfolding parts
parts-step byte bytes line room e h = rw (ne_eqb room 0 (λ z. omega arith), e) refl

-- a byte that ends a line
pub parts-feed : (bytes line : List ℕ) (room : ℕ) → 1 ≤ room → parts line room (10 ∷ bytes) ≡ part_of line ∷ parts [] (room - 1) bytes
unfolding parts
parts-feed bytes line room h = rw (ne_eqb room 0 (λ z. omega arith)) refl

-- bytes without a line feed move into the unfinished line
pub parts-append : (bytes line : List ℕ) (room : ℕ) (left : List ℕ) → IsUnfinished bytes → length bytes ≤ room
    → parts line room (bytes ++ left) ≡ parts (line ++ bytes) (room - length bytes) left
parts-append [] line room left u h = rw (append-nil, sub-zero) refl
parts-append (byte ∷ bytes) line room left u h =
    let t = unfinished_tail byte bytes u in
    let same : room - 1 - length bytes ≡ room - suc (length bytes) = omega arith in
    parts-step byte (bytes ++ left) line room t.0 (omega arith)
    ∙ parts-append bytes (line ++ byte ∷ []) (room - 1) left t.1 (omega arith)
    ∙ ap (λ l. parts l (room - 1 - length bytes) left) (append_assoc line (byte ∷ []) bytes)
    ∙ ap (λ k. parts (line ++ byte ∷ bytes) k left) same

-- what stands in the place of a line that is not too long
pub short_part : (line : List ℕ) → length line ≤ line_limit → part_of line ≡ Line line
short_part line h = rw (le-leb (length line) line_limit h) refl

-- a whole line in front is the first part
pub parts-line_in_front : (line bytes : List ℕ) (room : ℕ) → IsUnfinished line → length line ≤ line_limit → length line < room
    → parts [] room (line ++ (10 ∷ bytes)) ≡ Line line ∷ parts [] (room - (length line + 1)) bytes
parts-line_in_front line bytes room u short h =
    let left : room - length line - 1 ≡ room - (length line + 1) = omega arith in
    parts-append line [] room (10 ∷ bytes) u (omega arith)
    ∙ parts-feed bytes line (room - length line) (omega arith)
    ∙ ap (λ p. p ∷ parts [] (room - length line - 1) bytes) (short_part line short)
    ∙ ap (λ k. Line line ∷ parts [] k bytes) left

-- a byte that ends no line
whole_lines-step : (byte : ℕ) (bytes line : List ℕ) → is_line_feed byte ≡ false → whole_lines line (byte ∷ bytes) ≡ whole_lines (line ++ byte ∷ []) bytes
unfolding whole_lines
whole_lines-step byte bytes line e = rw e refl

-- a byte that ends a line
pub whole_lines-feed : (bytes line : List ℕ) → whole_lines line (10 ∷ bytes) ≡ part_of line ∷ whole_lines [] bytes
unfolding whole_lines
whole_lines-feed bytes line = refl

-- bytes without a line feed move into the unfinished line
pub whole_lines-append : (bytes line left : List ℕ) → IsUnfinished bytes → whole_lines line (bytes ++ left) ≡ whole_lines (line ++ bytes) left
whole_lines-append [] line left u = rw append-nil refl
whole_lines-append (byte ∷ bytes) line left u =
    let t = unfinished_tail byte bytes u in
    whole_lines-step byte (bytes ++ left) line t.0
    ∙ whole_lines-append bytes (line ++ byte ∷ []) left t.1
    ∙ ap (λ l. whole_lines l left) (append_assoc line (byte ∷ []) bytes)

-- and make no whole line
pub whole_lines-unfinished : (bytes line : List ℕ) → IsUnfinished bytes → whole_lines line bytes ≡ []
unfolding whole_lines
whole_lines-unfinished bytes line u =
    ap (whole_lines line) (sym (append-nil bytes)) ∙ whole_lines-append bytes line [] u

-- a line with its line feed in front is the first whole line
pub whole_lines-line_in_front : (line behind : List ℕ) → IsUnfinished line → whole_lines [] (line ++ (10 ∷ behind)) ≡ part_of line ∷ whole_lines [] behind
whole_lines-line_in_front line behind u =
    whole_lines-append line [] (10 ∷ behind) u ∙ whole_lines-feed behind line
