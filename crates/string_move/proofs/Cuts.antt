-- The spans of a string: the next one, and what all of them cover.
use Rattle.std.proofs.Common.{◌≡◌, ℕ, zero, suc, ◌+◌, ◌-◌, ◌*◌, ◌%◌, ◌/◌, ◌<◌, ◌≤◌, inl, inr, List, [], ◌∷◌, ◌++◌, length, refl, sym, ap, ◌∙◌, subst, arith, append_assoc, append-nil, length-append}
use Rattle.std.specs.List.{All}
use Rattle.std.proofs.lemmas.Nat.{mod_below, div-add-mod'}
use Rattle.std.proofs.lemmas.Bool.{cases_lt}
use Rattle.std.proofs.lemmas.List.Elements.{All-cons}
use Rattle.string_move.specs.declared.span.Span.{Span}
use Rattle.string_move.specs.Spans.{span, first_size, spans_within, spans, Cover, IsInOnePage}

-- no bytes have no span
none_within : (most at : ℕ) → spans_within most at 0 ≡ []
unfolding spans_within
none_within zero at = refl
none_within (suc most) at = refl

-- the first span of some bytes is not empty
first_some : (at len : ℕ) → 0 < len → 0 < first_size at len
first_some at len some = let below : at % 4096 < 4096 = mod_below at 4096 (omega arith) in omega (arith, below)

-- two limits that are high enough give the same spans
enough_within : (m n at len : ℕ) → len ≤ m → len ≤ n → spans_within m at len ≡ spans_within n at len
unfolding spans_within
enough_within m n at zero high also = none_within m at ∙ sym (none_within n at)
enough_within zero n at (suc len) high also = absurd (omega arith)
enough_within (suc m) zero at (suc len) high also = absurd (omega arith)
enough_within (suc m) (suc n) at (suc len) high also =
    let some = first_some at (suc len) (omega arith) in
    ap (λ rest. span at (first_size at (suc len)) ∷ rest) (enough_within m n (at + first_size at (suc len)) (suc len - first_size at (suc len)) (omega (arith, some)) (omega (arith, some)))

-- no bytes
pub spans_none : (at : ℕ) → spans at 0 ≡ []
unfolding spans
spans_none at = none_within 0 at

-- the first span of some bytes, and then those of the rest
pub spans_more : (at len : ℕ) → 0 < len → spans at len ≡ span at (first_size at len) ∷ spans (at + first_size at len) (len - first_size at len)
unfolding spans spans_within
spans_more at zero some = absurd (omega arith)
spans_more at (suc len) some =
    let first = first_some at (suc len) some in
    ap (λ rest. span at (first_size at (suc len)) ∷ rest) (enough_within len (suc len - first_size at (suc len)) (at + first_size at (suc len)) (suc len - first_size at (suc len)) (omega (arith, first)) (omega arith))

-- they cover the bytes exactly
cover_within : (most at len : ℕ) → len ≤ most → Cover at (at + len) (spans_within most at len)
unfolding spans_within
cover_within most at zero high = subst (Cover at (at + 0)) (sym (none_within most at)) (omega arith)
cover_within zero at (suc len) high = absurd (omega arith)
cover_within (suc most) at (suc len) high =
    let some = first_some at (suc len) (omega arith) in
    let size = first_size at (suc len) in
    let rest = cover_within most (at + size) (suc len - size) (omega (arith, some)) in
    let end : at + size + (suc len - size) ≡ at + suc len = omega arith in
    (refl, some, subst (λ e. Cover (at + size) e (spans_within most (at + size) (suc len - size))) end rest)

-- each lies in one page
one_page_within : (most at len : ℕ) → All IsInOnePage (spans_within most at len)
unfolding spans_within
one_page_within zero at len = λ k d there. absurd (omega arith)
one_page_within (suc most) at zero = λ k d there. absurd (omega arith)
one_page_within (suc most) at (suc len) =
    let below : at % 4096 < 4096 = mod_below at 4096 (omega arith) in
    All-cons IsInOnePage (span at (first_size at (suc len))) (spans_within most (at + first_size at (suc len)) (suc len - first_size at (suc len)))
    (omega (arith, below)) (one_page_within most (at + first_size at (suc len)) (suc len - first_size at (suc len)))

-- the next multiple of 4,096 is one
next_page : (at : ℕ) → (at + (4096 - at % 4096)) % 4096 ≡ 0
next_page at =
    let below : at % 4096 < 4096 = mod_below at 4096 (omega arith) in
    let parts : at / 4096 * 4096 + at % 4096 ≡ at = div-add-mod' at 4096 in
    omega (arith, below, parts)

-- how many there are: one for each page that they touch
count_within : (most at len : ℕ) → 4096 * length (spans_within most at len) < at % 4096 + len + 4096
unfolding spans_within
count_within zero at len = omega arith
count_within (suc most) at zero = omega arith
count_within (suc most) at (suc len) = elim (cases_lt (4096 - at % 4096) (suc len)) [
  | inl over ↦
      let size : first_size at (suc len) ≡ 4096 - at % 4096 = omega (arith, over) in
      let rest = count_within most (at + first_size at (suc len)) (suc len - first_size at (suc len)) in
      let aligned : (at + first_size at (suc len)) % 4096 ≡ 0 = ap (λ n. (at + n) % 4096) size ∙ next_page at in
      let below : at % 4096 < 4096 = mod_below at 4096 (omega arith) in
      omega (arith, rest, aligned, size, over, below)
  | inr within ↦
      let size : suc len - first_size at (suc len) ≡ 0 = omega (arith, within) in
      let none : length (spans_within most (at + first_size at (suc len)) (suc len - first_size at (suc len))) ≡ 0 =
      ap (λ n. length (spans_within most (at + first_size at (suc len)) n)) size ∙ ap length (none_within most (at + first_size at (suc len))) in
      omega (arith, none)
]

-- the same of all spans of a string
pub spans_cover : (at len : ℕ) → Cover at (at + len) (spans at len)
unfolding spans
spans_cover at len = cover_within len at len (omega arith)

pub spans_in_one_page : (at len : ℕ) → All IsInOnePage (spans at len)
unfolding spans
spans_in_one_page at len = one_page_within len at len

pub length-spans : (at len : ℕ) → len ≤ 65536 → length (spans at len) ≤ 17
unfolding spans
length-spans at len most =
    let count = count_within len at len in
    let below : at % 4096 < 4096 = mod_below at 4096 (omega arith) in
    omega (arith, count, below)

-- ---- a string that is cut span by span: those so far, and those of the bytes that are left, are all

-- one span more
pub cut_more : (list all : List Span) (next left size : ℕ) → 0 < left → size ≡ first_size next left → list ++ spans next left ≡ all → (list ++ span next size ∷ []) ++ spans (next + size) (left - size) ≡ all
cut_more list all next left size some size_is so_far =
    append_assoc list (span next size ∷ []) (spans (next + size) (left - size))
    ∙ (ap (λ n. list ++ span next n ∷ spans (next + n) (left - n)) size_is
    ∙ (ap (λ rest. list ++ rest) (sym (spans_more next left some)) ∙ so_far))

-- there is room for one span more
pub cut_room : (list : List Span) (next left at len : ℕ) → 0 < left → len ≤ 65536 → list ++ spans next left ≡ spans at len → length list < 17
cut_room list next left at len some most so_far =
    let all = length-spans at len most in
    let rest : length (spans next left) ≡ suc (length (spans (next + first_size next left) (left - first_size next left))) = ap length (spans_more next left some) in
    let parts : length list + length (spans next left) ≡ length (spans at len) = sym (length-append list (spans next left)) ∙ ap length so_far in
    omega (arith, all, rest, parts)

-- no bytes are left
pub cut_all : (list all : List Span) (next left : ℕ) → left ≤ 0 → list ++ spans next left ≡ all → list ≡ all
cut_all list all next left none so_far =
    let nothing : left ≡ 0 = omega (arith, none) in
    sym (append-nil list) ∙ (ap (λ rest. list ++ rest) (sym (ap (spans next) nothing ∙ spans_none next)) ∙ so_far)
