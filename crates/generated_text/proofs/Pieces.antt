-- The pieces of the generated text, one behind the other.
use Rattle.std.proofs.Common.{ℕ, zero, suc, ◌≡◌, ◌+◌, ◌-◌, ◌<◌, ◌≤◌, List, [], ◌∷◌, ◌++◌, length, get_or, take, drop, map, refl, sym, ap, ◌∙◌, arith, append_assoc, length-append, take-append-drop}
use Rattle.std.specs.List.{range_with_len, concat}
use Rattle.std.proofs.Math.ListN.{drop_of_length-le}
use Rattle.std.proofs.lemmas.List.{drop-drop, drop_more, get_or_append_left, get_or-append_right}
use Rattle.std.proofs.lemmas.List.FromFn.{length-map-range_with_len, get_or-map-range_with_len}
use Rattle.generated_text.specs.Text.{pairs_of, calls_of, head_text, pair_text, tail_text, pieces_of, ahead_of}

abbrev pairs_in : ℕ → List (List ℕ)
pairs_in n = map (λ i. pair_text (calls_of n) i) (range_with_len 0 (pairs_of n))

length-pairs_in : (n : ℕ) → length (pairs_in n) ≡ pairs_of n
length-pairs_in n = length-map-range_with_len (λ i. pair_text (calls_of n) i) 0 (pairs_of n)

length-pieces_of : (n : ℕ) → length (pieces_of n) ≡ pairs_of n + 2
unfolding pieces_of
length-pieces_of n =
    let more = length-append (pairs_in n) (tail_text n ∷ []) in
    let pairs = length-pairs_in n in
    omega arith

-- ---- each piece

pub first_piece : (n done : ℕ) → done ≡ 0 → get_or (pieces_of n) done [] ≡ head_text n
unfolding pieces_of
first_piece n done none = rw none refl

pub pair_piece : (n done : ℕ) → 1 ≤ done → done ≤ pairs_of n → get_or (pieces_of n) done [] ≡ pair_text (calls_of n) (done - 1)
unfolding pieces_of
pair_piece n (suc i) some most =
    let pairs = length-pairs_in n in
    let back : i ≡ suc i - 1 = omega arith in
    get_or_append_left (pairs_in n) (tail_text n ∷ []) [] i (omega arith)
    ∙ (get_or-map-range_with_len (λ k. pair_text (calls_of n) k) 0 (pairs_of n) i i [] (omega arith) (omega arith) ∙ ap (λ k. pair_text (calls_of n) k) back)
pair_piece n zero some most = absurd (omega arith)

pub last_piece : (n done : ℕ) → done ≡ pairs_of n + 1 → get_or (pieces_of n) done [] ≡ tail_text n
unfolding pieces_of
last_piece n (suc i) e =
    let pairs = length-pairs_in n in
    let none : i - i ≡ 0 = omega arith in
    get_or-append_right (pairs_in n) (tail_text n ∷ []) i i [] (omega arith) (omega arith) ∙ ap (λ k. get_or (tail_text n ∷ []) k []) none
last_piece n zero e = absurd (omega arith)

-- ---- taking some of a piece

-- a whole new piece stands in the place of one that was given
pub renewed : (n done at : ℕ) (old new : List ℕ) → done ≤ pairs_of n + 1 → length old ≤ at → new ≡ get_or (pieces_of n) done [] → ahead_of n (done + 1) new 0 ≡ ahead_of n done old at
renewed n done at old new within given is =
    let long = length-pieces_of n in
    ap (λ text. text ++ concat (drop (done + 1) (pieces_of n))) is
    ∙ sym (rw (drop_of_length-le old given) (ap concat (drop_more (pieces_of n) done [] (omega arith))))

-- nothing is left
pub used_up : (n done at : ℕ) (old : List ℕ) → pairs_of n + 1 < done → length old ≤ at → ahead_of n done old at ≡ []
used_up n done at old past given =
    let long = length-pieces_of n in
    let over : length (pieces_of n) ≤ done = omega arith in
    rw (drop_of_length-le old given, drop_of_length-le (pieces_of n) over) refl

-- the bytes given, and then those that are left
pub given_front : (piece behind given : List ℕ) (at n : ℕ) → given ≡ take n (drop at piece) → drop at piece ++ behind ≡ given ++ (drop (at + n) piece ++ behind)
given_front piece behind given at n is =
    ap (λ text. text ++ behind) (sym (take-append-drop n (drop at piece)))
    ∙ append_assoc (take n (drop at piece)) (drop n (drop at piece)) behind
    ∙ ap (λ text. take n (drop at piece) ++ (text ++ behind)) (drop-drop n at piece)
    ∙ ap (λ text. text ++ (drop (at + n) piece ++ behind)) (sym is)
