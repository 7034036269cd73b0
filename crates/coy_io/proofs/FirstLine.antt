-- Where the first line of some bytes ends.
use Rattle.std.proofs.Common.{◌≡◌, ◌≤◌, T, subst, ℕ, ◌+◌, ◌<◌, List, ◌++◌, length, take, drop, Some, None, Bool, true, false, cond, nat_lt, refl, sym, ap, ◌∙◌, arith}
use Rattle.std.specs.Prelude.{position, not, eqb}
use Rattle.std.proofs.lemmas.Bool.{ltb-false}
use Rattle.std.proofs.Math.Dec.{eqb_refl}
use Rattle.std.proofs.Math.ListN.{get_or}
use Rattle.std.proofs.lemmas.List.{take-append-drop, length-take-le, get_or-take}
use Rattle.std.proofs.lemmas.List.Sums.{prefix_len-le-length, prefix_len_is, prefix_len_passes}
use Rattle.std.proofs.lemmas.List.Folds.{prefix_len-append}
use Rattle.coy_io.specs.Lines.{is_line_feed, line_len, IsUnfinished}

-- the first line is no longer than the bytes
pub line_len_within : (bytes : List ℕ) → line_len bytes ≤ length bytes
line_len_within bytes = prefix_len-le-length (λ b. not (is_line_feed b)) bytes

all_where : (test : Bool) (n m : ℕ) → nat_lt n m ≡ test → n ≤ m → None ≡ cond test (Some n) None → m ≡ n
all_where true n m e le h = cc
all_where false n m e le h = omega (arith, ltb-false n m e)

-- where there is no line feed the first line is all
pub line_len_without : (bytes : List ℕ) → None ≡ position is_line_feed bytes → length bytes ≡ line_len bytes
line_len_without bytes h =
    all_where (nat_lt (line_len bytes) (length bytes)) (line_len bytes) (length bytes) refl (line_len_within bytes) h

after_all : (test : Bool) (n m k : ℕ) → eqb n m ≡ test → n ≡ m → cond test (m + k) n ≡ m + k
after_all true n m k e same = refl
after_all false n m k e same = absurd (subst T (rw same at e) (eqb_refl m))

-- behind bytes without a line feed the first line goes on
pub line_len-append : (bytes more : List ℕ) → IsUnfinished bytes → line_len (bytes ++ more) ≡ length bytes + line_len more
line_len-append bytes more u =
    prefix_len-append (λ b. not (is_line_feed b)) bytes more ∙ after_all (eqb (line_len bytes) (length bytes)) _ _ _ refl u

-- a front of the first line has no line feed
pub unfinished_front : (bytes : List ℕ) (n : ℕ) → n ≤ line_len bytes → IsUnfinished (take n bytes)
unfinished_front bytes n h =
    let inside : n ≤ length bytes = omega (arith, line_len_within bytes) in
    let len : length (take n bytes) ≡ n = length-take-le n bytes inside in
    let passes : (k : ℕ) → k < length (take n bytes) → not (is_line_feed (get_or (take n bytes) k 0)) ≡ true =
    λ k j. ap (λ b. not (is_line_feed b)) (get_or-take n bytes k 0 (omega arith))
    ∙ prefix_len_passes (λ b. not (is_line_feed b)) bytes k 0 (omega arith) in
    prefix_len_is (λ b. not (is_line_feed b)) (take n bytes) (length (take n bytes)) 0 (omega arith) passes (λ j. absurd (omega arith))

-- the first line, of which a front was read
pub line_len_from : (bytes : List ℕ) (read : ℕ) → read ≤ line_len bytes → read + line_len (drop read bytes) ≡ line_len bytes
line_len_from bytes read h =
    let len : length (take read bytes) ≡ read = length-take-le read bytes (omega (arith, line_len_within bytes)) in
    sym (ap line_len (sym (take-append-drop read bytes))
    ∙ line_len-append (take read bytes) (drop read bytes) (unfinished_front bytes read h)
    ∙ ap (λ k. k + line_len (drop read bytes)) len)

grows : (test : Bool) (n m k : ℕ) → n ≤ m → n ≤ cond test (m + k) n
grows true n m k h = omega arith
grows false n m k h = omega arith

-- bytes that come behind leave the first line where it ends, or make it longer
pub line_len_grows : (bytes more : List ℕ) → take (length bytes) more ≡ bytes → line_len bytes ≤ line_len more
line_len_grows bytes more e =
    let rest = drop (length bytes) more in
    let whole : more ≡ bytes ++ rest = sym (take-append-drop (length bytes) more) ∙ ap (λ l. l ++ rest) e in
    let len = ap line_len whole ∙ prefix_len-append (λ b. not (is_line_feed b)) bytes rest in
    rw len (grows (eqb (line_len bytes) (length bytes)) _ _ _ (line_len_within bytes))
