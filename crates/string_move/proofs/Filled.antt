-- Room that is filled with the bytes of pieces, one after the other.
use Rattle.std.proofs.Common.{◌≡◌, ℕ, ◌+◌, ◌-◌, ◌<◌, ◌≤◌, min, inl, inr, List, ◌∷◌, ◌++◌, length, get_or, take, drop, refl, sym, ap, ◌∙◌, arith, append_assoc, append-nil}
use borrow.Rule.Slice.PartMut.{put_mid}
use Rattle.std.proofs.Math.Seq.{take-append-add}
use Rattle.std.proofs.lemmas.Bool.{cases_lt}
use Rattle.std.proofs.lemmas.List.{length-take, length-take-le, length-drop, length-append, take-take, take_all, take-append-le, at_drop_more}
use Rattle.std.proofs.lemmas.Slice.{take-put_mid}
use Rattle.std.proofs.lemmas.List.Sums.{sum_by-drop_more}
use Rattle.object_store.specs.Store.{Store, page_at}
use Rattle.string_move.specs.declared.piece.Piece.{Piece}
use Rattle.string_move.specs.Move.{size_of_pieces, piece_bytes, gathered}

-- the first `filled` bytes of the room, and those that the pieces still to come fill in, are the first bytes of all
pub record IsFilled (s : Store) (pieces : List Piece) (i filled : ℕ) (room : List ℕ) : Type 0 where
  pub fits : filled ≤ length room
  pub rest : length room ≤ filled + size_of_pieces (drop i pieces)
  pub same : take filled room ++ take (length room - filled) (gathered s (drop i pieces)) ≡ take (length room) (gathered s pieces)

-- the first bytes of two parts
take_parts : (m : ℕ) (xs ys : List ℕ) → take m (xs ++ ys) ≡ take m xs ++ take (m - length xs) ys
take_parts m xs ys = elim (cases_lt m (length xs)) [
  | inl short ↦
      let none : m - length xs ≡ 0 = omega (arith, short) in
      take-append-le m xs ys (omega (arith, short)) ∙ sym (ap (λ n. take m xs ++ take n ys) none ∙ append-nil (take m xs))
  | inr long ↦
      let parts : m ≡ length xs + (m - length xs) = omega (arith, long) in
      ap (λ n. take n (xs ++ ys)) parts ∙ (take-append-add xs ys (m - length xs) ∙ ap (λ zs. zs ++ take (m - length xs) ys) (sym (take_all m xs long)))
]

-- what a piece gives
gathered_cons : (s : Store) (piece : Piece) (pieces : List Piece) → gathered s (piece ∷ pieces) ≡ piece_bytes s piece ++ gathered s pieces
unfolding gathered
gathered_cons s piece pieces = refl

-- one piece more, up to its end or the end of the room
filled_more : (s : Store) (pieces : List Piece) (i filled end : ℕ) (room new : List ℕ) (d : Piece) → i < length pieces
    → length (page_at s (get_or pieces i d).page) ≡ 4096 → (get_or pieces i d).at + (get_or pieces i d).len ≤ 4096
    → end ≡ min (length room) (filled + (get_or pieces i d).len) → length new ≡ length room
    → take end new ≡ take filled room ++ take (end - filled) (drop (get_or pieces i d).at (page_at s (get_or pieces i d).page))
    → IsFilled s pieces i filled room → IsFilled s pieces (i + 1) end new
filled_more s pieces i filled end room new d there page inside end_is size taken is =
    let piece = get_or pieces i d in
    let page_bytes = drop piece.at (page_at s piece.page) in
    let rest = gathered s (drop (i + 1) pieces) in
    let m = length room - filled in
    let n = end - filled in
    let fits = is.fits in
    let more = sum_by-drop_more (λ (x : Piece). x.len) pieces i d there in
    let count : n ≡ min m piece.len = omega (arith, end_is, fits) in
    let long : length page_bytes ≡ 4096 - piece.at = length-drop piece.at (page_at s piece.page) ∙ ap (λ k. k - piece.at) page in
    let bytes : length (take piece.len page_bytes) ≡ piece.len = length-take-le piece.len page_bytes (omega (arith, long, inside)) in
    let first : take m (take piece.len page_bytes) ≡ take n page_bytes = cut m piece.len page_bytes n count in
    let left : m - length (take piece.len page_bytes) ≡ length new - end = omega (arith, bytes, end_is, size, fits) in
    let next : gathered s (drop i pieces) ≡ take piece.len page_bytes ++ rest = at_drop_more (gathered s) pieces i d there ∙ gathered_cons s piece (drop (i + 1) pieces) in
    let step : take m (gathered s (drop i pieces)) ≡ take n page_bytes ++ take (length new - end) rest =
    ap (take m) next
    ∙ (take_parts m (take piece.len page_bytes) rest
    ∙ (ap (λ xs. xs ++ take (m - length (take piece.len page_bytes)) rest) first
    ∙ ap (λ k. take n page_bytes ++ take k rest) left)) in
    record {
      fits = omega (arith, end_is, size);
      rest = omega (arith, is.rest, fits, end_is, size, more);
      same =
          ap (λ xs. xs ++ take (length new - end) rest) taken
          ∙ (append_assoc (take filled room) (take n page_bytes) (take (length new - end) rest)
          ∙ (ap (λ xs. take filled room ++ xs) (sym step)
          ∙ (is.same
          ∙ ap (λ k. take k (gathered s pieces)) (sym size))));
    }
  where
    cut : (m len : ℕ) (xs : List ℕ) (n : ℕ) → n ≡ min m len → take m (take len xs) ≡ take n xs
    cut m len xs n count = elim (cases_lt m len) [
      | inl short ↦
          let same : m ≡ n = omega (arith, short, count) in
          take-take m len xs (omega (arith, short)) ∙ ap (λ k. take k xs) same
      | inr all ↦
          let same : len ≡ n = omega (arith, all, count) in
          take_all m (take len xs) (omega (arith, all, length-take len xs)) ∙ ap (λ k. take k xs) same
    ]

-- as many bytes as were there are written over them
length-put_mid : (a k : ℕ) (xs ys : List ℕ) → a + k ≤ length xs → length ys ≡ k → length (put_mid a k xs ys) ≡ length xs
length-put_mid a k xs ys within size =
    let whole = length-append (take a xs) (ys ++ drop k (drop a xs)) in
    let parts = length-append ys (drop k (drop a xs)) in
    let front = length-take-le a xs (omega (arith, within)) in
    let behind = length-drop k (drop a xs) in
    let back = length-drop a xs in
    omega (arith, whole, parts, front, behind, back, size, within)

-- what a step of the loop leaves
pub record IsFurther (s : Store) (pieces : List Piece) (i end : ℕ) (room new : List ℕ) : Type 0 where
  pub filled : IsFilled s pieces i end new
  pub size : length new ≡ length room

-- the bytes of one piece are read to the room that is left
pub filled_by : (s : Store) (pieces : List Piece) (i filled end : ℕ) (room into page : List ℕ) (d : Piece) → i < length pieces
    → page ≡ page_at s (get_or pieces i d).page → length page ≡ 4096 → (get_or pieces i d).at + (get_or pieces i d).len ≤ 4096
    → end ≡ min (length room) (filled + (get_or pieces i d).len)
    → into ≡ take (length (take (end - filled) (drop filled room))) (drop (get_or pieces i d).at page)
    → IsFilled s pieces i filled room → IsFurther s pieces (i + 1) end room (put_mid filled (end - filled) room into)
filled_by s pieces i filled end room into page d there page_is long inside end_is into_is is =
    let piece = get_or pieces i d in
    let n = end - filled in
    let fits = is.fits in
    let left : length (drop filled room) ≡ length room - filled = length-drop filled room in
    let count : length (take n (drop filled room)) ≡ n = length-take-le n (drop filled room) (omega (arith, left, end_is, fits)) in
    let bytes : into ≡ take n (drop piece.at (page_at s piece.page)) =
    into_is ∙ (ap (λ k. take k (drop piece.at page)) count ∙ ap (λ xs. take n (drop piece.at xs)) page_is) in
    let page_long : length (page_at s piece.page) ≡ 4096 = sym (ap length page_is) ∙ long in
    let rest : length (drop piece.at (page_at s piece.page)) ≡ 4096 - piece.at = length-drop piece.at (page_at s piece.page) ∙ ap (λ k. k - piece.at) page_long in
    let size : length into ≡ n = ap length bytes ∙ length-take-le n (drop piece.at (page_at s piece.page)) (omega (arith, rest, end_is, inside)) in
    let same_length = length-put_mid filled n room into (omega (arith, end_is, fits)) size in
    let taken = take-put_mid filled n room into end (omega (arith, size, end_is, fits)) fits ∙ ap (λ xs. take filled room ++ xs) bytes in
    record {
      filled = filled_more s pieces i filled end room (put_mid filled n room into) d there page_long inside end_is same_length taken is;
      size = same_length;
    }
