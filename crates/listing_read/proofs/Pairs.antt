-- Pairs of digits, one after the other.
use Rattle.std.proofs.Common.{ℕ, ◌≡◌, ◌<◌, ◌≤◌, ◌+◌, ◌*◌, refl, sym, ap, ◌∙◌, arith, append_assoc, append-nil, List, [], ◌∷◌, ◌++◌, length, drop, slice_index, Option, Some, None}
use Rattle.std.specs.Prelude.{option_map}
use Rattle.std.proofs.lemmas.List.{drop_more}
use Rattle.std.proofs.Math.ListN.{drop_of_length-le}
use Rattle.coy_text.specs.Reading.{◌>>=◌}
use Rattle.listing_read.specs.Bytes.{byte_of, bytes_of}

-- the two digits that stand next
next_pair : (digits : List ℕ) (i : ℕ) → 2 * i + 1 < length digits
    → drop (2 * i) digits ≡ slice_index digits (2 * i) ∷ slice_index digits (2 * i + 1) ∷ drop (2 * (i + 1)) digits
next_pair digits i within =
    let next : 2 * i + 1 + 1 ≡ 2 * (i + 1) = omega arith in
    drop_more digits (2 * i) 0 (omega (arith, within))
    ∙ ap (λ rest. slice_index digits (2 * i) ∷ rest) (drop_more digits (2 * i + 1) 0 within)
    ∙ ap (λ k. slice_index digits (2 * i) ∷ slice_index digits (2 * i + 1) ∷ drop k digits) next

-- where they are no byte, there are no bytes
pub pairs_none : (digits bytes : List ℕ) (i : ℕ) → 2 * i + 1 < length digits
    → option_map (λ rest. bytes ++ rest) (bytes_of (drop (2 * i) digits)) ≡ bytes_of digits
    → byte_of (slice_index digits (2 * i)) (slice_index digits (2 * i + 1)) ≡ None
    → bytes_of digits ≡ None
unfolding bytes_of
pairs_none digits bytes i within before none =
    sym before ∙ rw (next_pair digits i within, none) refl

-- a byte behind these and before the others
behind_pair : (bytes : List ℕ) (byte : ℕ) (others : Option (List ℕ))
    → option_map (λ rest. (bytes ++ byte ∷ []) ++ rest) others ≡ option_map (λ rest. bytes ++ rest) (others >>= (λ rest. Some (byte ∷ rest)))
behind_pair bytes byte None = refl
behind_pair bytes byte (Some rest) = ap Some (append_assoc bytes (byte ∷ []) rest)

-- and otherwise theirs comes behind the bytes before
pub pairs_some : (digits bytes : List ℕ) (i byte : ℕ) → 2 * i + 1 < length digits
    → option_map (λ rest. bytes ++ rest) (bytes_of (drop (2 * i) digits)) ≡ bytes_of digits
    → byte_of (slice_index digits (2 * i)) (slice_index digits (2 * i + 1)) ≡ Some byte
    → option_map (λ rest. (bytes ++ byte ∷ []) ++ rest) (bytes_of (drop (2 * (i + 1)) digits)) ≡ bytes_of digits
unfolding bytes_of
pairs_some digits bytes i byte within before some =
    let step : bytes_of (drop (2 * i) digits) ≡ (bytes_of (drop (2 * (i + 1)) digits) >>= (λ rest. Some (byte ∷ rest))) = rw (next_pair digits i within, some) refl in
    behind_pair bytes byte (bytes_of (drop (2 * (i + 1)) digits))
    ∙ ap (option_map (λ rest. bytes ++ rest)) (sym step)
    ∙ before

-- behind the last pair
pub pairs_end : (digits bytes : List ℕ) (i : ℕ) → length digits ≤ 2 * i
    → option_map (λ rest. bytes ++ rest) (bytes_of (drop (2 * i) digits)) ≡ bytes_of digits
    → bytes_of digits ≡ Some bytes
unfolding bytes_of
pairs_end digits bytes i past before =
    sym before ∙ rw (drop_of_length-le digits past, append-nil bytes) refl
