-- Words that are all 0.
use Rattle.std.proofs.Common.{◌≡◌, ◌⊎◌, inl, inr, ℕ, ◌<◌, ◌≤◌, replicate, arith, leb, true, false}
use Rattle.std.specs.Prelude.{slice_index}
use Rattle.std.proofs.lemmas.Bool.Decides.{leb_tells}
use Rattle.std.proofs.lemmas.List.{get_or-replicate, get_or_past, length-replicate}

-- any word of zeros is 0, also past the end
pub slice_index-replicate : (n k : ℕ) → slice_index (replicate n 0) k ≡ 0
slice_index-replicate n k = on (leb_tells n k)
  where
    on : ((leb n k ≡ true) × (n ≤ k)) ⊎ ((leb n k ≡ false) × (k < n)) → slice_index (replicate n 0) k ≡ 0
    on (inl past) = get_or_past (replicate n 0) k 0 (let size = length-replicate {A = ℕ} n 0 in let over = past.1 in omega (arith, over, size))
    on (inr less) = get_or-replicate n k 0 0 less.1
