-- A loop that replaces each element of a list by what a function makes of it.
use Rattle.std.proofs.Common.{◌≡◌, ℕ, zero, suc, ◌+◌, ◌<◌, List, [], ◌∷◌, ◌++◌, map, take, drop, set, get_or, length, refl, ap, arith, replicate, add-one}
use Rattle.std.proofs.lemmas.List.{replicate-append-replicate}

-- the first i elements are replaced, and the others as they were
abbrev pub mapped : {A : Type 0} → (A → A) → ℕ → List A → List A
mapped f i xs = map f (take i xs) ++ drop i xs

mapped-suc : {A : Type 0} (f : A → A) (i : ℕ) (xs : List A) (d : A) → i < length xs → set (mapped f i xs) i (f (get_or (mapped f i xs) i d)) ≡ mapped f (suc i) xs
mapped-suc f i [] d within = absurd (omega (arith, within))
mapped-suc f zero (x ∷ xs) d within = refl
mapped-suc f (suc i) (x ∷ xs) d within = ap (λ l. f x ∷ l) (mapped-suc f i xs d (omega (arith, within)))

-- one more element is replaced
pub mapped_more : {A : Type 0} (f : A → A) (i : ℕ) (xs ys : List A) (d : A) → ys ≡ mapped f i xs → i < length xs → set ys i (f (get_or ys i d)) ≡ mapped f (i + 1) xs
mapped_more f i xs ys d e within = rw (e, add-one) (mapped-suc f i xs d within)

-- one more of the same
pub replicate_more : {A : Type 0} (n : ℕ) (x : A) → replicate n x ++ x ∷ [] ≡ replicate (n + 1) x
replicate_more n x = replicate-append-replicate n 1 x
