-- Facts about lists that upper crates cite too.
pub use Rattle.gpt_objects.proofs.Copied.{copied_more}
use Rattle.std.proofs.Common.{◌≡◌, ℕ, ◌⊎◌, inl, inr, List, [], ◌∷◌, length, get_or, set, map, replicate, zero, suc, refl, sym, ap, ◌∙◌, subst, arith}
use Rattle.std.specs.List.{All}
use Rattle.std.proofs.lemmas.Bool.{cases_eq, cases_lt}
use Rattle.std.proofs.lemmas.List.{get_or-set_same, get_or-set_other, get_or_past, set_past}
use Rattle.std.proofs.lemmas.List.Elements.{All-tail}

-- one function after the other is their composition
pub map-map : {A B C : Type 0} (f : B → C) (g : A → B) (xs : List A) → map f (map g xs) ≡ map (λ x. f (g x)) xs
map-map f g [] = refl
map-map f g (x ∷ xs) = ap (λ ys. f (g x) ∷ ys) (map-map f g xs)

-- copies stay copies
pub map-replicate : {A B : Type 0} (f : A → B) (n : ℕ) (x : A) → map f (replicate n x) ≡ replicate n (f x)
map-replicate f zero x = refl
map-replicate f (suc n) x = ap (λ ys. f x ∷ ys) (map-replicate f n x)

-- functions that agree on each element give one list
pub map-same : {A B : Type 0} (f g : A → B) (xs : List A) → All (λ x. f x ≡ g x) xs → map f xs ≡ map g xs
map-same f g [] all = refl
map-same f g (x ∷ xs) all = same_cons (all 0 x (omega arith)) (map-same f g xs (All-tail (λ y. f y ≡ g y) x xs all))
  where
    same_cons : f x ≡ g x → map f xs ≡ map g xs → map f (x ∷ xs) ≡ map g (x ∷ xs)
    same_cons e h = cc

-- what holds of each element, and of what stands for those that are not there, holds at each index
pub All-at : {A : Type 0} (P : A → Type 0) (xs : List A) (d : A) → P d → All P xs → (i : ℕ) → P (get_or xs i d)
All-at P xs d default all i = elim (cases_lt i (length xs)) [
  | inl there ↦ all i d there
  | inr past ↦ subst P (sym (get_or_past xs i d past)) default
]

-- an element after a write: what stood there, or at the index that was written the new one
pub get_or-set : {A : Type 0} (xs : List A) (i j : ℕ) (y d : A) → ((j ≡ i) × (get_or (set xs i y) j d ≡ y)) ⊎ (get_or (set xs i y) j d ≡ get_or xs j d)
get_or-set xs i j y d = elim (cases_eq j i) [
  | inl here ↦ at_index here
  | inr other ↦ inr (get_or-set_other xs i j y d other)
]
  where
    at_index : j ≡ i → ((j ≡ i) × (get_or (set xs i y) j d ≡ y)) ⊎ (get_or (set xs i y) j d ≡ get_or xs j d)
    at_index here = elim (cases_lt i (length xs)) [
      | inl there ↦ inl (here, ap (λ k. get_or (set xs i y) k d) here ∙ get_or-set_same xs i y d there)
      | inr past ↦ inr (ap (λ ys. get_or ys j d) (set_past xs i y past))
    ]
