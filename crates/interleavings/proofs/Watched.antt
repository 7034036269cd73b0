-- What stands in a part of a list stands in the list.
use Rattle.std.proofs.Common.{◌≡◌, ℕ, zero, suc, ◌==◌, ◌<◌, true, List, [], ◌∷◌, ◌++◌, length, get_or, flat_map, ◌∙◌, arith, eq-eqb, refl}
use Rattle.std.proofs.lemmas.Bool.{or_left, or_right}
use Rattle.std.proofs.lemmas.List.Folds.{list_any-append}
use Rattle.schedules.specs.Queues.{stands_in}

-- the one that is there alone
pub stands-alone : (p : ℕ) → stands_in (p ∷ []) p ≡ true
stands-alone p = or_left (p == p) _ (eq-eqb p p refl)

-- in the first of two lists
pub stands-first : (xs ys : List ℕ) (p : ℕ) → stands_in xs p ≡ true → stands_in (xs ++ ys) p ≡ true
stands-first xs ys p stands = list_any-append (λ x. x == p) xs ys ∙ or_left (stands_in xs p) (stands_in ys p) stands

-- in the second
pub stands-second : (xs ys : List ℕ) (p : ℕ) → stands_in ys p ≡ true → stands_in (xs ++ ys) p ≡ true
stands-second xs ys p stands = list_any-append (λ x. x == p) xs ys ∙ or_right (stands_in xs p) (stands_in ys p) stands

-- in what one of many gives
pub stands-of : {X : Type 0} (of : X → List ℕ) (xs : List X) (i : ℕ) (d : X) (p : ℕ) → i < length xs → stands_in (of (get_or xs i d)) p ≡ true
    → stands_in (flat_map of xs) p ≡ true
stands-of of [] i d p there stands = absurd (omega (arith, there))
stands-of of (x ∷ xs) zero d p there stands = stands-first (of x) (flat_map of xs) p stands
stands-of of (x ∷ xs) (suc i) d p there stands = stands-second (of x) (flat_map of xs) p (stands-of of xs i d p (omega (arith, there)) stands)
