-- Elements and order of lists that are put together.
use Rattle.std.proofs.Common.{◌≡◌, ℕ, zero, suc, ◌<◌, ◌≤◌, ◌⊎◌, inl, inr, List, [], ◌∷◌, ◌++◌, get_or, Option, Some, None, refl, sym, ap, subst, arith}
use Rattle.std.specs.List.{All, Contains, AllPairs}
use Rattle.std.proofs.lemmas.Bool.{cases_lt}
use Rattle.std.proofs.lemmas.List.{get_or_default}
use Rattle.std.proofs.lemmas.List.Elements.{All-append, Contains-append_left, Contains-append_right, Contains-append_cases}
use Rattle.std.proofs.lemmas.List.Kept.{AllPairs-cons}
use Rattle.separation_check.specs.Crossings.{all_below, listed}
use Rattle.separation_check.proofs.Gathered.{below-suc, none-yet}

-- ---- elements

module _ {A : Type 0} where
  no_element : (x : A) → Contains ([]) x → ⊥
  no_element x at = omega (arith, at.1)

  -- the element of a list of one
  pub element-one : (y x : A) → Contains (y ∷ []) x → y ≡ x
  element-one y x (zero, lt, is) = is
  element-one y x (suc k, lt, is) = absurd (omega (arith, lt))

  pub one-element : (x : A) → Contains (x ∷ []) x
  one-element x = (0, omega arith, refl)

  pub later-element : (y : A) (xs : List A) (x : A) → Contains xs x → Contains (y ∷ xs) x
  later-element y xs x at = (suc at.0, omega (arith, at.1), at.2)

  pub first-element : (x : A) (xs : List A) → Contains (x ∷ xs) x
  first-element x xs = (0, omega arith, refl)

  -- what is there, as a list
  pub listed-is : (o : Option A) (x : A) → Contains (listed o) x → o ≡ Some x
  listed-is None x at = absurd (no_element x at)
  listed-is (Some y) x at = ap (λ (z : A). Some z) (element-one y x at)

  pub is-listed : (o : Option A) (x : A) → o ≡ Some x → Contains (listed o) x
  is-listed o x is = subst (λ (o : Option A). Contains (listed o) x) (sym is) (one-element x)

module _ {A : Type 0} (f : ℕ → List A) where
  below_none : (x : A) → Contains (all_below f 0) x → ⊥
  below_none x at = no_element x (subst (λ (xs : List A). Contains xs x) (sym (none-yet f [])) at)

  -- an element of all that numbers give is one that a number gives
  pub below-has : (n : ℕ) (x : A) → Contains (all_below f n) x → (j : ℕ) × (j < n) × Contains (f j) x
  below-has zero x at = absurd (below_none x at)
  below-has (suc n) x at =
      elim (Contains-append_cases (all_below f n) (f n) x (subst (λ (xs : List A). Contains xs x) (below-suc f n) at)) [
        | inl before ↦ let found = below-has n x before in (found.0, omega (arith, found.1), found.2)
        | inr here ↦ (n, omega arith, here)
      ]

  pub has-below : (n : ℕ) (x : A) (j : ℕ) → j < n → Contains (f j) x → Contains (all_below f n) x
  has-below zero x j lt at = absurd (omega (arith, lt))
  has-below (suc n) x j lt at = subst (λ (xs : List A). Contains xs x) (sym (below-suc f n)) (by (cases_lt j n) (λ less. has-below n x j less at))
    where
      by : (j < n) ⊎ (n ≤ j) → (j < n → Contains (all_below f n) x) → Contains (all_below f n ++ f n) x
      by (inl less) rest = Contains-append_left (all_below f n) (f n) x (rest less)
      by (inr most) rest =
          let same : j ≡ n = omega (arith, most, lt) in
          Contains-append_right (all_below f n) (f n) x (subst (λ (k : ℕ). Contains (f k) x) same at)

-- ---- order

module _ {A : Type 0} (R : A → A → Type 0) where
  -- each element of one list is before each of another
  abbrev pub Across : List A → List A → Type 0
  Across xs ys = (x y : A) → Contains xs x → Contains ys y → R x y

  all-of : (x : A) (ys : List A) → ((y : A) → Contains ys y → R x y) → All (R x) ys
  all-of x ys each k d lt = each (get_or ys k d) (k, lt, get_or_default ys k (get_or ys k d) d lt)

  pub pairs-append : (xs ys : List A) → AllPairs R xs → AllPairs R ys → Across xs ys → AllPairs R (xs ++ ys)
  pairs-append [] ys first second across = second
  pairs-append (x ∷ xs) ys first second across =
      AllPairs-cons R x (xs ++ ys)
      (All-append (R x) xs ys (λ k d lt. first 0 (suc k) d (omega arith) (omega (arith, lt))) (all-of x ys (λ y at. across x y (first-element x xs) at)))
      (pairs-append xs ys (λ i j d less lt. first (suc i) (suc j) d (omega (arith, less)) (omega (arith, lt))) second
      (λ a b at bt. across a b (later-element x xs a at) bt))

  pub pairs-none : AllPairs R []
  pairs-none i j d less lt = absurd (omega (arith, lt))

  pub pairs-listed : (o : Option A) → AllPairs R (listed o)
  pairs-listed None = pairs-none
  pairs-listed (Some x) = λ i j d less lt. absurd (omega (arith, less, lt))

  -- all that numbers give is in order where what each gives is, and that of a lesser one comes before
  pub pairs-below : (f : ℕ → List A) (n : ℕ) → ((j : ℕ) → j < n → AllPairs R (f j)) → ((i j : ℕ) → i < j → j < n → Across (f i) (f j)) → AllPairs R (all_below f n)
  pairs-below f zero each across = subst (λ (xs : List A). AllPairs R xs) (none-yet f []) pairs-none
  pairs-below f (suc n) each across =
      subst (λ (xs : List A). AllPairs R xs) (sym (below-suc f n))
      (pairs-append (all_below f n) (f n)
      (pairs-below f n (λ j lt. each j (omega (arith, lt))) (λ i j less lt. across i j less (omega (arith, lt))))
      (each n (omega arith))
      (λ x y at bt. let found = below-has f n x at in across found.0 n found.1 (omega arith) x y found.2 bt))
