-- The elements of a list that pass a test, as a loop finds them, and lists that have none.
use Rattle.std.proofs.Common.{◌≡◌, ℕ, zero, suc, ◌+◌, ◌<◌, ◌==◌, ◌⊎◌, inl, inr, ◌++◌, Bool, true, false, cond, List, [], ◌∷◌, take, length, get_or, refl, sym, ◌∙◌, ap, ap₂, subst, arith, eqb-true}
use Rattle.std.specs.List.{Contains, filter}
use Rattle.std.proofs.lemmas.List.Elements.{filter_more}
use Rattle.separation_check.proofs.Listed.{first-element, later-element}

module _ {A : Type 0} (p : A → Bool) where
  -- one more element is tried
  pub one-tried : (xs : List A) (i : ℕ) (x : A) (passes : Bool) (found after : List A) → i < length xs → x ≡ get_or xs i x → passes ≡ p x
      → found ≡ filter p (take i xs) → after ≡ found ++ cond passes (x ∷ []) [] → after ≡ filter p (take (i + 1) xs)
  one-tried xs i x passes found after there same is so_far more =
      more
      ∙ (ap₂ (λ (ys : List A) (b : Bool). ys ++ cond b (x ∷ []) []) so_far is
      ∙ (ap (λ (y : A). filter p (take i xs) ++ cond (p y) (y ∷ []) []) same ∙ sym (filter_more p xs i x there)))

-- ---- lists without elements

pub empty : {A : Type 0} (xs : List A) → (length xs == 0) ≡ true → xs ≡ []
empty [] e = refl
empty (x ∷ xs) e = let none = eqb-true (length (x ∷ xs)) 0 e in absurd (omega (arith, none))

pub none : {A : Type 0} (xs : List A) → xs ≡ [] → (length xs == 0) ≡ true
none xs e = ap (λ ys. length ys == 0) e

-- ---- elements

module _ {A : Type 0} where
  pub of-none : (x : A) → Contains [] x → ⊥
  of-none x at = omega (arith, at.1)

  pub one-of : (y : A) (xs : List A) (x : A) → Contains (y ∷ xs) x → (y ≡ x) ⊎ Contains xs x
  one-of y xs x (zero, lt, is) = inl is
  one-of y xs x (suc k, lt, is) = inr (k, omega (arith, lt), is)

  kept-of : (b : Bool) (y : A) (xs : List A) (x : A) → Contains (cond b (y ∷ xs) xs) x → ((b ≡ true) × (y ≡ x)) ⊎ Contains xs x
  kept-of true y xs x at = by (one-of y xs x at)
    where
      by : (y ≡ x) ⊎ Contains xs x → ((true ≡ true) × (y ≡ x)) ⊎ Contains xs x
      by (inl here) = inl (refl, here)
      by (inr later) = inr later
  kept-of false y xs x at = inr at

  kept-first : (b : Bool) (y : A) (xs : List A) → b ≡ true → Contains (cond b (y ∷ xs) xs) y
  kept-first true y xs e = first-element y xs
  kept-first false y xs e = absurd (cc (e))

  kept-later : (b : Bool) (y : A) (xs : List A) (x : A) → Contains xs x → Contains (cond b (y ∷ xs) xs) x
  kept-later true y xs x at = later-element y xs x at
  kept-later false y xs x at = at

-- a list of which nothing is an element is empty
pub without-any : {A : Type 0} (xs : List A) → ((x : A) → Contains xs x → ⊥) → xs ≡ []
without-any [] nothing = refl
without-any (x ∷ xs) nothing = absurd (nothing x (first-element x xs))

module _ {A : Type 0} (p : A → Bool) where
  -- an element of those that pass is one that passes
  pub passed-is : (xs : List A) (x : A) → Contains (filter p xs) x → Contains xs x × (p x ≡ true)
  passed-is [] x at = absurd (of-none x at)
  passed-is (y ∷ ys) x at = elim (kept-of (p y) y (filter p ys) x at) [
    | inl here ↦ (subst (λ (z : A). Contains (y ∷ ys) z) here.1 (first-element y ys), subst (λ (z : A). p z ≡ true) here.1 here.0)
    | inr later ↦ let rest = passed-is ys x later in (later-element y ys x rest.0, rest.1)
  ]

  pub is-passed : (xs : List A) (x : A) → Contains xs x → p x ≡ true → Contains (filter p xs) x
  is-passed [] x at passes = absurd (of-none x at)
  is-passed (y ∷ ys) x at passes = elim (one-of y ys x at) [
    | inl here ↦ subst (λ (z : A). Contains (filter p (y ∷ ys)) z) here (kept-first (p y) y (filter p ys) (ap p here ∙ passes))
    | inr later ↦ kept-later (p y) y (filter p ys) x (is-passed ys x later passes)
  ]
