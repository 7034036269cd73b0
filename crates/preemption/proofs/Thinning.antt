-- Lists with some processes left out.
use Rattle.std.proofs.Common.{◌≡◌, ◌≢◌, ℕ, ◌==◌, Bool, true, false, ◌||◌, inl, inr, List, [], ◌∷◌, ◌++◌, Some, refl, sym, ap, ◌∙◌, subst}
use Rattle.std.proofs.lemmas.Bool.{eq-eqb, ne_eqb, true≢false}
use Rattle.schedules.specs.Queues.{stands_in, first_of, rest_of}
use Rattle.preemption.specs.Places.{Thinned}

-- ---- who stands in a list

-- nobody is first in an empty list
pub no-first : (x : ℕ) → first_of [] ≡ Some x → ⊥
no-first x e = cc

-- the first of a list stands in it
pub first-stands : (x : ℕ) (xs : List ℕ) → first_of xs ≡ Some x → stands_in xs x ≡ true
first-stands x [] e = cc
first-stands x (y ∷ ys) e =
    let same : y ≡ x = cc in
    ap (λ b. b || stands_in ys x) (eq-eqb y x same)

-- who is not in a list is not behind its first
pub rest-stands : (x : ℕ) (xs : List ℕ) → stands_in xs x ≡ false → stands_in (rest_of xs) x ≡ false
rest-stands x [] e = refl
rest-stands x (y ∷ ys) e = by (y == x) e
  where
    by : (b : Bool) → (b || stands_in ys x) ≡ false → stands_in ys x ≡ false
    by true e = cc
    by false e = e

-- one is put at the end
pub stands-push : (x y : ℕ) (xs : List ℕ) → stands_in xs x ≡ true
    → stands_in (xs ++ y ∷ []) x ≡ true
stands-push x y [] e = cc
stands-push x y (z ∷ zs) e = by (z == x) (λ is. stands-push x y zs is) e
  where
    by : (b : Bool) → (stands_in zs x ≡ true → stands_in (zs ++ y ∷ []) x ≡ true)
        → (b || stands_in zs x) ≡ true
        → (b || stands_in (zs ++ y ∷ []) x) ≡ true
    by true rest e = refl
    by false rest e = rest e

pub last-stands : (y : ℕ) (xs : List ℕ) → stands_in (xs ++ y ∷ []) y ≡ true
last-stands y [] = ap (λ b. b || false) (eq-eqb y y refl)
last-stands y (x ∷ xs) = by (x == y) (last-stands y xs)
  where
    by : (b : Bool) → stands_in (xs ++ y ∷ []) y ≡ true → (b || stands_in (xs ++ y ∷ []) y) ≡ true
    by true rest = refl
    by false rest = rest

-- the first is taken off, who is another
pub stands-rest : (x y : ℕ) (xs : List ℕ) → first_of xs ≡ Some y → x ≢ y → stands_in xs x ≡ true
    → stands_in (rest_of xs) x ≡ true
stands-rest x y [] first other e = cc
stands-rest x y (z ∷ zs) first other e =
    let same : z ≡ y = cc in
    ap (λ b. b || stands_in zs x) (sym (ne_eqb z x (λ is. other (sym is ∙ same)))) ∙ e

-- ---- who is left out

-- more may be left out
pub thinned-more : (out gone : ℕ → Type 0) → ((x : ℕ) → out x → gone x) → (xs ys : List ℕ)
    → Thinned out xs ys → Thinned gone xs ys
thinned-more out gone more [] ys t = t
thinned-more out gone more (x ∷ xs) ys (inl (is, t)) =
    inl (more x is, thinned-more out gone more xs ys t)
thinned-more out gone more (x ∷ xs) ys (inr (first, t)) =
    inr (first, thinned-more out gone more xs (rest_of ys) t)

module _ (out : ℕ → Type 0) where
  -- nobody has to be left out
  pub thinned-same : (xs : List ℕ) → Thinned out xs xs
  thinned-same [] = refl
  thinned-same (x ∷ xs) = inr (refl, thinned-same xs)

  -- one is put at the end of both
  pub thinned-push : (p : ℕ) (xs ys : List ℕ) → Thinned out xs ys
      → Thinned out (xs ++ p ∷ []) (ys ++ p ∷ [])
  thinned-push p [] ys none = subst (λ zs. Thinned out (p ∷ []) (zs ++ p ∷ [])) (sym none)
      (inr (refl, refl))
  thinned-push p (x ∷ xs) ys (inl (is, t)) = inl (is, thinned-push p xs ys t)
  thinned-push p (x ∷ xs) [] (inr (first, t)) = absurd (no-first x first)
  thinned-push p (x ∷ xs) (y ∷ ys) (inr (first, t)) = inr (first, thinned-push p xs ys t)

  -- one who is left out is put at the end of the first
  pub thinned-waits : (p : ℕ) (xs ys : List ℕ) → out p → Thinned out xs ys
      → Thinned out (xs ++ p ∷ []) ys
  thinned-waits p [] ys is none = inl (is, none)
  thinned-waits p (x ∷ xs) ys is (inl (too, t)) = inl (too, thinned-waits p xs ys is t)
  thinned-waits p (x ∷ xs) ys is (inr (first, t)) =
      inr (first, thinned-waits p xs (rest_of ys) is t)

  -- the first is left out
  pub thinned-first_out : (x : ℕ) (xs ys : List ℕ) → stands_in ys x ≡ false
      → Thinned out (x ∷ xs) ys → Thinned out xs ys
  thinned-first_out x xs ys absent (inl (is, t)) = t
  thinned-first_out x xs ys absent (inr (first, t)) =
      absurd (true≢false (sym (first-stands x ys first) ∙ absent))

  -- or it is the first in both
  pub thinned-first : (x : ℕ) (xs ys : List ℕ) → (out x → ⊥) → Thinned out (x ∷ xs) ys
      → (first_of ys ≡ Some x) × Thinned out xs (rest_of ys)
  thinned-first x xs ys not (inl (is, t)) = absurd (not is)
  thinned-first x xs ys not (inr both) = both

  -- where nobody is left, the first is left out
  pub thinned-none : (x : ℕ) (xs : List ℕ) → Thinned out (x ∷ xs) [] → out x
  thinned-none x xs (inl (is, t)) = is
  thinned-none x xs (inr (first, t)) = absurd (no-first x first)
