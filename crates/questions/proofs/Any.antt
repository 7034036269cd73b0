-- Whether anything is in a list, as loops and branches find it.
use Rattle.std.proofs.Common.{◌≡◌, ℕ, suc, ◌+◌, ◌<◌, ◌||◌, Bool, true, false, List, [], ◌∷◌, ◌++◌, map, Option, None, Some, is_some, refl, ap, ap₂, sym, ◌∙◌, arith}
use Rattle.separation_check.specs.Crossings.{all_below, listed}
use Rattle.separation_check.proofs.Gathered.{below-suc, none-each, each-none}
use Rattle.questions.specs.Atom.{is_any}

module _ {A : Type 0} where
  pub any-append : (xs ys : List A) → is_any (xs ++ ys) ≡ (is_any xs || is_any ys)
  any-append [] ys = refl
  any-append (x ∷ xs) ys = refl

  -- nothing is there
  pub any-none : (xs : List A) → is_any xs ≡ false → xs ≡ []
  any-none [] is = refl
  any-none (x ∷ xs) is = absurd (cc (is))

  pub none-any : (xs : List A) → xs ≡ [] → is_any xs ≡ false
  none-any xs is = ap is_any is

  pub any-listed : (o : Option A) → is_any (listed o) ≡ is_some o
  any-listed None = refl
  any-listed (Some x) = refl

  -- it is in the second list alone
  pub any-second : (xs ys : List A) (b : Bool) → is_any xs ≡ false → b ≡ is_any ys → b ≡ is_any (xs ++ ys)
  any-second xs ys b none is = is ∙ sym (any-append xs ys ∙ ap (λ (a : Bool). a || is_any ys) none)

  -- it is in the first
  pub any-first : (xs ys : List A) → is_any xs ≡ true → true ≡ is_any (xs ++ ys)
  any-first xs ys is = sym (any-append xs ys ∙ ap (λ (a : Bool). a || is_any ys) is)

pub any-map : {A B : Type 0} (g : A → B) (xs : List A) → is_any (map g xs) ≡ is_any xs
any-map g [] = refl
any-map g (x ∷ xs) = refl

module _ {A : Type 0} (f : ℕ → List A) where
  pub any-zero : is_any (all_below f 0) ≡ false
  any-zero = none-any (all_below f 0) (each-none f 0 (λ j below. absurd (omega (arith, below))))

  -- one of them gives something
  pub any-here : (n j : ℕ) → j < n → is_any (f j) ≡ true → true ≡ is_any (all_below f n)
  any-here n j below is = by (is_any (all_below f n)) refl
    where
      by : (b : Bool) → is_any (all_below f n) ≡ b → true ≡ b
      by true e = refl
      by false e =
          let nothing = none-each f n (any-none (all_below f n) e) j below in
          let none = none-any (f j) nothing in absurd (cc (none, is))

  -- one more gives nothing
  pub any-more : (n : ℕ) → is_any (all_below f n) ≡ false → is_any (f n) ≡ false → is_any (all_below f (n + 1)) ≡ false
  any-more n before here =
      let one : n + 1 ≡ suc n = omega arith in
      ap (λ k. is_any (all_below f k)) one ∙ ap is_any (below-suc f n) ∙ any-append (all_below f n) (f n) ∙ ap₂ (λ (a b : Bool). a || b) before here
