-- Tests of the numbers below another.
use Rattle.std.proofs.Common.{◌≡◌, ℕ, zero, suc, ◌+◌, ◌<◌, ◌==◌, ◌||◌, Bool, true, false, not, List, [], ◌∷◌, length, is_some, refl, ap, ap₂, sym, ◌∙◌, arith, inl, inr, subst}
use Rattle.std.specs.Prelude.{slice_get}
use Rattle.std.proofs.Math.Dec.{eqb-suc-zero}
use Rattle.std.proofs.lemmas.Bool.{cases_lt}
use Rattle.quiet_runs.specs.Finding.{is_below}

module _ (test : ℕ → Bool) where
  pub some-zero : is_below test 0 ≡ false
  unfolding is_below
  some-zero = refl

  some-suc : (n : ℕ) → is_below test (suc n) ≡ (is_below test n || test n)
  unfolding is_below
  some-suc n = refl

  or_true : (a b : Bool) → b ≡ true → (a || b) ≡ true
  or_true true b is = refl
  or_true false b is = is

  or_first : (a b : Bool) → a ≡ true → (a || b) ≡ true
  or_first a b is = ap (λ (a : Bool). a || b) is

  -- it holds of one of them
  pub some-here : (n k : ℕ) → k < n → test k ≡ true → is_below test n ≡ true
  some-here zero k below here = absurd (omega (arith, below))
  some-here (suc n) k below here = some-suc n ∙ elim (cases_lt k n) [
    | inl lower ↦ or_first (is_below test n) (test n) (some-here n k lower here)
    | inr past ↦ let last : k ≡ n = omega (arith, below, past) in or_true (is_below test n) (test n) (subst (λ k. test k ≡ true) last here)
  ]

  -- it doesn't hold of one more
  pub some-more : (n : ℕ) → is_below test n ≡ false → test n ≡ false → is_below test (n + 1) ≡ false
  some-more n none other =
      let one : n + 1 ≡ suc n = omega arith in
      ap (is_below test) one ∙ some-suc n ∙ ap₂ (λ (a b : Bool). a || b) none other

-- a list has a first element where it isn't empty
pub is_some-first : (xs : List ℕ) → is_some (slice_get xs 0) ≡ not (length xs == 0)
is_some-first [] = refl
is_some-first (x ∷ xs) = ap not (sym (eqb-suc-zero (length xs)))
