-- The least of several answers, as a loop finds it.
use Rattle.std.proofs.Common.{◌≡◌, ℕ, zero, suc, ◌+◌, ◌<◌, ◌≤◌, ◌⊎◌, inl, inr, nat_lt, Bool, true, false, if◌then◌else◌, List, length, get_or, slice_get, Option, Some, None, refl, sym, ◌∙◌, ap, subst, arith}
use Rattle.std.proofs.lemmas.Bool.{cases_lt}
use Rattle.std.proofs.lemmas.Option.{slice_get-get_or}
use Rattle.confine_check.specs.Breach.{lesser, least_below}

module _ (f : ℕ → Option ℕ) where
  -- nothing is asked
  pub least_zero : least_below f zero ≡ None
  unfolding least_below
  least_zero = refl

  -- one more is asked
  pub least_suc : (n : ℕ) → least_below f (suc n) ≡ lesser (least_below f n) (f n)
  unfolding least_below
  least_suc n = refl

  -- one more, as a loop counts
  pub least_more : (n m : ℕ) (least one : Option ℕ) → m ≡ n + 1 → least ≡ least_below f n → one ≡ f n → lesser least one ≡ least_below f m
  least_more n m least one next so_far is =
      let after : suc n ≡ m = omega (arith, next) in
      ap (λ (o : Option ℕ). lesser o one) so_far ∙ (ap (λ (o : Option ℕ). lesser (least_below f n) o) is ∙ (sym (least_suc n) ∙ ap (λ k. least_below f k) after))

  lesser_none : (a b : Option ℕ) → lesser a b ≡ None → (a ≡ None) × (b ≡ None)
  lesser_none None b e = (refl, e)
  lesser_none (Some a) None e = absurd (cc (e))
  lesser_none (Some a) (Some b) e = by (nat_lt b a) e
    where
      by : (c : Bool) → (if c then Some b else Some a) ≡ None → (Some a ≡ None) × (Some b ≡ None)
      by true e = absurd (cc (e))
      by false e = absurd (cc (e))

  -- where there is no least, none gives anything
  pub least-each : (n : ℕ) → least_below f n ≡ None → (j : ℕ) → j < n → f j ≡ None
  least-each zero e j lt = absurd (omega (arith, lt))
  least-each (suc n) e j lt =
      let both = lesser_none (least_below f n) (f n) (sym (least_suc n) ∙ e) in
      by both (cases_lt j n) (λ below. least-each n both.0 j below)
    where
      by : (least_below f n ≡ None) × (f n ≡ None) → (j < n) ⊎ (n ≤ j) → (j < n → f j ≡ None) → f j ≡ None
      by both (inl below) rest = rest below
      by both (inr here) rest = let same : n ≡ j = omega (arith, here, lt) in subst (λ k. f k ≡ None) same both.1

  -- and the other way round
  pub each-least : (n : ℕ) → ((j : ℕ) → j < n → f j ≡ None) → least_below f n ≡ None
  each-least zero all = least_zero
  each-least (suc n) all =
      least_suc n
      ∙ (ap (λ (o : Option ℕ). lesser o (f n)) (each-least n (λ j lt. all j (omega (arith, lt))))
      ∙ all n (omega arith))

-- a list has no more where it has none at a place
pub past-none : (xs : List ℕ) (n : ℕ) → slice_get xs n ≡ None → length xs ≤ n
past-none xs n none = elim (cases_lt n (length xs)) [
  | inl there ↦ let e : ◌≡◌ {A = Option ℕ} None (Some (get_or xs n 0)) = sym none ∙ slice_get-get_or xs n 0 there in absurd (cc (e))
  | inr past ↦ past
]
