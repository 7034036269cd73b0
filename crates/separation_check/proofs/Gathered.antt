-- All that several give, as a loop gathers it.
use Rattle.std.proofs.Common.{◌≡◌, ℕ, zero, suc, ◌+◌, ◌<◌, ◌≤◌, ◌⊎◌, inl, inr, List, [], ◌∷◌, ◌++◌, map, Option, Some, None, option_map, refl, sym, ◌∙◌, ap, ap₂, subst, arith}
use Rattle.std.proofs.lemmas.Bool.{cases_lt}
use Rattle.std.proofs.lemmas.List.{append_assoc, map-append}
use Rattle.separation_check.specs.Crossings.{all_below, listed}

module _ {A : Type 0} where
  -- where two lists together are empty, each is
  pub both-empty : (xs ys : List A) → xs ++ ys ≡ [] → (xs ≡ []) × (ys ≡ [])
  both-empty [] ys e = (refl, e)
  both-empty (x ∷ xs) ys e = absurd (cc (e))

  pub empty-both : (xs ys : List A) → xs ≡ [] → ys ≡ [] → xs ++ ys ≡ []
  empty-both xs ys first second = ap (λ (zs : List A). zs ++ ys) first ∙ second

module _ {A : Type 0} (f : ℕ → List A) where
  below_zero : all_below f zero ≡ []
  unfolding all_below
  below_zero = refl

  pub below-suc : (n : ℕ) → all_below f (suc n) ≡ all_below f n ++ f n
  unfolding all_below
  below-suc n = refl

  -- nothing before the first
  pub none-yet : (xs : List A) → xs ≡ xs ++ all_below f 0
  none-yet xs = sym (ap (λ (ys : List A). xs ++ ys) below_zero ∙ nil xs)
    where
      nil : (xs : List A) → xs ++ [] ≡ xs
      nil [] = refl
      nil (x ∷ xs) = ap (λ (ys : List A). x ∷ ys) (nil xs)

  -- one more, as a loop counts
  pub one-more : (n m : ℕ) (start so_far after : List A) → m ≡ n + 1 → so_far ≡ start ++ all_below f n → after ≡ so_far ++ f n → after ≡ start ++ all_below f m
  one-more n m start so_far after next is more =
      let follows : suc n ≡ m = omega (arith, next) in
      more
      ∙ (ap (λ (xs : List A). xs ++ f n) is
      ∙ (append_assoc start (all_below f n) (f n)
      ∙ (ap (λ (xs : List A). start ++ xs) (sym (below-suc n)) ∙ ap (λ (k : ℕ). start ++ all_below f k) follows)))

  -- where nothing is given, none gives anything
  pub none-each : (n : ℕ) → all_below f n ≡ [] → (j : ℕ) → j < n → f j ≡ []
  none-each zero e j lt = absurd (omega (arith, lt))
  none-each (suc n) e j lt =
      let both = both-empty (all_below f n) (f n) (sym (below-suc n) ∙ e) in
      by both (cases_lt j n) (λ below. none-each n both.0 j below)
    where
      by : (all_below f n ≡ []) × (f n ≡ []) → (j < n) ⊎ (n ≤ j) → (j < n → f j ≡ []) → f j ≡ []
      by both (inl below) rest = rest below
      by both (inr here) rest = let same : n ≡ j = omega (arith, here, lt) in subst (λ (k : ℕ). f k ≡ []) same both.1

  -- and the other way round
  pub each-none : (n : ℕ) → ((j : ℕ) → j < n → f j ≡ []) → all_below f n ≡ []
  each-none zero all = below_zero
  each-none (suc n) all = below-suc n ∙ empty-both (all_below f n) (f n) (each-none n (λ j lt. all j (omega (arith, lt)))) (all n (omega arith))

-- seen through a function of each
pub below-map : {A B : Type 0} (g : A → B) (f : ℕ → List A) (h : ℕ → List B) → ((i : ℕ) → h i ≡ map g (f i)) → (n : ℕ) → all_below h n ≡ map g (all_below f n)
below-map g f h same zero = below_zero h ∙ ap (map g) (sym (below_zero f))
below-map g f h same (suc n) =
    below-suc h n
    ∙ (ap₂ (λ xs ys. xs ++ ys) (below-map g f h same n) (same n)
    ∙ (sym (map-append g (all_below f n) (f n)) ∙ ap (map g) (sym (below-suc f n))))

-- what is there, seen so
pub listed-map : {A B : Type 0} (g : A → B) (o : Option A) → listed (option_map g o) ≡ map g (listed o)
listed-map g None = refl
listed-map g (Some x) = refl

-- nothing is there where the list is empty
pub listed-none : {A : Type 0} (o : Option A) → listed o ≡ [] → o ≡ None
listed-none None e = refl
listed-none (Some x) e = absurd (cc (e))

pub none-listed : {A : Type 0} (o : Option A) → o ≡ None → listed o ≡ []
none-listed None e = refl
none-listed (Some x) e = absurd (cc (e))
