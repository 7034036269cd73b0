-- Those who come to an object by several, from the first on.
use Rattle.std.proofs.Common.{◌≡◌, ℕ, zero, suc, ◌<◌, Bool, false, ◌||◌, List, [], ◌∷◌, length, get_or, refl, sym, ◌∙◌, ap, ap₂, arith}
use Rattle.std.specs.List.{list_any}
use Rattle.cap_format.specs.declared.kind.CapKind.{CapKind}
use Rattle.cap_format.specs.Capability.{Capability, null}
use Rattle.quiet_runs.specs.declared.reached_by.ReachedBy.{ReachedBy}
use Rattle.quiet_runs.specs.declared.reached_by.ReachedBy.TheVariants.{Nobody}
use Rattle.quiet_runs.specs.Reaching.{joined, joined_below, through}
use Rattle.quiet_runs.specs.Finding.{is_below}
use Rattle.quiet_finding.specs.Passing.{by_cap}
use Rattle.quiet_finding.proofs.Joining.{joined-nobody, joined-assoc, or-false, or-assoc}

pub joined_below-zero : (f : ℕ → ReachedBy) → joined_below f 0 ≡ Nobody
unfolding joined_below
joined_below-zero f = refl

pub joined_below-suc : (f : ℕ → ReachedBy) (n : ℕ) → joined_below f (suc n) ≡ joined (joined_below f n) (f n)
unfolding joined_below
joined_below-suc f n = refl

pub is_below-zero : (f : ℕ → Bool) → is_below f 0 ≡ false
unfolding is_below
is_below-zero f = refl

pub is_below-suc : (f : ℕ → Bool) (n : ℕ) → is_below f (suc n) ≡ (is_below f n || f n)
unfolding is_below
is_below-suc f n = refl

-- ---- the same of each below the number

pub joined_below-same : (f g : ℕ → ReachedBy) (n : ℕ) → ((i : ℕ) → i < n → f i ≡ g i) → joined_below f n ≡ joined_below g n
joined_below-same f g zero same = joined_below-zero f ∙ sym (joined_below-zero g)
joined_below-same f g (suc n) same =
    joined_below-suc f n
    ∙ (ap₂ (λ (a b : ReachedBy). joined a b) (joined_below-same f g n (λ i lt. same i (omega (arith, lt)))) (same n (omega arith)) ∙ sym (joined_below-suc g n))

pub is_below-same : (f g : ℕ → Bool) (n : ℕ) → ((i : ℕ) → i < n → f i ≡ g i) → is_below f n ≡ is_below g n
is_below-same f g zero same = is_below-zero f ∙ sym (is_below-zero g)
is_below-same f g (suc n) same =
    is_below-suc f n
    ∙ (ap₂ (λ (a b : Bool). a || b) (is_below-same f g n (λ i lt. same i (omega (arith, lt)))) (same n (omega arith)) ∙ sym (is_below-suc g n))

-- nobody by each is nobody by all
pub joined_below-nobody : (f : ℕ → ReachedBy) (n : ℕ) → ((i : ℕ) → i < n → f i ≡ Nobody) → joined_below f n ≡ Nobody
joined_below-nobody f zero none = joined_below-zero f
joined_below-nobody f (suc n) none =
    joined_below-suc f n
    ∙ ap₂ (λ (a b : ReachedBy). joined a b) (joined_below-nobody f n (λ i lt. none i (omega (arith, lt)))) (none n (omega arith))

pub is_below-false : (f : ℕ → Bool) (n : ℕ) → ((i : ℕ) → i < n → f i ≡ false) → is_below f n ≡ false
is_below-false f zero none = is_below-zero f
is_below-false f (suc n) none =
    is_below-suc f n
    ∙ ap₂ (λ (a b : Bool). a || b) (is_below-false f n (λ i lt. none i (omega (arith, lt)))) (none n (omega arith))

-- ---- the first of them apart

pub joined_below-first : (f : ℕ → ReachedBy) (n : ℕ) → joined_below f (suc n) ≡ joined (f 0) (joined_below (λ i. f (suc i)) n)
joined_below-first f zero =
    joined_below-suc f 0
    ∙ (ap (λ (a : ReachedBy). joined a (f 0)) (joined_below-zero f)
    ∙ (sym (joined-nobody (f 0)) ∙ ap (λ (a : ReachedBy). joined (f 0) a) (sym (joined_below-zero (λ i. f (suc i))))))
joined_below-first f (suc n) =
    joined_below-suc f (suc n)
    ∙ (ap (λ (a : ReachedBy). joined a (f (suc n))) (joined_below-first f n)
    ∙ (joined-assoc (f 0) (joined_below (λ i. f (suc i)) n) (f (suc n))
    ∙ ap (λ (a : ReachedBy). joined (f 0) a) (sym (joined_below-suc (λ i. f (suc i)) n))))

pub is_below-first : (f : ℕ → Bool) (n : ℕ) → is_below f (suc n) ≡ (f 0 || is_below (λ i. f (suc i)) n)
is_below-first f zero =
    is_below-suc f 0
    ∙ (ap (λ (a : Bool). a || f 0) (is_below-zero f)
    ∙ (sym (or-false (f 0)) ∙ ap (λ (a : Bool). f 0 || a) (sym (is_below-zero (λ i. f (suc i))))))
is_below-first f (suc n) =
    is_below-suc f (suc n)
    ∙ (ap (λ (a : Bool). a || f (suc n)) (is_below-first f n)
    ∙ (or-assoc (f 0) (is_below (λ i. f (suc i)) n) (f (suc n))
    ∙ ap (λ (a : Bool). f 0 || a) (sym (is_below-suc (λ i. f (suc i)) n))))

-- ---- capabilities by their places

-- a list of capabilities is gone through by its places
pub through-places : (by : ReachedBy) (cs : List Capability) (kind : CapKind) (n : ℕ)
    → through by cs kind n ≡ joined_below (λ i. by_cap by (get_or cs i null) kind n) (length cs)
unfolding through
through-places by [] kind n = sym (joined_below-zero (λ i. by_cap by (get_or [] i null) kind n))
through-places by (c ∷ cs) kind n =
    ap (λ (a : ReachedBy). joined (by_cap by c kind n) a) (through-places by cs kind n)
    ∙ sym (joined_below-first (λ i. by_cap by (get_or (c ∷ cs) i null) kind n) (length cs))

pub any-places : (test : Capability → Bool) (cs : List Capability) → list_any test cs ≡ is_below (λ i. test (get_or cs i null)) (length cs)
any-places test [] = sym (is_below-zero (λ i. test (get_or [] i null)))
any-places test (c ∷ cs) =
    ap (λ (a : Bool). test c || a) (any-places test cs)
    ∙ sym (is_below-first (λ i. test (get_or (c ∷ cs) i null)) (length cs))
