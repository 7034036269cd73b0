-- What tests tell that hold together or alone.
use Rattle.std.proofs.Common.{◌≡◌, ◌≢◌, ◌⊎◌, inl, inr, ℕ, ◌<◌, ◌≤◌, Bool, true, false, ◌&&◌, ◌||◌, ◌==◌, nat_le, refl, sym, arith}
use Rattle.std.proofs.lemmas.Bool.Decides.{eqb_tells, nat_tests}

-- both of two tests that hold together hold
pub both : (a b : Bool) → (a && b) ≡ true → (a ≡ true) × (b ≡ true)
both true b holds = (refl, holds)
both false b holds = absurd (cc)

-- one of two tests holds
pub either : (a b : Bool) → (a || b) ≡ true → (a ≡ true) ⊎ (b ≡ true)
either true b holds = inl refl
either false b holds = inr holds

pub or_left : (a b : Bool) → a ≡ true → (a || b) ≡ true
or_left true b holds = refl
or_left false b holds = absurd (cc)

pub or_right : (a b : Bool) → b ≡ true → (a || b) ≡ true
or_right true b holds = refl
or_right false b holds = holds

-- a test that fails makes both fail together
pub left_false : (a b : Bool) → a ≡ false → (a && b) ≡ false
left_false true b is = absurd (cc)
left_false false b is = refl

pub right_false : (a b : Bool) → b ≡ false → (a && b) ≡ false
right_false true b is = is
right_false false b is = refl

-- two tests that hold together are equal
pub same_tests : (a b : Bool) → (a ≡ true → b ≡ true) → (b ≡ true → a ≡ true) → a ≡ b
same_tests true b to from = sym (to refl)
same_tests false true to from = from refl
same_tests false false to from = refl

-- a test that does not hold is false
pub not_true : (b : Bool) → b ≢ true → b ≡ false
not_true true h = absurd (h refl)
not_true false h = refl

-- numbers that pass the test are one
pub same_numbers : (m n : ℕ) → (m == n) ≡ true → m ≡ n
same_numbers m n holds = grind (arith, nat_tests, holds)

-- two numbers are one or not
pub one_or_not : (m n : ℕ) → (m ≡ n) ⊎ (m ≢ n)
one_or_not m n = elim (eqb_tells m n) [ inl same ↦ inl same.1 | inr other ↦ inr other.1 ]

pub number_itself : (n : ℕ) → (n == n) ≡ true
number_itself n = grind (arith, nat_tests)

-- more than a bound is not within it
pub over : (n m : ℕ) → m < n → nat_le n m ≡ false
over n m more = grind (arith, nat_tests, more)

pub within : (n m : ℕ) → n ≤ m → nat_le n m ≡ true
within n m less = grind (arith, nat_tests, less)
