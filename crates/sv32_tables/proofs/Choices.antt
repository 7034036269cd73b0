-- Choices by tests on numbers.
use Rattle.std.proofs.Common.{◌≡◌, ◌≢◌, ◌⊎◌, inl, inr, ℕ, ◌-◌, ◌*◌, ◌/◌, ◌%◌, ◌==◌, ◌&&◌, nat_le, nat_lt, eqb, if◌then◌else◌, refl, ap, sym, arith, Bool, true, false}
use Rattle.std.proofs.lemmas.Bool.Decides.{eqb_tells, nat_tests}

-- a choice, by what each outcome of its test gives
pub by_test : {X : Type 0} (b : Bool) (t e x : X) → (b ≡ true → x ≡ t) → (b ≡ false → x ≡ e) → x ≡ (if b then t else e)
by_test true t e x on_true on_false = on_true refl
by_test false t e x on_true on_false = on_false refl

-- a choice whose test came out
pub if-true : {X : Type 0} (b : Bool) (t e : X) → b ≡ true → (if b then t else e) ≡ t
if-true b t e is = ap (λ (b : Bool). if b then t else e) is

pub if-false : {X : Type 0} (b : Bool) (t e : X) → b ≡ false → (if b then t else e) ≡ e
if-false b t e is = ap (λ (b : Bool). if b then t else e) is

-- two equal pairs of numbers
pub both_equal : (a b c d : ℕ) → ((a == b) && (c == d)) ≡ true → (a ≡ b) × (c ≡ d)
both_equal a b c d e = (grind (arith, nat_tests), grind (arith, nat_tests))

pub other_unequal : (a b c d : ℕ) → ((a == b) && (c == d)) ≡ false → a ≡ b → c ≢ d
other_unequal a b c d e same = grind (arith, nat_tests)

-- a page by its region and its place there
pub page_test : (p page : ℕ) → ((p / 1024 == page / 1024) && (p % 1024 == page % 1024)) ≡ (p == page)
page_test p page = on (eqb_tells p page)
  where
    on : ((eqb p page ≡ true) × (p ≡ page)) ⊎ ((eqb p page ≡ false) × (p ≢ page)) → ((p / 1024 == page / 1024) && (p % 1024 == page % 1024)) ≡ (p == page)
    on (inl same) =
        let is = same.1 in
        let one : (p / 1024 == page / 1024) ≡ true = grind (arith, nat_tests) in
        let two : (p % 1024 == page % 1024) ≡ true = grind (arith, nat_tests) in
        let all : (p == page) ≡ true = same.0 in
        rw (one, two, all) refl
    on (inr other) = not_both (p / 1024 == page / 1024) (p % 1024 == page % 1024) refl refl
      where
        all : (p == page) ≡ false
        all = other.0

        not_both : (a b : Bool) → (p / 1024 == page / 1024) ≡ a → (p % 1024 == page % 1024) ≡ b → (a && b) ≡ (p == page)
        not_both true true e g =
            let one : p / 1024 ≡ page / 1024 = grind (arith, nat_tests) in
            let two : p % 1024 ≡ page % 1024 = grind (arith, nat_tests) in
            absurd (other.1 (omega (arith, one, two)))
        not_both true false e g = sym all
        not_both false b e g = sym all

-- the pages of a region from first up to end, by their places there
pub region_test : (p region first end from to : ℕ) → from ≡ first - region * 1024 → to ≡ end - region * 1024
    → ((p / 1024 == region) && (nat_le from (p % 1024) && nat_lt (p % 1024) to)) ≡ ((p / 1024 == region) && (nat_le first p && nat_lt p end))
region_test p region first end from to starts ends = on (eqb_tells (p / 1024) region)
  where
    on : ((eqb (p / 1024) region ≡ true) × (p / 1024 ≡ region)) ⊎ ((eqb (p / 1024) region ≡ false) × (p / 1024 ≢ region))
        → ((p / 1024 == region) && (nat_le from (p % 1024) && nat_lt (p % 1024) to)) ≡ ((p / 1024 == region) && (nat_le first p && nat_lt p end))
    on (inl same) =
        let here = same.1 in
        let one : nat_le from (p % 1024) ≡ nat_le first p = grind (arith, nat_tests) in
        let two : nat_lt (p % 1024) to ≡ nat_lt p end = grind (arith, nat_tests) in
        rw (one, two) refl
    on (inr other) = let no : (p / 1024 == region) ≡ false = other.0 in rw no refl
