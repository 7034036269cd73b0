-- What the tests of the rows say of guards and of offsets.
use Rattle.std.proofs.Common.{◌≡◌, ◌≢◌, ℕ, ◌%◌, ◌^◌, Bool, true, false, refl}
use Rattle.std.proofs.lemmas.Bool.{le-leb, leb-true, lt-ltb, ltb-true, and_from, and_parts, eq-eqb, eqb-true}
use Rattle.cap_format.specs.Guard.{IsGuard, guard_of}
use Rattle.operations.specs.Memory.{is_guard, is_multiple}

-- the numbers of a guard pass the test
pub is_guard_true : (l2g matches : ℕ) → IsGuard (guard_of l2g matches) → is_guard l2g matches ≡ true
unfolding is_guard
is_guard_true l2g matches is = and_from _ _ (and_from _ _ (le-leb 12 l2g is.low) (le-leb l2g 32 is.high)) (lt-ltb matches _ is.fits)

-- numbers that pass it are a guard's
pub is_guard_tells : (l2g matches : ℕ) → is_guard l2g matches ≡ true → IsGuard (guard_of l2g matches)
unfolding is_guard
is_guard_tells l2g matches e =
    let parts = and_parts _ _ e in
    let range = and_parts _ _ parts.0 in
    record { low = leb-true _ _ range.0; high = leb-true _ _ range.1; fits = ltb-true _ _ parts.1 }

-- numbers that are no guard's do not pass
pub is_guard_false : (l2g matches : ℕ) → (IsGuard (guard_of l2g matches) → ⊥) → is_guard l2g matches ≡ false
is_guard_false l2g matches none = by (is_guard l2g matches) (λ e. none (is_guard_tells l2g matches e))
  where
    by : (b : Bool) → (b ≡ true → ⊥) → b ≡ false
    by true no_test = absurd (no_test refl)
    by false no_test = refl

-- a multiple passes the test
pub is_multiple_true : (l2g offset : ℕ) → offset % 2 ^ l2g ≡ 0 → is_multiple l2g offset ≡ true
unfolding is_multiple
is_multiple_true l2g offset is = eq-eqb _ _ is

-- another offset does not
pub is_multiple_false : (l2g offset : ℕ) → offset % 2 ^ l2g ≢ 0 → is_multiple l2g offset ≡ false
unfolding is_multiple
is_multiple_false l2g offset not_zero = by (is_multiple l2g offset) refl
  where
    by : (b : Bool) → is_multiple l2g offset ≡ b → b ≡ false
    by true e = absurd (not_zero (eqb-true _ _ e))
    by false e = refl
