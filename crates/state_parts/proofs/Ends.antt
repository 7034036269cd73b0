-- Lists that are compared place by place, up to the end of one.
use Rattle.std.specs.Bool.{Decides, one_answer}
use Rattle.std.specs.Option.{option_eq, is_some}
use Rattle.std.proofs.Common.{◌≡◌, ℕ, zero, suc, ◌<◌, Bool, true, false, not, IsTrue, ◌↔◌, List, [], ◌∷◌, nat_eq, slice_get, Option, Some, None, refl, sym, arith}

-- lists of the same elements up to a place at which both end
pub ext_get : {A : Type 0} (xs ys : List A) (n : ℕ) → ((k : ℕ) → k < n → slice_get xs k ≡ slice_get ys k) → slice_get xs n ≡ None → slice_get ys n ≡ None → xs ≡ ys
ext_get [] [] n same end end_too = refl
ext_get [] (y ∷ ys) zero same end end_too = cc
ext_get [] (y ∷ ys) (suc n) same end end_too = let first = same 0 (omega arith) in cc
ext_get (x ∷ xs) [] zero same end end_too = cc
ext_get (x ∷ xs) [] (suc n) same end end_too = let first = same 0 (omega arith) in cc
ext_get (x ∷ xs) (y ∷ ys) zero same end end_too = cc
ext_get (x ∷ xs) (y ∷ ys) (suc n) same end end_too = joined (same 0 (omega arith)) (ext_get xs ys n (λ k below. same (suc k) (omega (arith, below))) end end_too)
  where
    joined : Some x ≡ Some y → xs ≡ ys → x ∷ xs ≡ y ∷ ys
    joined h t = cc

-- a test that is not false is true
pub of_not : (b : Bool) → false ≡ not b → b ≡ true
of_not true e = refl
of_not false e = cc

-- where both have the same at a place and one has nothing, both end there
pub both_end : (xs ys : List ℕ) (n : ℕ) → ((k : ℕ) → k < n → slice_get xs k ≡ slice_get ys k) → (x y : Option ℕ) → x ≡ slice_get xs n → y ≡ slice_get ys n → option_eq nat_eq x y ≡ true → is_some x ≡ false → xs ≡ ys
both_end xs ys n same None None first second equal none = ext_get xs ys n same (sym first) (sym second)
both_end xs ys n same None (Some y) first second equal none = cc
both_end xs ys n same (Some x) y first second equal none = cc

-- ---- answers

-- an answer that is true exactly where something holds is that of the test that decides it
pub answered : {P : Type 0} (r t : Bool) → Decides t P → (IsTrue r ↔ P) → r ≡ t
answered r t decides exactly = one_answer r t (λ e. exactly.0 (is_true r e), λ p. to_true r (exactly.1 p)) decides
  where
    is_true : (r : Bool) → r ≡ true → IsTrue r
    is_true r e = e

    to_true : (r : Bool) → IsTrue r → r ≡ true
    to_true r e = e
