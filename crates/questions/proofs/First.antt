-- The first element of a list that passes a test, as a loop finds it.
use Rattle.std.proofs.Common.{◌≡◌, ◌∙◌, ℕ, ◌<◌, Bool, true, false, cond, nat_lt, List, length, get_or, Some, None, sym, ap, arith}
use Rattle.std.specs.List.{position}
use Rattle.std.proofs.lemmas.Bool.{lt-ltb, le-ltb}
use Rattle.std.proofs.lemmas.List.Sums.{position_or_len_is}

module _ {X : Type 0} (p : X → Bool) (xs : List X) (i : ℕ) (d : X) (before : (k : ℕ) (d : X) → k < i → p (get_or xs k d) ≡ false) where
  -- this one is
  pub first-here : i < length xs → p (get_or xs i d) ≡ true → Some i ≡ position p xs
  first-here within here =
      let is = position_or_len_is p xs i d (omega arith) (λ k below. before k d below) (λ there. here) in
      sym (ap (λ n. cond (nat_lt n (length xs)) (Some n) None) is ∙ ap (λ (b : Bool). cond b (Some i) None) (lt-ltb i (length xs) within))

  -- none is
  pub first-none : i ≡ length xs → None ≡ position p xs
  first-none end =
      let is = position_or_len_is p xs i d (omega arith) (λ k below. before k d below) (λ there. absurd (omega (arith, there, end))) in
      sym (ap (λ n. cond (nat_lt n (length xs)) (Some n) None) is ∙ ap (λ (b : Bool). cond b (Some i) None) (le-ltb i (length xs) (omega arith)))
