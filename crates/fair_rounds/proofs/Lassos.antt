-- A lasso evades any number of rounds.
use Rattle.std.proofs.Common.{◌≡◌, ℕ, zero, suc, Bool, false, List, [], ◌∷◌, ◌++◌, replicate, refl, sym, ◌∙◌, subst, arith, true≢false}
use Rattle.std.proofs.lemmas.List.{length-replicate}
use Rattle.std.proofs.lemmas.List.Elements.{All-cons, All-nil, All-replicate}
use Rattle.std.specs.List.{concat}
use Rattle.fair_rounds.specs.Rounds.{IsRound, after, passes, MustWithin, Evades, IsLasso}
use Rattle.fair_rounds.proofs.Passing.{after-append, passes-here, passes-back, passes-both, round-behind}

module _ {S : Type 0} (next : S → ℕ → S) (goal : S → Bool) (width : ℕ) where
  -- a cycle, again and again
  circling : (t : S) (cycle : List ℕ) → after next t cycle ≡ t → passes next goal t cycle ≡ false → (n : ℕ) → passes next goal t (concat (replicate n cycle)) ≡ false
  circling t cycle back never zero = passes-here next goal t cycle never
  circling t cycle back never (suc n) =
      passes-both next goal t cycle (concat (replicate n cycle)) never
      (subst (λ s. passes next goal s (concat (replicate n cycle)) ≡ false) (sym back) (circling t cycle back never n))

  pub lasso-evades : (s : S) (path cycle : List ℕ) → IsLasso next goal width s path cycle → (most : ℕ) → Evades next goal width s most
  lasso-evades s path cycle lasso zero = record {
    rounds = [];
    many = refl;
    are = All-nil (IsRound width);
    never = passes-here next goal s (path ++ cycle) lasso.never;
  }
  lasso-evades s path cycle lasso (suc n) = record {
    rounds = (path ++ cycle) ∷ replicate n cycle;
    many = omega (arith, length-replicate n cycle);
    are = All-cons (IsRound width) (path ++ cycle) (replicate n cycle) (round-behind width path cycle lasso.choices lasso.round) (All-replicate (IsRound width) n cycle lasso.round);
    never = passes-both next goal s (path ++ cycle) (concat (replicate n cycle)) lasso.never
        (subst (λ t. passes next goal t (concat (replicate n cycle)) ≡ false) (sym (after-append next s path cycle ∙ lasso.back))
        (circling (after next s path) cycle lasso.back (passes-back next goal s path cycle lasso.never) n));
  }

  -- a lasso and a bound exclude each other
  pub lasso-never : (s : S) (path cycle : List ℕ) → IsLasso next goal width s path cycle → (most : ℕ) → MustWithin next goal width s most → ⊥
  lasso-never s path cycle lasso most must =
      let e = lasso-evades s path cycle lasso most in
      true≢false (sym (must e.rounds e.many e.are) ∙ e.never)
