-- Processes that are taken out of lists, wherever they stand there.
use Rattle.std.proofs.Common.{◌≡◌, ◌≢◌, ℕ, zero, suc, ◌==◌, Bool, true, false, ◌||◌, if◌then◌else◌, inl, inr, List, [], ◌∷◌, get_or, map, Some, refl, sym, ap, ap₂, ◌∙◌, subst}
use Rattle.std.proofs.lemmas.Bool.{cond_both, eqb-true, eq-eqb, ne_eqb, true≢false}
use Rattle.schedules.specs.Queues.{stands_in, rest_of, without}
use Rattle.preemption.specs.Places.{Thinned}
use Rattle.preemption.proofs.Thinning.{no-first, first-stands, rest-stands}

-- another is taken out
pub stands-without : (x p : ℕ) (xs : List ℕ) → x ≢ p → stands_in xs x ≡ true
    → stands_in (without p xs) x ≡ true
stands-without x p [] other e = e
stands-without x p (y ∷ ys) other e =
    cond_both (y == p) (without p ys) (y ∷ without p ys) (λ zs. stands_in zs x ≡ true)
    (λ same. stands-without x p ys other
    (behind (ne_eqb y x (λ is. other (sym is ∙ eqb-true y p same))) e))
    (λ differ. by (y == x) (λ is. stands-without x p ys other is) e)
  where
    behind : (y == x) ≡ false → (y == x || stands_in ys x) ≡ true → stands_in ys x ≡ true
    behind differ e = ap (λ b. b || stands_in ys x) (sym differ) ∙ e

    by : (b : Bool) → (stands_in ys x ≡ true → stands_in (without p ys) x ≡ true)
        → (b || stands_in ys x) ≡ true → (b || stands_in (without p ys) x) ≡ true
    by true rest e = refl
    by false rest e = rest e

-- one who isn't there is taken out
without-absent : (p : ℕ) (xs : List ℕ) → stands_in xs p ≡ false → without p xs ≡ xs
without-absent p [] e = refl
without-absent p (x ∷ xs) e = by (x == p) (λ absent. without-absent p xs absent) e
  where
    by : (b : Bool) → (stands_in xs p ≡ false → without p xs ≡ xs)
        → (b || stands_in xs p) ≡ false → (if b then without p xs else x ∷ without p xs) ≡ x ∷ xs
    by true rest e = cc
    by false rest e = ap (λ ys. x ∷ ys) (rest e)

-- so it is with several lists
pub without-none : (p : ℕ) (lists : List (List ℕ))
    → ((j : ℕ) → stands_in (get_or lists j []) p ≡ false) → map (without p) lists ≡ lists
without-none p [] absent = refl
without-none p (xs ∷ lists) absent =
    ap₂ (λ (ys : List ℕ) (rest : List (List ℕ)). ys ∷ rest) (without-absent p xs (absent zero))
    (without-none p lists (λ j. absent (suc j)))

module _ (out : ℕ → Type 0) where
  -- one is taken out of both
  pub thinned-without : (gone : ℕ → Type 0) (p : ℕ) → ((x : ℕ) → x ≢ p → out x → gone x)
      → (xs ys : List ℕ) → Thinned out xs ys
      → Thinned gone (without p xs) (without p ys)
  thinned-without gone p more [] ys none = ap (without p) none
  thinned-without gone p more (x ∷ xs) ys (inl (is, t)) =
      cond_both (x == p) (without p xs) (x ∷ without p xs) (λ zs. Thinned gone zs (without p ys))
      (λ same. thinned-without gone p more xs ys t)
      (λ differ. inl (
        more x (λ e. true≢false (sym (eq-eqb x p e) ∙ differ)) is,
        thinned-without gone p more xs ys t,
      ))
  thinned-without gone p more (x ∷ xs) [] (inr (first, t)) = absurd (no-first x first)
  thinned-without gone p more (x ∷ xs) (y ∷ ys) (inr (first, t)) =
      let same : y ≡ x = cc in
      subst (λ z. Thinned gone (if x == p then without p xs else x ∷ without p xs)
      (if z == p then without p ys else z ∷ without p ys)) (sym same)
      (by (x == p) (thinned-without gone p more xs ys t))
    where
      by : (b : Bool) → Thinned gone (without p xs) (without p ys)
          → Thinned gone (if b then without p xs else x ∷ without p xs)
          (if b then without p ys else x ∷ without p ys)
      by true t = t
      by false t = inr (refl, t)

  -- one who is not in the second is taken out of the first
  pub thinned-leaves : (p : ℕ) (xs ys : List ℕ) → stands_in ys p ≡ false → Thinned out xs ys
      → Thinned out (without p xs) ys
  thinned-leaves p [] ys absent none = none
  thinned-leaves p (x ∷ xs) ys absent (inl (is, t)) =
      cond_both (x == p) (without p xs) (x ∷ without p xs) (λ zs. Thinned out zs ys)
      (λ same. thinned-leaves p xs ys absent t)
      (λ differ. inl (is, thinned-leaves p xs ys absent t))
  thinned-leaves p (x ∷ xs) ys absent (inr (first, t)) =
      cond_both (x == p) (without p xs) (x ∷ without p xs) (λ zs. Thinned out zs ys)
      (λ same. absurd (true≢false (sym (first-stands p ys (first ∙ ap Some (eqb-true x p same)))
      ∙ absent)))
      (λ differ. inr (first, thinned-leaves p xs (rest_of ys) (rest-stands p ys absent) t))
