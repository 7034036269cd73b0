-- The greatest of several numbers, as a loop finds it.
use Rattle.std.proofs.Common.{◌≡◌, ℕ, zero, suc, ◌+◌, ◌<◌, ◌≤◌, ◌==◌, ◌⊎◌, inl, inr, max, true, List, [], ◌∷◌, length, get_or, refl, sym, ◌∙◌, ap, ap₂, arith, eqb-true}
use Rattle.std.proofs.lemmas.Bool.{cases_lt, or_cases}
use Rattle.std.proofs.lemmas.List.{get_or_past}
use Rattle.schedules.specs.Queues.{QueuesValue, sleepers_of, stands_in}
use Rattle.separation_check.specs.Crossings.{most_below, limit_on, sleeper_limit}

module _ (f : ℕ → ℕ) where
  pub most-zero : most_below f zero ≡ 0
  unfolding most_below
  most-zero = refl

  most_suc : (n : ℕ) → most_below f (suc n) ≡ max (most_below f n) (f n)
  unfolding most_below
  most_suc n = refl

  -- one more, as a loop counts
  pub most-more : (n m : ℕ) (most one : ℕ) → m ≡ n + 1 → most ≡ most_below f n → one ≡ f n → max most one ≡ most_below f m
  most-more n m most one next so_far is =
      let after : suc n ≡ m = omega (arith, next) in
      ap₂ (λ (x y : ℕ). max x y) so_far is ∙ (sym (most_suc n) ∙ ap (λ (k : ℕ). most_below f k) after)

  -- none is greater
  pub most-above : (n j : ℕ) → j < n → f j ≤ most_below f n
  most-above zero j lt = absurd (omega (arith, lt))
  most-above (suc n) j lt =
      let here = most_suc n in
      elim (cases_lt j n) [
        | inl below ↦ let before = most-above n j below in omega (arith, here, before)
        | inr at ↦ let same : n ≡ j = omega (arith, at, lt) in let value = ap f same in omega (arith, here, value)
      ]

-- a process that stands in a list stands at a place of it
place-of : (xs : List ℕ) (p : ℕ) → stands_in xs p ≡ true → (i : ℕ) × (i < length xs) × (get_or xs i 0 ≡ p)
place-of [] p e = absurd (cc (e))
place-of (x ∷ xs) p e = by (or_cases (x == p) (stands_in xs p) e) (λ later. place-of xs p later)
  where
    by : ((x == p) ≡ true) ⊎ (stands_in xs p ≡ true) → (stands_in xs p ≡ true → (i : ℕ) × (i < length xs) × (get_or xs i 0 ≡ p)) → (i : ℕ) × (i < length (x ∷ xs)) × (get_or (x ∷ xs) i 0 ≡ p)
    by (inl here) rest = (0, omega arith, eqb-true x p here)
    by (inr later) rest = let at = rest later in (suc at.0, omega (arith, at.1), at.2)

-- whoever sleeps does so on a process that the queues have
pub sleeps-there : (q : QueuesValue) (on p : ℕ) → stands_in (sleepers_of q on) p ≡ true → on < length q.sleepers
sleeps-there q on p e = elim (cases_lt on (length q.sleepers)) [
  | inl there ↦ there
  | inr past ↦ let none : stands_in (sleepers_of q on) p ≡ stands_in [] p = ap (λ (xs : List ℕ). stands_in xs p) (get_or_past q.sleepers on [] past) in absurd (cc (e, none))
]

-- and is below the limit
pub below-limit : (q : QueuesValue) (on p : ℕ) → stands_in (sleepers_of q on) p ≡ true → p < sleeper_limit q
below-limit q on p e =
    let at = place-of (sleepers_of q on) p e in
    let first = most-above (λ i. get_or (sleepers_of q on) i 0 + 1) (length (sleepers_of q on)) at.0 at.1 in
    let second = most-above (limit_on q) (length q.sleepers) on (sleeps-there q on p e) in
    let same = at.2 in
    omega (arith, first, second, same)
