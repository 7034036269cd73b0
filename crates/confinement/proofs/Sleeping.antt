-- Who sleeps on whose processes, and what becomes of it by each change of the queues.
use Rattle.std.proofs.Common.{◌≡◌, ℕ, suc, ◌⊎◌, inl, inr, Bool, true, false, ◌==◌, if◌then◌else◌, List, [], ◌∷◌, ◌++◌, map, length, get_or, set, Option, Some, None, refl, sym, ◌∙◌, ap, subst, eqb-true}
use Rattle.std.proofs.Math.ListN.{get_or-map}
use Rattle.std.proofs.lemmas.Bool.{or_cases, or_left, or_right, eq-eqb}
use Rattle.cap_format.specs.declared.kind.CapKind.TheVariants.{Process}
use Rattle.object_store.proofs.Lists.{get_or-set}
use Rattle.schedules.specs.Queues.{QueuesValue, priorities, sleepers_of, without, left, asleep, highest_below, taken_from, dispatched_by, dispatched, hart_of, stands_in}
use Rattle.schedules.specs.Ready.{unslept}
use Rattle.confinement.specs.declared.cut_side.CutSide.{CutSide}
use Rattle.confinement.specs.Cut.{Cut, side_of, AllOn}

-- what holds of each element at its index holds after a write of what it holds of
pub each_set : {A : Type 0} (P : ℕ → A → Type 0) (xs : List A) (i : ℕ) (y d : A) → P i y → ((j : ℕ) → P j (get_or xs j d)) → (j : ℕ) → P j (get_or (set xs i y) j d)
each_set P xs i y d new old j = elim (get_or-set xs i j y d) [
  | inl here ↦ subst (λ v. P j v) (sym here.1) (subst (λ n. P n y) (sym here.0) new)
  | inr other ↦ subst (λ v. P j v) (sym other) (old j)
]

taken-sleepers : (q : QueuesValue) (hart : ℕ) (next : Option ℕ) → (taken_from q hart next).sleepers ≡ q.sleepers
taken-sleepers q hart None = refl
taken-sleepers q hart (Some priority) = refl

by-sleepers : (q : QueuesValue) (hart : ℕ) (on : Option ℕ) → (dispatched_by q hart on).sleepers ≡ q.sleepers
by-sleepers q hart None = taken-sleepers q hart (highest_below q.ready priorities)
by-sleepers q hart (Some p) = refl

-- nobody sleeps elsewhere where a hart takes a process
pub sleepers-dispatched : (q : QueuesValue) (hart : ℕ) → (dispatched q hart).sleepers ≡ q.sleepers
sleepers-dispatched q hart = by-sleepers q hart (hart_of q hart)

-- a function of each list leaves their number
pub length-map_lists : (f : List ℕ → List ℕ) (xss : List (List ℕ)) → length (map f xss) ≡ length xss
length-map_lists f [] = refl
length-map_lists f (xs ∷ xss) = ap suc (length-map_lists f xss)

module _ (cut : Cut) where
  -- all of a list are of this side, also without one of them
  pub all_without : (side : CutSide) (p : ℕ) (xs : List ℕ) → AllOn cut side xs → AllOn cut side (without p xs)
  all_without side p [] all = tt
  all_without side p (x ∷ xs) all = by (x == p) (all_without side p xs all.1)
    where
      by : (b : Bool) → AllOn cut side (without p xs) → AllOn cut side (if b then without p xs else x ∷ without p xs)
      by true rest = rest
      by false rest = (all.0, rest)

  -- and with one more of it at the end
  pub all_last : (side : CutSide) (p : ℕ) (xs : List ℕ) → AllOn cut side xs → side_of cut Process p ≡ side → AllOn cut side (xs ++ p ∷ [])
  all_last side p [] all own = (own, tt)
  all_last side p (x ∷ xs) all own = (all.0, all_last side p xs all.1 own)

-- ---- who sleeps where, after each change of the queues

-- whoever stands in a list without one stands in it
stands-without : (p x : ℕ) (ps : List ℕ) → stands_in (without p ps) x ≡ true → stands_in ps x ≡ true
stands-without p x [] there = there
stands-without p x (y ∷ ys) there = by (y == p) (λ later. stands-without p x ys later) there
  where
    by : (b : Bool) → (stands_in (without p ys) x ≡ true → stands_in ys x ≡ true) → stands_in (if b then without p ys else y ∷ without p ys) x ≡ true → stands_in (y ∷ ys) x ≡ true
    by true rest there = or_right (y == x) (stands_in ys x) (rest there)
    by false rest there = elim (or_cases (y == x) (stands_in (without p ys) x) there) [
      | inl here ↦ or_left (y == x) (stands_in ys x) here
      | inr later ↦ or_right (y == x) (stands_in ys x) (rest later)
    ]

-- and whoever stands in one with another behind is that or stands in it
stands-last : (p x : ℕ) (ps : List ℕ) → stands_in (ps ++ p ∷ []) x ≡ true → (stands_in ps x ≡ true) ⊎ (p ≡ x)
stands-last p x [] there = elim (or_cases (p == x) false there) [
  | inl here ↦ inr (eqb-true p x here)
  | inr none ↦ absurd (cc (none))
]
stands-last p x (y ∷ ys) there = elim (or_cases (y == x) (stands_in (ys ++ p ∷ []) x) there) [
  | inl here ↦ inl (or_left (y == x) (stands_in ys x) here)
  | inr later ↦ elim (stands-last p x ys later) [
    | inl in_rest ↦ inl (or_right (y == x) (stands_in ys x) in_rest)
    | inr last ↦ inr last
  ]
]

-- one leaves his place
pub asleep-left : (q : QueuesValue) (p on x : ℕ) → stands_in (sleepers_of (left q p) on) x ≡ true → stands_in (sleepers_of q on) x ≡ true
asleep-left q p on x there =
    stands-without p x (sleepers_of q on) (ap (λ (xs : List ℕ). stands_in xs x) (sym (get_or-map (without p) q.sleepers on [])) ∙ there)

-- nobody sleeps on one any more
pub asleep-unslept : (q : QueuesValue) (woke on x : ℕ) → stands_in (sleepers_of (unslept q woke) on) x ≡ true → stands_in (sleepers_of q on) x ≡ true
asleep-unslept q woke on x =
    each_set (λ n (xs : List ℕ). stands_in xs x ≡ true → stands_in (sleepers_of q n) x ≡ true) q.sleepers woke [] [] (λ there. absurd (cc (there))) (λ n there. there) on

-- one sleeps on another
pub asleep-asleep : (q : QueuesValue) (p at on x : ℕ) → stands_in (sleepers_of (asleep q p at) on) x ≡ true → (stands_in (sleepers_of q on) x ≡ true) ⊎ ((p ≡ x) × (at ≡ on))
asleep-asleep q p at on x there = elim (get_or-set q.sleepers at on (sleepers_of q at ++ p ∷ []) []) [
  | inl here ↦ elim (stands-last p x (sleepers_of q at) (ap (λ (xs : List ℕ). stands_in xs x) (sym here.1) ∙ there)) [
    | inl before ↦ inl (subst (λ (n : ℕ). stands_in (sleepers_of q n) x ≡ true) (sym here.0) before)
    | inr last ↦ inr (last, sym here.0)
  ]
  | inr other ↦ inl (ap (λ (xs : List ℕ). stands_in xs x) (sym other) ∙ there)
]

-- where the lists are the same
pub asleep-same : (q r : QueuesValue) → r.sleepers ≡ q.sleepers → (on x : ℕ) → stands_in (sleepers_of r on) x ≡ true → stands_in (sleepers_of q on) x ≡ true
asleep-same q r same on x there = ap (λ (xs : List (List ℕ)). stands_in (get_or xs on []) x) (sym same) ∙ there

module _ (cut : Cut) (side : CutSide) where
  -- all of a list are of this side where each that stands in it is
  pub each_on : (xs : List ℕ) → ((x : ℕ) → stands_in xs x ≡ true → side_of cut Process x ≡ side) → AllOn cut side xs
  each_on [] each = tt
  each_on (x ∷ xs) each = (
    each x (or_left (x == x) (stands_in xs x) (eq-eqb x x refl)),
    each_on xs (λ y there. each y (or_right (x == y) (stands_in xs y) there)),
  )

  -- and each is where all are
  pub on_each : (xs : List ℕ) → AllOn cut side xs → (x : ℕ) → stands_in xs x ≡ true → side_of cut Process x ≡ side
  on_each [] all x there = absurd (cc (there))
  on_each (y ∷ ys) all x there = elim (or_cases (y == x) (stands_in ys x) there) [
    | inl here ↦ subst (λ (n : ℕ). side_of cut Process n ≡ side) (eqb-true y x here) all.0
    | inr later ↦ on_each ys all.1 x later
  ]
