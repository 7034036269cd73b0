-- What of a quiet step follows from what a machine keeps, and what is looked up in the tables.
use Rattle.std.proofs.Common.{◌≡◌, ◌≢◌, ℕ, zero, suc, ◌+◌, ◌<◌, ◌≤◌, ◌==◌, inl, inr, Bool, true, false, not, ◌&&◌, ◌||◌, nat_lt, List, [], ◌∷◌, length, Option, Some, None, refl, sym, ◌∙◌, ap, ap₂, subst, arith, eq-eqb, eqb-true}
use Rattle.std.specs.List.{list_any, sum_by}
use Rattle.std.proofs.lemmas.Bool.{and_from, and_parts, or_cases, or_left, or_right, ltb-true}
use Rattle.std.proofs.lemmas.Bool.Decides.{eqb_tells}
use Rattle.std.proofs.lemmas.List.Sums.{sum_by-cons}
use Rattle.cap_format.specs.declared.kind.CapKind.TheVariants.{Page, Process}
use Rattle.process_objects.specs.declared.state.State.{State as ProcessState}
use Rattle.process_objects.specs.declared.state.State.TheVariants.{Running, Receiving, Faulted}
use Rattle.process_objects.specs.Process.{ProcessValue}
use Rattle.object_store.specs.Store.{Store, process_at}
use Rattle.object_store.specs.Meaning.{state_map}
use Rattle.object_store.proofs.Means.{process_at-state_map}
use Rattle.schedules.specs.Queues.{QueuesValue, hart_of, stands_in}
use Rattle.schedules.specs.Ready.{Agrees, runs_of, places_due}
use Rattle.schedules.specs.Standing.{times_in}
use Rattle.schedules.proofs.OnHart.{in-list, on_hart}
use Rattle.machine_state.specs.State.{State, process}
use Rattle.quiet_runs.specs.Reaching.{is_alone, names, reached_by}
use Rattle.quiet_runs.specs.Finding.{has_process, is_below, is_far_reaching, is_only_on, is_own, is_secluded, is_watched, runs, some_held}
use Rattle.quiet_finding.specs.Comers.{AreComers, ComersValue, names_process}
use Rattle.quiet_finding.specs.Watched.{WatchedValue, watch_of}
use Rattle.quiet_finding.proofs.Folding.{is_below-false, is_below-suc, is_below-zero}

-- ---- a process on a hart runs, and stands nowhere else

due-runs : (state : ProcessState) → 1 ≤ places_due state → runs state ≡ true
due-runs Running lt = refl
due-runs (Receiving accept) lt = absurd (omega (arith, lt))
due-runs (Faulted code address) lt = absurd (omega (arith, lt))

due-most : (state : ProcessState) → places_due state ≤ 1
due-most Running = omega arith
due-most (Receiving accept) = omega arith
due-most (Faulted code address) = omega arith

-- a process that stands in a list no time stands in none
none-stands : (p : ℕ) (lists : List (List ℕ)) → sum_by (times_in p) lists ≡ 0 → list_any (λ xs. stands_in xs p) lists ≡ false
none-stands p [] none = refl
none-stands p (xs ∷ lists) none =
    let parts : times_in p xs + sum_by (times_in p) lists ≡ 0 = sym (sum_by-cons (times_in p) xs lists) ∙ none in
    by (omega (arith, parts)) (stands_in xs p) refl (none-stands p lists (omega (arith, parts)))
  where
    by : times_in p xs ≡ 0 → (b : Bool) → stands_in xs p ≡ b → list_any (λ xs. stands_in xs p) lists ≡ false → (b || list_any (λ xs. stands_in xs p) lists) ≡ false
    by here true is rest = let one = in-list p xs is in absurd (omega (arith, here, one))
    by here false is rest = rest

module _ (s : Store) (q : QueuesValue) (p hart : ℕ) (agrees : Agrees (runs_of s q)) (there : p < length s.contents.processes) (on : hart_of q hart ≡ Some p)
    (alone : (k : ℕ) → k ≢ hart → hart_of q k ≢ Some p) where
  pub it-runs : runs (process_at (state_map s) p).state ≡ true
  it-runs =
      let one = on_hart p hart q.harts on in
      let due = agrees.each p there in
      ap (λ (v : ProcessValue). runs v.state) (process_at-state_map s p) ∙ due-runs (process_at s p).state (omega (arith, one, due))

  on-other : (other : ℕ) → (not (other == hart) && has_process (hart_of q other) p) ≡ false
  on-other other = elim (eqb_tells other hart) [
    | inl here ↦ ap (λ (b : Bool). not b && has_process (hart_of q other) p) here.0
    | inr apart ↦ ap (λ (b : Bool). not b && has_process (hart_of q other) p) apart.0 ∙ by (hart_of q other) refl (alone other apart.1)
  ]
    where
      by : (o : Option ℕ) → hart_of q other ≡ o → hart_of q other ≢ Some p → has_process o p ≡ false
      by None is not_here = refl
      by (Some x) is not_here = elim (eqb_tells x p) [
        | inl same ↦ absurd (not_here (is ∙ ap (λ (y : ℕ). Some y) same.1))
        | inr apart ↦ apart.0
      ]

  pub only-there : is_only_on q p hart ≡ true
  only-there =
      let one = on_hart p hart q.harts on in
      let due = agrees.each p there in
      let most = due-most (process_at s p).state in
      let here : has_process (hart_of q hart) p ≡ true = ap (λ (o : Option ℕ). has_process o p) on ∙ eq-eqb p p refl in
      let elsewhere : not (is_below (λ other. not (other == hart) && has_process (hart_of q other) p) (length q.harts)) ≡ true = ap not (is_below-false (λ other. not (other == hart) && has_process (hart_of q other) p) (length q.harts) (λ other lt. on-other other)) in
      let ready : not (list_any (λ queue. stands_in queue p) q.ready) ≡ true = ap not (none-stands p q.ready (omega (arith, one, due, most))) in
      let asleep : not (list_any (λ sleepers. stands_in sleepers p) q.sleepers) ≡ true = ap not (none-stands p q.sleepers (omega (arith, one, due, most))) in
      and_from _ _ here (and_from _ _ elsewhere (and_from _ _ ready asleep))

-- it has its own to itself where the tables say so
pub secluded-is : (s : State) (p hart : ℕ) (r : ComersValue) → AreComers s.store r → runs (process s p).state ≡ true → is_only_on s.queues p hart ≡ true
    → is_secluded s p hart ≡ (not (names_process r p) && not r.far)
secluded-is s p hart r is run only =
    ap₂ (λ (a b : Bool). a && (b && (not (some_held (λ c. names c Process p) s.store) && not (some_held (λ c. is_far_reaching c.kind) s.store)))) run only
    ∙ ap₂ (λ (a b : Bool). not a && not b) (sym (is.named p)) (sym is.far)

-- ---- pages of its own

both_ways : (a b : Bool) → (a ≡ true → b ≡ true) → (b ≡ true → a ≡ true) → a ≡ b
both_ways true true f g = refl
both_ways true false f g = sym (f refl)
both_ways false true f g = g refl
both_ways false false f g = refl

-- the number below `n` of which the test holds
record HoldsBelow (test : ℕ → Bool) (n : ℕ) : Type 0 where
  at : ℕ
  below : at < n
  holds : test at ≡ true

below-holds : (test : ℕ → Bool) (n : ℕ) → is_below test n ≡ true → HoldsBelow test n
below-holds test zero e = let none = sym (is_below-zero test) ∙ e in absurd (cc (none))
below-holds test (suc n) e = elim (or_cases (is_below test n) (test n) (sym (is_below-suc test n) ∙ e)) [
  | inl before ↦ let rest = below-holds test n before in record { at = rest.at; below = let lt = rest.below in omega (arith, lt); holds = rest.holds }
  | inr here ↦ record { at = n; below = omega arith; holds = here }
]

holds-below : (test : ℕ → Bool) (n k : ℕ) → k < n → test k ≡ true → is_below test n ≡ true
holds-below test zero k lt e = absurd (omega (arith, lt))
holds-below test (suc n) k lt e = is_below-suc test n ∙ elim (eqb_tells k n) [
  | inl same ↦ or_right (is_below test n) (test n) (subst (λ (j : ℕ). test j ≡ true) same.1 e)
  | inr apart ↦ let other = apart.1 in or_left (is_below test n) (test n) (holds-below test n k (omega (arith, lt, other)) e)
]

module _ (test : ℕ → Bool) (n : ℕ) (within : (k : ℕ) → test k ≡ true → k < n) where
  listed-below : (xs : List ℕ) → list_any test xs ≡ true → is_below (λ k. stands_in xs k && test k) n ≡ true
  listed-below [] e = absurd (cc (e))
  listed-below (x ∷ xs) e = elim (or_cases (test x) (list_any test xs) e) [
    | inl here ↦ holds-below (λ k. stands_in (x ∷ xs) k && test k) n x (within x here) (and_from _ _ (or_left (x == x) (stands_in xs x) (eq-eqb x x refl)) here)
    | inr later ↦
        let rest = below-holds (λ k. stands_in xs k && test k) n (listed-below xs later) in
        let both = and_parts (stands_in xs rest.at) (test rest.at) rest.holds in
        holds-below (λ k. stands_in (x ∷ xs) k && test k) n rest.at rest.below (and_from _ _ (or_right (x == rest.at) (stands_in xs rest.at) both.0) both.1)
  ]

  stands-listed : (k : ℕ) (xs : List ℕ) → stands_in xs k ≡ true → test k ≡ true → list_any test xs ≡ true
  stands-listed k [] e holds = absurd (cc (e))
  stands-listed k (x ∷ xs) e holds = elim (or_cases (x == k) (stands_in xs k) e) [
    | inl here ↦ or_left (test x) (list_any test xs) (subst (λ (j : ℕ). test j ≡ true) (sym (eqb-true x k here)) holds)
    | inr later ↦ or_right (test x) (list_any test xs) (stands-listed k xs later holds)
  ]

  -- a test of those in a list is one of all numbers below a bound of it
  listed-is : (xs : List ℕ) → is_below (λ k. stands_in xs k && test k) n ≡ list_any test xs
  listed-is xs = both_ways _ _
      (λ e. let found = below-holds (λ k. stands_in xs k && test k) n e in let both = and_parts (stands_in xs found.at) (test found.at) found.holds in stands-listed found.at xs both.0 both.1)
      (listed-below xs)

-- a process is watched where it is listed, or where a page is that is its own
pub watched-is : (w : WatchedValue) (s : State) (p : ℕ) → is_watched (watch_of w) s p ≡ (stands_in w.processes p || list_any (is_own s p) w.pages)
watched-is w s p =
    let within : (n : ℕ) → is_own s p n ≡ true → n < length s.store.contents.pages = λ n own.
    ltb-true n (length s.store.contents.pages) (and_parts (nat_lt n (length s.store.contents.pages)) (is_alone p (reached_by s.store Page n)) own).0 in
    ap (λ (b : Bool). stands_in w.processes p || b) (listed-is (is_own s p) (length s.store.contents.pages) within w.pages)
