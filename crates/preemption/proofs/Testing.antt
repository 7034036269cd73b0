-- The test of a state tells what the laws ask of it.
use Rattle.std.proofs.Common.{◌≡◌, ℕ, zero, suc, ◌<◌, ◌≤◌, ◌==◌, nat_lt, Bool, true, false, ◌&&◌, ◌||◌, inl, inr, List, [], ◌∷◌, get_or, length, Option, Some, None, refl, sym, ap, ap₂, ◌∙◌, subst, arith}
use Rattle.std.specs.List.{list_all, sum_by}
use Rattle.std.proofs.lemmas.Bool.{and_parts, cases_lt, eq-eqb, eqb-true, ltb-true, lt-ltb, false_from_ne_true, false≢true}
use Rattle.cap_format.specs.declared.kind.CapKind.{CapKind}
use Rattle.cap_format.specs.declared.kind.CapKind.TheVariants.{Schedule}
use Rattle.process_objects.specs.declared.state.State.{State as ProcessState}
use Rattle.process_objects.specs.declared.state.State.TheVariants.{Running, Receiving, Faulted}
use Rattle.schedules.specs.Queues.{priorities, ready_queue, hart_of, stands_in}
use Rattle.schedules.specs.Standing.{IsQueues, standing, times_in}
use Rattle.schedules.specs.Ready.{Agrees, runs_of, places_due}
use Rattle.schedules.proofs.OnHart.{on_hart, in_lists}
use Rattle.machine_state.specs.State.{State, IsOnHart, process, schedule_slot}
use Rattle.quiet_runs.specs.Finding.{runs}
use Rattle.preemption.specs.Wide.{IsForEach}
use Rattle.preemption.specs.Tested.{is_schedule, has_schedule, is_scheduled, all_scheduled, is_served, is_for_each, TestLaw, KeptLaw}

-- ---- lists

-- what all of a list pass, each does
all-at : {A : Type 0} (test : A → Bool) (d : A) → test d ≡ true → (xs : List A) (i : ℕ)
    → list_all test xs ≡ true → test (get_or xs i d) ≡ true
all-at test d default [] i e = default
all-at test d default (x ∷ xs) zero e = (and_parts (test x) (list_all test xs) e).0
all-at test d default (x ∷ xs) (suc i) e =
    all-at test d default xs i (and_parts (test x) (list_all test xs) e).1

-- who stands in a list passes what all of it pass
all-stands : (test : ℕ → Bool) (xs : List ℕ) (p : ℕ) → list_all test xs ≡ true
    → stands_in xs p ≡ true → test p ≡ true
all-stands test [] p all is = absurd (false≢true is)
all-stands test (x ∷ xs) p all is =
    let parts = and_parts (test x) (list_all test xs) all in
    by (x == p) refl parts.0 (λ rest. all-stands test xs p parts.1 rest) is
  where
    by : (b : Bool) → (x == p) ≡ b → test x ≡ true → (stands_in xs p ≡ true → test p ≡ true)
        → (b || stands_in xs p) ≡ true → test p ≡ true
    by true same first rest is = subst (λ y. test y ≡ true) (eqb-true x p same) first
    by false other first rest is = rest is

-- two tests that agree on each of a list agree on all
all-same : {A : Type 0} (test other : A → Bool) (d : A) (xs : List A)
    → ((i : ℕ) → test (get_or xs i d) ≡ other (get_or xs i d)) → list_all test xs ≡ list_all other xs
all-same test other d [] same = refl
all-same test other d (x ∷ xs) same =
    ap₂ (λ (a b : Bool). a && b) (same zero) (all-same test other d xs (λ i. same (suc i)))

-- all who stand in a list pass
stands-all : (test : ℕ → Bool) (xs : List ℕ) → ((p : ℕ) → stands_in xs p ≡ true → test p ≡ true)
    → list_all test xs ≡ true
stands-all test [] each = refl
stands-all test (x ∷ xs) each =
    ap₂ (λ (a b : Bool). a && b) (each x (ap (λ b. b || stands_in xs x) (eq-eqb x x refl)))
    (stands-all test xs (λ p is. each p (later (x == p) (stands_in xs p) is)))
  where
    later : (a b : Bool) → b ≡ true → (a || b) ≡ true
    later true b is = refl
    later false b is = is

-- so in several lists
lists-all : (test : ℕ → Bool) (lists : List (List ℕ))
    → ((j p : ℕ) → stands_in (get_or lists j []) p ≡ true → test p ≡ true)
    → list_all (list_all test) lists ≡ true
lists-all test [] each = refl
lists-all test (xs ∷ lists) each =
    ap₂ (λ (a b : Bool). a && b) (stands-all test xs (each zero))
    (lists-all test lists (λ j. each (suc j)))

-- ---- what is tested is so

-- a kind that is a schedule
schedule-is : (kind : CapKind) → is_schedule kind ≡ true → kind ≡ Schedule
schedule-is Schedule e = refl
schedule-is _ e = absurd (false≢true e)

-- a process that runs
runs-is : (state : ProcessState) → runs state ≡ true → state ≡ Running
runs-is Running e = refl
runs-is _ e = absurd (false≢true e)

module _ (many : ℕ) (s : State) where
  -- one who is on a hart, and stands in one place, stands in no list
  nowhere-else : (lists : List (List ℕ)) (p j : ℕ)
      → sum_by (times_in p) lists ≡ 0 → stands_in (get_or lists j []) p ≡ false
  nowhere-else lists p j none = false_from_ne_true (stands_in (get_or lists j []) p)
      (λ is. let one = in_lists p j lists is in absurd (omega (arith, one, none)))

  test : is_for_each many s ≡ true → IsForEach many s
  test e =
      let q = s.queues in
      let first = and_parts (length q.harts == many) _ e in
      let second = and_parts (length q.ready == priorities) _ first.1 in
      let third = and_parts (list_all (list_all (λ p. nat_lt p many)) q.ready) _ second.1 in
      record {
        harts = eqb-true (length q.harts) many first.0;
        queues = eqb-true (length q.ready) priorities second.0;
        each = λ priority p is. ltb-true p many
            (all-stands (λ x. nat_lt x many) (ready_queue q priority) p
            (all-at (list_all (λ x. nat_lt x many)) [] refl q.ready priority third.0) is);
        ready = λ priority p on. let here = on_hart p on.hart q.harts on.there in
            let once = placed third.1 p on in
            nowhere-else q.ready p priority (omega (arith, here, once));
        sleeps = λ sleeper p on. let here = on_hart p on.hart q.harts on.there in
            let once = placed third.1 p on in
            nowhere-else q.sleepers p sleeper (omega (arith, here, once));
        running = λ p on. runs-is (process s p).state
            (and_parts (runs (process s p).state) (has_schedule s p) (served third.1 p on).1).0;
        scheduled = λ p on. let parts = schedule third.1 p on in record {
          kind = schedule-is (schedule_slot s p).kind parts.0;
          priority = ltb-true (schedule_slot s p).object priorities parts.1;
        };
      }
    where
      served : list_all (is_served s) s.queues.harts ≡ true → (p : ℕ) → IsOnHart s.queues p
          → ((standing s.queues p == 1) ≡ true)
          × ((runs (process s p).state && has_schedule s p) ≡ true)
      served each p on = and_parts (standing s.queues p == 1)
          (runs (process s p).state && has_schedule s p)
          (ap (is_served s) (sym on.there)
          ∙ all-at (is_served s) None refl s.queues.harts on.hart each)

      placed : list_all (is_served s) s.queues.harts ≡ true → (p : ℕ) → IsOnHart s.queues p
          → standing s.queues p ≡ 1
      placed each p on = eqb-true (standing s.queues p) 1 (served each p on).0

      schedule : list_all (is_served s) s.queues.harts ≡ true → (p : ℕ) → IsOnHart s.queues p
          → (is_schedule (schedule_slot s p).kind ≡ true)
          × (nat_lt (schedule_slot s p).object priorities ≡ true)
      schedule each p on = and_parts (is_schedule (schedule_slot s p).kind)
          (nat_lt (schedule_slot s p).object priorities)
          (and_parts (runs (process s p).state) (has_schedule s p) (served each p on).1).1

pub test_law : TestLaw
test_law many s e = test many s e

-- ---- what a machine keeps passes

-- one who is due a place runs
due-runs : (state : ProcessState) → 1 ≤ places_due state → (runs state ≡ true) × (places_due state ≡ 1)
due-runs Running due = (refl, refl)
due-runs (Receiving accept) due = absurd (omega (arith, due))
due-runs (Faulted code address) due = absurd (omega (arith, due))

module _ (many : ℕ) (s : State) (queues : IsQueues s.queues)
    (agrees : Agrees (runs_of s.store s.queues)) where
  -- who stands somewhere is one of the machine's
  known : (p : ℕ) → 1 ≤ standing s.queues p → p < length s.queues.sleepers
  known p some = elim (cases_lt p (length s.queues.sleepers)) [
    | inl there ↦ there
    | inr past ↦ absurd (let none = queues.known p past in omega (arith, some, none))
  ]

  -- who is on a hart runs, and stands in one place
  on-runs : (p hart : ℕ) → hart_of s.queues hart ≡ Some p
      → (runs (process s p).state ≡ true) × ((standing s.queues p == 1) ≡ true)
  on-runs p hart on =
      let here = on_hart p hart s.queues.harts on in
      let some : 1 ≤ standing s.queues p = omega (arith, here) in
      let there = known p some in
      let due = agrees.each p (omega (arith, there, agrees.sizes)) in
      let is = due-runs (process s p).state (omega (arith, some, due)) in
      (is.0, eq-eqb (standing s.queues p) 1 (due ∙ is.1))

  same-served : (hart : ℕ) (on : Option ℕ) → hart_of s.queues hart ≡ on
      → is_served s on ≡ is_scheduled s on
  same-served hart None on = refl
  same-served hart (Some p) on =
      let is = on-runs p hart on in
      ap₂ (λ (a b : Bool). a && (b && has_schedule s p)) is.1 is.0

  kept : length s.queues.harts ≡ many → length s.queues.sleepers ≤ many
      → is_for_each many s ≡ all_scheduled s
  kept harts few =
      let q = s.queues in
      let below = lists-all (λ p. nat_lt p many) q.ready
      (λ j p is. let one = in_lists p j q.ready is in
      let there = known p (omega (arith, one)) in lt-ltb p many (omega (arith, there, few))) in
      let each = all-same (is_served s) (is_scheduled s) None q.harts
      (λ i. same-served i (hart_of q i) refl) in
      ap₂ (λ (a b : Bool). a && b) (eq-eqb (length q.harts) many harts)
      (ap₂ (λ (a b : Bool). a && b) (eq-eqb (length q.ready) priorities queues.ready)
      (ap₂ (λ (a b : Bool). a && b) below each))

pub kept_law : KeptLaw
kept_law many s queues agrees harts few = kept many s queues agrees harts few
