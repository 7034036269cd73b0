-- What becomes of a process's place in a ready queue: others come behind it, and those before it go.
use Rattle.std.proofs.Common.{◌≡◌, ◌≢◌, ℕ, zero, suc, ◌-◌, ◌<◌, ◌==◌, ◌⊎◌, inl, inr, List, [], ◌∷◌, ◌++◌, length, get_or, false, Option, Some, None, refl, sym, ap, ◌∙◌, subst, arith}
use Rattle.std.proofs.lemmas.Bool.{cond_both, cases_eq, cases_lt, eqb-true, eq-eqb, ne_eqb}
use Rattle.std.proofs.lemmas.List.{get_or-set_same, get_or-set_other, get_or_past, length-set}
use Rattle.std.proofs.Math.ListN.{get_or-map}
use Rattle.object_store.proofs.Lists.{get_or-set}
use Rattle.cap_format.specs.declared.kind.CapKind.{CapKind}
use Rattle.cap_format.specs.declared.kind.CapKind.TheVariants.{Schedule}
use Rattle.cap_format.specs.Capability.{Capability}
use Rattle.schedules.specs.Queues.{QueuesValue, priorities, ready_queue, hart_of, first_of, rest_of, without, enqueued, left, highest_below, taken_from, dispatched_by, dispatched, sleepers_of}
use Rattle.schedules.specs.Ready.{Runs, readied_queues, readied, readied_all, unslept, woken}
use Rattle.ready_service.specs.Service.{IsAmongFirst, source_for, one_from}

-- ---- one list

-- nobody is among the first of an empty list
pub none-first : (p n : ℕ) → IsAmongFirst p n [] → ⊥
none-first p zero here = here
none-first p (suc n) here = here

-- others come behind
first-more : (p n : ℕ) (xs ys : List ℕ) → IsAmongFirst p n xs → IsAmongFirst p n (xs ++ ys)
first-more p zero xs ys here = absurd here
first-more p (suc n) [] ys here = absurd here
first-more p (suc n) (x ∷ xs) ys (inl here) = inl here
first-more p (suc n) (x ∷ xs) ys (inr later) = inr (first-more p n xs ys later)

-- who is among the first is among one more
first-suc : (p n : ℕ) (xs : List ℕ) → IsAmongFirst p n xs → IsAmongFirst p (suc n) xs
first-suc p zero xs here = absurd here
first-suc p (suc n) [] here = absurd here
first-suc p (suc n) (x ∷ xs) (inl here) = inl here
first-suc p (suc n) (x ∷ xs) (inr later) = inr (first-suc p n xs later)

-- another one goes
first-without : (p q n : ℕ) (xs : List ℕ) → q ≢ p → IsAmongFirst p n xs → IsAmongFirst p n (without q xs)
first-without p q zero xs other here = absurd here
first-without p q (suc n) [] other here = absurd here
first-without p q (suc n) (x ∷ xs) other (inl here) =
    cond_both (x == q) (without q xs) (x ∷ without q xs) (IsAmongFirst p (suc n)) (λ e. absurd (other (sym (eqb-true x q e) ∙ here))) (λ e. inl here)
first-without p q (suc n) (x ∷ xs) other (inr later) =
    cond_both (x == q) (without q xs) (x ∷ without q xs) (IsAmongFirst p (suc n)) (λ e. first-suc p n (without q xs) (first-without p q n xs other later)) (λ e. inr (first-without p q n xs other later))

-- the first goes, who is another
first-rest : (p n : ℕ) (xs : List ℕ) → first_of xs ≢ Some p → IsAmongFirst p n xs → IsAmongFirst p (n - 1) (rest_of xs)
first-rest p zero xs other here = absurd here
first-rest p (suc n) [] other here = absurd here
first-rest p (suc n) (x ∷ xs) other (inl here) = absurd (other (ap Some here))
first-rest p (suc n) (x ∷ xs) other (inr later) = let e : suc n - 1 ≡ n = omega arith in rw e later

-- ---- all queues

-- nobody comes before the process in this ready queue, and there are as many harts
pub record KeepsPlace (p priority : ℕ) (q r : QueuesValue) : Type 0 where
  pub first : (n : ℕ) → IsAmongFirst p n (ready_queue q priority) → IsAmongFirst p n (ready_queue r priority)

module _ (p priority : ℕ) where
  -- queues that are ready alike
  pub keeps-alike : (q r : QueuesValue) → r.ready ≡ q.ready → KeepsPlace p priority q r
  keeps-alike q r same = record { first = λ n here. subst (λ (ready : List (List ℕ)). IsAmongFirst p n (get_or ready priority [])) (sym same) here }

  pub keeps-then : (q r t : QueuesValue) → KeepsPlace p priority q r → KeepsPlace p priority r t → KeepsPlace p priority q t
  keeps-then q r t one more = record { first = λ n here. more.first n (one.first n here) }

  pub keeps-enqueued : (q : QueuesValue) (k x : ℕ) → KeepsPlace p priority q (enqueued q k x)
  keeps-enqueued q k x = record { first = by }
    where
      by : (n : ℕ) → IsAmongFirst p n (ready_queue q priority) → IsAmongFirst p n (ready_queue (enqueued q k x) priority)
      by n here = elim (get_or-set q.ready k priority (ready_queue q k ++ x ∷ []) []) [
        | inl at ↦ subst (IsAmongFirst p n) (sym at.1) (first-more p n (ready_queue q k) (x ∷ []) (subst (λ (i : ℕ). IsAmongFirst p n (ready_queue q i)) at.0 here))
        | inr same ↦ subst (IsAmongFirst p n) (sym same) here
      ]

  pub keeps-left : (q : QueuesValue) (x : ℕ) → x ≢ p → KeepsPlace p priority q (left q x)
  keeps-left q x other = record { first = λ n here. subst (IsAmongFirst p n) (sym (get_or-map (without x) q.ready priority [])) (first-without p x n (ready_queue q priority) other here) }

  -- a process is made ready
  pub keeps-readied_queues : (kind : CapKind) (k x : ℕ) (q : QueuesValue) → KeepsPlace p priority q (readied_queues kind k q x)
  keeps-readied_queues Schedule k x q = keeps-enqueued q k x
  keeps-readied_queues kind k x q = keeps-alike q q refl

  pub keeps-readied : (c : Capability) (x : ℕ) (r : Runs) → KeepsPlace p priority r.queues (readied c x r).queues
  keeps-readied c x r = keeps-readied_queues c.kind c.object x r.queues

  pub keeps-readied_all : (c : ℕ → Capability) (xs : List ℕ) (r : Runs) → KeepsPlace p priority r.queues (readied_all c xs r).queues
  unfolding readied_all
  keeps-readied_all c [] r = keeps-alike r.queues r.queues refl
  keeps-readied_all c (x ∷ xs) r =
      let next = readied (c x) x r in
      keeps-then r.queues next.queues (readied_all c xs next).queues (keeps-readied (c x) x r) (keeps-readied_all c xs next)

  pub keeps-woken : (c : ℕ → Capability) (on : ℕ) (r : Runs) → KeepsPlace p priority r.queues (woken c on r).queues
  keeps-woken c on r =
      let unslept_runs : Runs = record { processes = r.processes; queues = unslept r.queues on } in
      keeps-then r.queues unslept_runs.queues (woken c on r).queues (keeps-alike r.queues unslept_runs.queues refl) (keeps-readied_all c (sleepers_of r.queues on) unslept_runs)

-- ---- harts

-- there are as many harts as before
abbrev pub SameHarts : QueuesValue → QueuesValue → Type 0
SameHarts q r = length r.harts ≡ length q.harts

pub harts-readied_queues : (kind : CapKind) (k x : ℕ) (q : QueuesValue) → (readied_queues kind k q x).harts ≡ q.harts
harts-readied_queues Schedule k x q = refl
harts-readied_queues kind k x q = refl

pub harts-readied_all : (c : ℕ → Capability) (xs : List ℕ) (r : Runs) → (readied_all c xs r).queues.harts ≡ r.queues.harts
unfolding readied_all
harts-readied_all c [] r = refl
harts-readied_all c (x ∷ xs) r = harts-readied_all c xs (readied (c x) x r) ∙ harts-readied_queues (c x).kind (c x).object x r.queues

-- ---- a dispatch

-- by what of a hart's process: where it has none, the next of the highest ready queue is taken
module _ (p priority hart : ℕ) (q : QueuesValue) (there : hart < length q.harts) where
  taken : (n : ℕ) (source : Option ℕ) → hart_of (taken_from q hart source) hart ≢ Some p → IsAmongFirst p n (ready_queue q priority)
      → IsAmongFirst p (n - one_from priority source) (ready_queue (taken_from q hart source) priority)
  taken n None other here = let e : n - 0 ≡ n = omega arith in rw e here
  taken n (Some k) other here = by (cases_eq k priority)
    where
      by : (k ≡ priority) ⊎ (k ≡ priority → ⊥) → IsAmongFirst p (n - one_from priority (Some k)) (ready_queue (taken_from q hart (Some k)) priority)
      by (inr another) =
          let none : one_from priority (Some k) ≡ 0 = rw (ne_eqb k priority another) refl in
          let e : n - 0 ≡ n = omega arith in
          rw (none, e) (subst (IsAmongFirst p n) (sym (get_or-set_other q.ready k priority (rest_of (ready_queue q k)) [] (λ same. another (sym same)))) here)
      by (inl same) = elim (cases_lt k (length q.ready)) [
        | inr past ↦ absurd (none-first p n (subst (IsAmongFirst p n) (get_or_past q.ready k [] past) (subst (λ (i : ℕ). IsAmongFirst p n (ready_queue q i)) (sym same) here)))
        | inl within ↦
            let one : one_from priority (Some k) ≡ 1 = rw (eq-eqb k priority same) refl in
            let first : first_of (ready_queue q k) ≢ Some p = λ is. other (get_or-set_same q.harts hart (first_of (ready_queue q k)) None there ∙ is) in
            let rest = get_or-set_same q.ready k (rest_of (ready_queue q k)) [] within in
            let At : ℕ → Type 0 = λ i. IsAmongFirst p n (ready_queue q i) in
            let moved = first-rest p n (ready_queue q k) first (subst At (sym same) here) in
            let Then : ℕ → Type 0 = λ i. IsAmongFirst p (n - 1) (ready_queue (taken_from q hart (Some k)) i) in
            rw one (subst Then same (subst (IsAmongFirst p (n - 1)) (sym rest) moved))
      ]

  pub dispatch-moves : (n : ℕ) → hart_of (dispatched q hart) hart ≢ Some p → IsAmongFirst p n (ready_queue q priority)
      → IsAmongFirst p (n - one_from priority (source_for q (hart_of q hart))) (ready_queue (dispatched q hart) priority)
  dispatch-moves n = by (hart_of q hart)
    where
      by : (on : Option ℕ) → hart_of (dispatched_by q hart on) hart ≢ Some p → IsAmongFirst p n (ready_queue q priority) → IsAmongFirst p (n - one_from priority (source_for q on)) (ready_queue (dispatched_by q hart on) priority)
      by None other here = taken n (highest_below q.ready priorities) other here
      by (Some r) other here = let e : n - 0 ≡ n = omega arith in rw e here

pub dispatch-harts : (q : QueuesValue) (hart : ℕ) → length (dispatched q hart).harts ≡ length q.harts
dispatch-harts q hart = by (hart_of q hart)
  where
    taken_harts : (source : Option ℕ) → length (taken_from q hart source).harts ≡ length q.harts
    taken_harts None = refl
    taken_harts (Some k) = length-set q.harts hart (first_of (ready_queue q k))

    by : (on : Option ℕ) → length (dispatched_by q hart on).harts ≡ length q.harts
    by None = taken_harts (highest_below q.ready priorities)
    by (Some r) = refl

-- the highest ready queue in which anybody stands is the one of which no higher one is not empty
pub highest : (ready : List (List ℕ)) (p place priority n : ℕ) → priority < n → IsAmongFirst p place (get_or ready priority []) → ((k : ℕ) → priority < k → get_or ready k [] ≡ []) → highest_below ready n ≡ Some priority
unfolding highest_below
highest ready p place priority zero below here none = absurd (omega (arith, below))
highest ready p place priority (suc n) below here none = by (cases_eq priority n) (λ under. highest ready p place priority n under here none)
  where
    full : (xs : List ℕ) → IsAmongFirst p place xs → (length xs == 0) ≡ false
    full [] is = absurd (none-first p place is)
    full (x ∷ xs) is = ne_eqb (suc (length xs)) 0 (λ e. omega (arith, e))

    by : (priority ≡ n) ⊎ (priority ≡ n → ⊥) → (priority < n → highest_below ready n ≡ Some priority) → highest_below ready (suc n) ≡ Some priority
    by (inl same) rest =
        let At : ℕ → Type 0 = λ i. IsAmongFirst p place (get_or ready i []) in
        let stands : (length (get_or ready n []) == 0) ≡ false = full (get_or ready n []) (subst At same here) in
        rw stands (ap Some (sym same))
    by (inr other) rest =
        let under : priority < n = omega (arith, below, other) in
        let empty : get_or ready n [] ≡ [] = none n under in
        rw empty (rest under)
