-- A process leaves the one place where it stands, or none.
use Rattle.std.proofs.Common.{◌≡◌, ℕ, zero, suc, ◌+◌, ◌≤◌, ◌==◌, Bool, true, false, cond, if◌then◌else◌, List, [], ◌∷◌, map, slice_index_or, slice_set, refl, sym, ap, ◌∙◌, arith, Option, Some, None}
use Rattle.std.specs.List.{sum_by}
use Rattle.std.proofs.lemmas.List.Sums.{sum_by-cons}
use Rattle.schedules.specs.Queues.{QueuesValue, stands_in, without, hart_without, left}
use Rattle.schedules.specs.Standing.{standing, times_in, times_on}
use Rattle.schedules.proofs.Agreement.{one-at}
use Rattle.schedules.proofs.OnHart.{on_hart, in-list, in_lists}

-- a list in which the process is not
without_absent : (p : ℕ) (xs : List ℕ) → times_in p xs ≡ 0 → without p xs ≡ xs
without_absent p [] none = refl
without_absent p (x ∷ xs) none = on (x == p) none (λ rest. without_absent p xs rest)
  where
    on : (b : Bool) → cond b 1 0 + times_in p xs ≡ 0 → (times_in p xs ≡ 0 → without p xs ≡ xs) → (if b then without p xs else x ∷ without p xs) ≡ x ∷ xs
    on true e rest = absurd (omega (arith, e))
    on false e rest = ap (λ l. x ∷ l) (rest (omega (arith, e)))

pub without_absent_all : (p : ℕ) (lists : List (List ℕ)) → sum_by (times_in p) lists ≡ 0 → map (without p) lists ≡ lists
without_absent_all p [] none = refl
without_absent_all p (xs ∷ lists) none =
    let sum : times_in p xs + sum_by (times_in p) lists ≡ 0 = sym (sum_by-cons (times_in p) xs lists) ∙ none in
    let here : times_in p xs ≡ 0 = omega (arith, sum) in
    let rest : sum_by (times_in p) lists ≡ 0 = omega (arith, sum) in
    ap (λ l. l ∷ map (without p) lists) (without_absent p xs here) ∙ ap (λ l. xs ∷ l) (without_absent_all p lists rest)

-- harts on which the process is not
hart_without_absent : (p : ℕ) (hart : Option ℕ) → times_on p hart ≡ 0 → hart_without p hart ≡ hart
hart_without_absent p None none = refl
hart_without_absent p (Some x) none = on (x == p) none
  where
    on : (b : Bool) → ◌≡◌ {A = ℕ} (cond b 1 0) 0 → (if b then None else Some x) ≡ Some x
    on true e = absurd (omega (arith, e))
    on false e = refl

pub hart_without_absent_all : (p : ℕ) (harts : List (Option ℕ)) → sum_by (times_on p) harts ≡ 0 → map (hart_without p) harts ≡ harts
hart_without_absent_all p [] none = refl
hart_without_absent_all p (hart ∷ harts) none =
    let sum : times_on p hart + sum_by (times_on p) harts ≡ 0 = sym (sum_by-cons (times_on p) hart harts) ∙ none in
    let here : times_on p hart ≡ 0 = omega (arith, sum) in
    let rest : sum_by (times_on p) harts ≡ 0 = omega (arith, sum) in
    ap (λ h. h ∷ map (hart_without p) harts) (hart_without_absent p hart here) ∙ ap (λ l. hart ∷ l) (hart_without_absent_all p harts rest)

-- a process that stands nowhere leaves no place
pub left-nowhere : (q : QueuesValue) (p : ℕ) → standing q p ≡ 0 → left q p ≡ q
left-nowhere q p nowhere =
    let ready : sum_by (times_in p) q.ready ≡ 0 = omega (arith, nowhere) in
    let asleep : sum_by (times_in p) q.sleepers ≡ 0 = omega (arith, nowhere) in
    let harts : sum_by (times_on p) q.harts ≡ 0 = omega (arith, nowhere) in
    rw (without_absent_all p q.ready ready, without_absent_all p q.sleepers asleep, hart_without_absent_all p q.harts harts) refl

-- lists in one of which the process stands once
pub without_one : (p k : ℕ) (lists : List (List ℕ)) → stands_in (slice_index_or lists k []) p ≡ true → sum_by (times_in p) lists ≤ 1 → slice_set lists k (without p (slice_index_or lists k [])) ≡ map (without p) lists
without_one p k [] there once = refl
without_one p zero (xs ∷ lists) there once =
    let sum = sum_by-cons (times_in p) xs lists in
    let one = in-list p xs there in
    let rest : sum_by (times_in p) lists ≡ 0 = omega (arith, sum, one, once) in
    ap (λ l. without p xs ∷ l) (sym (without_absent_all p lists rest))
without_one p (suc k) (xs ∷ lists) there once =
    let sum = sum_by-cons (times_in p) xs lists in
    let one = in_lists p k lists there in
    let here : times_in p xs ≡ 0 = omega (arith, sum, one, once) in
    let rest = without_one p k lists there (omega (arith, sum, once)) in
    ap (λ l. xs ∷ l) rest ∙ ap (λ l. l ∷ map (without p) lists) (sym (without_absent p xs here))

-- the process is taken off its hart
cleared : (p : ℕ) → hart_without p (Some p) ≡ None
cleared p = on (p == p) (one-at p 1)
  where
    on : (b : Bool) → ◌≡◌ {A = ℕ} (cond b 1 0) 1 → (if b then None else Some p) ≡ None
    on true e = refl
    on false e = absurd (omega (arith, e))

-- harts of which one has the process
pub hart_without_one : (p k : ℕ) (harts : List (Option ℕ)) → slice_index_or harts k None ≡ Some p → sum_by (times_on p) harts ≤ 1 → slice_set harts k None ≡ map (hart_without p) harts
hart_without_one p k [] there once = refl
hart_without_one p zero (hart ∷ harts) there once =
    let sum = sum_by-cons (times_on p) hart harts in
    let one : times_on p hart ≡ 1 = rw there (one-at p 1) in
    let rest : sum_by (times_on p) harts ≡ 0 = omega (arith, sum, one, once) in
    let gone : hart_without p hart ≡ None = rw there (cleared p) in
    ap (λ l. None ∷ l) (sym (hart_without_absent_all p harts rest)) ∙ ap (λ h. h ∷ map (hart_without p) harts) (sym gone)
hart_without_one p (suc k) (hart ∷ harts) there once =
    let sum = sum_by-cons (times_on p) hart harts in
    let one = on_hart p k harts there in
    let here : times_on p hart ≡ 0 = omega (arith, sum, one, once) in
    let rest = hart_without_one p k harts there (omega (arith, sum, once)) in
    ap (λ l. hart ∷ l) rest ∙ ap (λ h. h ∷ map (hart_without p) harts) (sym (hart_without_absent p hart here))
