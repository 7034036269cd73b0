-- A process on a hart stands there alone.
use Rattle.std.proofs.Common.{◌≡◌, ◌≢◌, ◌⊎◌, inl, inr, ℕ, ◌+◌, ◌<◌, ◌≤◌, ◌==◌, eqb, leb, zero, suc, Bool, true, false, ◌||◌, cond, List, [], ◌∷◌, set, slice_index_or, length, refl, sym, ◌∙◌, arith, Option, Some, None, IfSome}
use Rattle.std.specs.List.{sum_by}
use Rattle.std.proofs.lemmas.List.{get_or-set_other, get_or_past}
use Rattle.std.proofs.lemmas.List.Sums.{get_or-le-sum_by, sum_by-set}
use Rattle.std.proofs.lemmas.Bool.Decides.{eqb_tells, leb_tells}
use Rattle.schedules.specs.Queues.{QueuesValue, hart_of, ready_queue, sleepers_of, stands_in}
use Rattle.schedules.specs.Standing.{standing, times_in, times_on, IsQueues}
use Rattle.schedules.proofs.Agreement.{one-at}

-- past the last hart there is none
within-harts : (harts : List (Option ℕ)) (h p : ℕ) → slice_index_or harts h None ≡ Some p → h < length harts
within-harts [] h p e = cc
within-harts (x ∷ xs) zero p e = omega arith
within-harts (x ∷ xs) (suc h) p e = let rest = within-harts xs h p e in omega (arith, rest)

pub on_hart : (p h : ℕ) (harts : List (Option ℕ)) → slice_index_or harts h None ≡ Some p → 1 ≤ sum_by (times_on p) harts
on_hart p h harts e =
    let most = get_or-le-sum_by (times_on p) harts h None (within-harts harts h p e) in
    let one : times_on p (slice_index_or harts h None) ≡ 1 = rw e (one-at p 1) in
    omega (arith, most, one)

-- two harts with one process
two-harts : (p g h : ℕ) (harts : List (Option ℕ)) → g ≢ h → slice_index_or harts g None ≡ Some p → slice_index_or harts h None ≡ Some p → 2 ≤ sum_by (times_on p) harts
two-harts p g h harts other eg eh =
    let without = sum_by-set (times_on p) harts g None None (within-harts harts g p eg) in
    let one : times_on p (slice_index_or harts g None) ≡ 1 = rw eg (one-at p 1) in
    let still : slice_index_or (set harts g None) h None ≡ Some p = get_or-set_other harts g h None None (λ e. other (sym e)) ∙ eh in
    let most = on_hart p h (set harts g None) still in
    omega (arith, without, one, most)

pub in-list : (p : ℕ) (xs : List ℕ) → stands_in xs p ≡ true → 1 ≤ times_in p xs
in-list p [] h = cc
in-list p (x ∷ xs) h = on (x == p) h (λ g. in-list p xs g)
  where
    on : (b : Bool) → (b || stands_in xs p) ≡ true → (stands_in xs p ≡ true → 1 ≤ times_in p xs) → 1 ≤ cond b 1 0 + times_in p xs
    on true h rest = omega arith
    on false h rest = omega (arith, rest h)

pub in_lists : (p k : ℕ) (lists : List (List ℕ)) → stands_in (slice_index_or lists k []) p ≡ true → 1 ≤ sum_by (times_in p) lists
in_lists p k lists h = on (leb_tells (length lists) k)
  where
    on : ((leb (length lists) k ≡ true) × (length lists ≤ k)) ⊎ ((leb (length lists) k ≡ false) × (k < length lists)) → 1 ≤ sum_by (times_in p) lists
    on (inl (t, past)) = let none : slice_index_or lists k [] ≡ [] = get_or_past lists k [] past in cc
    on (inr (t, within)) =
        let most = get_or-le-sum_by (times_in p) lists k [] within in
        let one = in-list p (slice_index_or lists k []) h in
        omega (arith, most, one)

pub same_hart : (q : QueuesValue) (p g h : ℕ) → IsQueues q → hart_of q g ≡ Some p → hart_of q h ≡ Some p → g ≡ h
same_hart q p g h queues eg eh = on (eqb_tells g h)
  where
    on : ((eqb g h ≡ true) × (g ≡ h)) ⊎ ((eqb g h ≡ false) × (g ≢ h)) → g ≡ h
    on (inl (t, e)) = e
    on (inr (t, other)) = absurd (let two = two-harts p g h q.harts other eg eh in let once = queues.once p in omega (arith, two, once))

pub not_ready : (q : QueuesValue) (p k h : ℕ) → IsQueues q → stands_in (ready_queue q k) p ≡ true → hart_of q h ≡ Some p → ⊥
not_ready q p k h queues r e = let one = in_lists p k q.ready r in let two = on_hart p h q.harts e in let once = queues.once p in omega (arith, one, two, once)

pub not_sleeping : (q : QueuesValue) (p k h : ℕ) → IsQueues q → stands_in (sleepers_of q k) p ≡ true → hart_of q h ≡ Some p → ⊥
not_sleeping q p k h queues r e = let one = in_lists p k q.sleepers r in let two = on_hart p h q.harts e in let once = queues.once p in omega (arith, one, two, once)

pub not_nowhere : (q : QueuesValue) (p h : ℕ) → standing q p ≡ 0 → hart_of q h ≡ Some p → ⊥
not_nowhere q p h none e = let two = on_hart p h q.harts e in omega (arith, none, two)

-- the process on a hart is one of the machine's
pub hart_there : (q : QueuesValue) (h : ℕ) → IsQueues q → IfSome (hart_of q h) (λ p. p < length q.sleepers)
hart_there q h queues = on (hart_of q h) refl
  where
    below : (p : ℕ) → hart_of q h ≡ Some p → ((leb (length q.sleepers) p ≡ true) × (length q.sleepers ≤ p)) ⊎ ((leb (length q.sleepers) p ≡ false) × (p < length q.sleepers)) → p < length q.sleepers
    below p e (inl (t, past)) = absurd (let two = on_hart p h q.harts e in let none = queues.known p past in omega (arith, two, none))
    below p e (inr (t, within)) = within

    on : (hart : Option ℕ) → hart_of q h ≡ hart → IfSome hart (λ p. p < length q.sleepers)
    on None e = tt
    on (Some p) e = below p e (leb_tells (length q.sleepers) p)
