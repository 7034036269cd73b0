-- The process that a hart has or takes is one of the machine's.
use Rattle.std.proofs.Common.{◌≡◌, ℕ, ◌<◌, ◌==◌, zero, suc, Bool, true, false, if◌then◌else◌, List, [], length, slice_index_or, refl, arith, Option, Some, None, IfSome}
use Rattle.schedules.specs.Queues.{QueuesValue, priorities, highest_below, hart_of, taken_from, dispatched_by, dispatched}
use Rattle.schedules.specs.Standing.{IsQueues}
use Rattle.schedules.proofs.Kept.{kept_taken}
use Rattle.schedules.proofs.OnHart.{hart_there}

-- the highest below `n` is below `n`
highest_within : (ready : List (List ℕ)) (n : ℕ) → IfSome (highest_below ready n) (λ k. k < n)
unfolding highest_below
highest_within ready zero = tt
highest_within ready (suc n) = by (length (slice_index_or ready n []) == 0) (highest_below ready n) (highest_within ready n)
  where
    by : (b : Bool) (lower : Option ℕ) → IfSome lower (λ k. k < n) → IfSome (if b then lower else Some n) (λ k. k < suc n)
    by true None below = tt
    by true (Some k) below = omega (arith, below)
    by false lower below = omega arith

-- the process of a hart after it took one
pub next_there : (q : QueuesValue) (h : ℕ) → IsQueues q → h < length q.harts → IfSome (hart_of (dispatched q h) h) (λ p. p < length q.sleepers)
next_there q h queues within = on (hart_of q h) refl
  where
    taken : hart_of q h ≡ None → (next : Option ℕ) → IfSome next (λ k. k < priorities) → IfSome (hart_of (taken_from q h next) h) (λ p. p < length q.sleepers)
    taken e None below = hart_there q h queues
    taken e (Some k) below = hart_there (taken_from q h (Some k)) h (kept_taken q h k queues within e below)

    on : (hart : Option ℕ) → hart_of q h ≡ hart → IfSome (hart_of (dispatched_by q h hart) h) (λ p. p < length q.sleepers)
    on None e = taken e (highest_below q.ready priorities) (highest_within q.ready priorities)
    on (Some p) e = hart_there q h queues
