-- Where the same processes stand in two machines, of which one has a hart for each process. (Own.)
use Rattle.std.specs.Prelude.{◌≡◌, ℕ, true, ◌⊎◌, List, [], ◌∷◌, length, Some}
use Rattle.schedules.specs.Queues.{QueuesValue, ready_queue, hart_of, stands_in, first_of, rest_of}
use Rattle.machine_state.specs.State.{IsOnHart}

-- the second list is the first without some of those who are `out`; all others stand in it in the
-- same order
abbrev pub Thinned : (ℕ → Type 0) → List ℕ → List ℕ → Type 0
Thinned out [] ys = ys ≡ []
Thinned out (x ∷ xs) ys =
    (out x × Thinned out xs ys) ⊎ ((first_of ys ≡ Some x) × Thinned out xs (rest_of ys))

-- the process stands in a ready queue
pub record IsReady (q : QueuesValue) (p : ℕ) : Type 0 where
  pub priority : ℕ
  pub there : stands_in (ready_queue q priority) p ≡ true

-- The queues `n` of a machine with few harts, and `w`, those of a wide one. Process `p` is on hart
-- `p` of the wide machine or on none. Who is on a hart of the narrow machine is on one of the wide
-- one. Others may be there who wait in a ready queue of the narrow machine; the wide one's ready
-- queues leave them out. All else is the same.
pub record Thins (few : ℕ) (n w : QueuesValue) : Type 0 where
  pub few_harts : length n.harts ≡ few
  pub queues : length n.ready ≡ length w.ready
  pub sleepers : n.sleepers ≡ w.sleepers
  pub ready : (priority : ℕ)
      → Thinned (IsOnHart w) (ready_queue n priority) (ready_queue w priority)
  pub harts : (p : ℕ) → IsOnHart n p → IsOnHart w p
  pub home : (hart p : ℕ) → hart_of w hart ≡ Some p → hart ≡ p
  pub held : (p : ℕ) → IsOnHart w p → IsOnHart n p ⊎ IsReady n p
