-- In how many places a process stands: a process that runs in exactly one, any other in none. (Own.)
use Rattle.std.specs.Prelude.{◌≡◌, ℕ, ◌+◌, ◌≤◌, ◌==◌, true, cond, List, [], ◌∷◌, length, replicate, Option, Some, None}
use Rattle.std.specs.List.{sum_by}
use Rattle.schedules.specs.Queues.{QueuesValue, priorities, ready_queue, sleepers_of, hart_of, stands_in}
use Rattle.schedules.specs.declared.spot.Spot.{Spot}
use Rattle.schedules.specs.declared.spot.Spot.TheVariants.{Nowhere, Hart, Ready, Sleeper}

-- how often the process stands in a list
abbrev pub times_in : ℕ → List ℕ → ℕ
times_in p [] = 0
times_in p (x ∷ xs) = cond (x == p) 1 0 + times_in p xs

-- 1 where the hart has this process
abbrev pub times_on : ℕ → Option ℕ → ℕ
times_on p None = 0
times_on p (Some x) = cond (x == p) 1 0

-- in how many places the process stands
abbrev pub standing : QueuesValue → ℕ → ℕ
standing q p = sum_by (times_in p) q.ready + sum_by (times_in p) q.sleepers + sum_by (times_on p) q.harts

-- what queues keep: their sizes, and that no process stands in two places or is one that the machine has not
pub record IsQueues (q : QueuesValue) : Type 0 where
  pub ready : length q.ready ≡ priorities
  pub processes : length q.sleepers ≤ 256
  pub harts : length q.harts ≤ 8
  pub once : (p : ℕ) → standing q p ≤ 1
  pub known : (p : ℕ) → length q.sleepers ≤ p → standing q p ≡ 0

-- no process stands anywhere
abbrev pub empty_queues : ℕ → ℕ → QueuesValue
empty_queues processes harts = record {
  ready = replicate priorities [];
  sleepers = replicate processes [];
  harts = replicate harts None;
}

-- the place where a process stands
abbrev pub IsSpot : QueuesValue → ℕ → Spot → Type 0
IsSpot q p Nowhere = standing q p ≡ 0
IsSpot q p (Hart hart) = hart_of q hart ≡ Some p
IsSpot q p (Ready priority) = stands_in (ready_queue q priority) p ≡ true
IsSpot q p (Sleeper on) = stands_in (sleepers_of q on) p ≡ true
