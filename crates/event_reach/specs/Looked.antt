-- What a look at a machine from one of its harts leaves as it was. (This project's.)
use Rattle.std.specs.Prelude.{◌≡◌, ◌≢◌, ℕ}
use Rattle.machine_state.specs.Machine.{MachineValue}
use Rattle.machine_state.specs.State.{state_of}

-- Who looked at the machine `m` from this hart left `n`: the same state, the same objects with the counts of their
-- capabilities, the same queues, and a translator that keeps the same and holds the same for each other hart. What it holds
-- for this hart may be another.
pub record Looked {T K C : Type 0} (kept : T → K) (cache : T → ℕ → C) (hart : ℕ) (m n : MachineValue T) : Type 0 where
  pub state : state_of n ≡ state_of m
  pub objects : n.objects ≡ m.objects
  pub queues : n.queues ≡ m.queues
  pub keeps : kept n.translator ≡ kept m.translator
  pub others : (k : ℕ) → k ≢ hart → cache n.translator k ≡ cache m.translator k
