-- Reading a machine and its state alike.
use Rattle.std.proofs.Common.{◌≡◌, ℕ, ap}
use Rattle.process_objects.specs.Process.{ProcessValue}
use Rattle.object_store.specs.Store.{Store, process_at}
use Rattle.object_store.specs.Meaning.{state_map}
use Rattle.object_store.proofs.Means.{process_at-state_map}

-- what a process does is so of what it means
pub state_meant : (s : Store) (p : ℕ) → (process_at (state_map s) p).state ≡ (process_at s p).state
state_meant s p = ap (λ (process : ProcessValue). process.state) (process_at-state_map s p)
