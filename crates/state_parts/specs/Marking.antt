-- What is marked before an event.
use Rattle.std.specs.Prelude.{◌≡◌, ℕ, ◌<◌, ◌⊎◌, List}
use Rattle.cap_format.specs.declared.kind.CapKind.{CapKind}
use Rattle.cap_format.specs.declared.kind.CapKind.TheVariants.{Process}
use Rattle.object_store.specs.Store.{Store, size_of, count_of}
use Rattle.object_store.specs.Object.{ObjectName, IsAmong}
use Rattle.machine_state.specs.State.{State}
use Rattle.state_parts.specs.Keys.{HasGptsOnce}

-- names were added, each of an object that is there, and no GPT is named twice where none was
pub record AddsThere (s : Store) (old new : List ObjectName) : Type 0 where
  pub before : (kind : CapKind) (n : ℕ) → IsAmong kind n old → IsAmong kind n new
  pub there : (kind : CapKind) (n : ℕ) → IsAmong kind n new → IsAmong kind n old ⊎ (n < size_of s.items kind)
  pub once : HasGptsOnce old → HasGptsOnce new

-- each of these objects that is there is among those that are marked
pub record HasThere (s : Store) (names marked : List ObjectName) : Type 0 where
  pub each : (kind : CapKind) (n : ℕ) → IsAmong kind n names → n < size_of s.items kind → IsAmong kind n marked

-- each process that is there and among these is among those that are marked
pub record HasProcesses (s : Store) (names marked : List ObjectName) : Type 0 where
  pub each : (n : ℕ) → IsAmong Process n names → n < size_of s.items Process → IsAmong Process n marked

-- nobody came or left a queue or a hart, and the machine is as halted as it was
pub record StandsStill (s t : State) : Type 0 where
  pub queues : t.queues ≡ s.queues
  pub halted : t.halted ≡ s.halted

-- each of these objects has the same count in both
pub record HaveCounts (s t : Store) (names : List ObjectName) : Type 0 where
  pub each : (kind : CapKind) (n : ℕ) → IsAmong kind n names → count_of s.items kind n ≡ count_of t.items kind n
