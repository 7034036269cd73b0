-- What operations work on, and the two ways of reading it: as the code stores it, and as the model's map has it.
use Rattle.std.specs.Prelude.{ℕ}
use Rattle.cap_format.specs.declared.kind.CapKind.{CapKind}
use Rattle.cap_format.specs.Capability.{Capability}
use Rattle.object_store.specs.Store.{Items, Store, count_of, emptied}
use Rattle.object_store.specs.Destruction.{destruction}
use Rattle.schedules.specs.Queues.{QueuesValue}
use Rattle.schedules.specs.Ready.{Runs, schedule_of, schedule_in, with_processes}

-- the objects, and who stands where
pub record System : Type 0 where
  pub store : Store
  pub queues : QueuesValue

-- these objects with these queues
abbrev pub system : Store → QueuesValue → System
system store queues = record { store = store; queues = queues }

-- other objects, and everybody stands where he stood
abbrev pub with_store : System → Store → System
with_store w store = system store w.queues

-- other processes in other places, and all other objects the same
abbrev pub with_runs : System → Runs → System
with_runs w r = system (with_processes w.store r.processes) r.queues

-- Stored: capabilities have counts, and one that is not live means Null. Meant: capabilities have no count, and each
-- means itself. (Own.)
pub data Reading : Type 0 where
  Stored : Reading
  Meant : Reading

-- what the schedule slot of a process means
abbrev pub schedule_by : Reading → Store → ℕ → Capability
schedule_by Stored s p = schedule_of s p
schedule_by Meant s p = schedule_in s p

-- the count with which a capability to an object is made
abbrev pub count_in : Reading → Items → CapKind → ℕ → ℕ
count_in Stored o kind n = count_of o kind n
count_in Meant o kind n = 0

-- the objects after a destruction: stored, one count rises; in the map, every capability to the object is Null
abbrev pub destroyed_in : Reading → CapKind → ℕ → Store → Store
destroyed_in Stored kind n s = emptied kind n s
destroyed_in Meant kind n s = destruction kind n s
