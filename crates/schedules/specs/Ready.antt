-- Making processes ready: the states of processes and the queues together. (Coyotos; priorities are this project's.)
use Rattle.std.specs.Prelude.{◌≡◌, ◌≢◌, ℕ, ◌<◌, List, [], ◌∷◌, length, slice_index_or, slice_set}
use Rattle.cap_format.specs.declared.kind.CapKind.{CapKind}
use Rattle.cap_format.specs.declared.kind.CapKind.TheVariants.{Schedule, Process}
use Rattle.cap_format.specs.declared.fault.FaultCode.TheVariants.{NoSchedule}
use Rattle.cap_format.specs.Capability.{Capability}
use Rattle.process_objects.specs.declared.state.State.{State}
use Rattle.process_objects.specs.declared.state.State.TheVariants.{Running, Receiving, Faulted}
use Rattle.process_objects.specs.Process.{ProcessValue, process_of, slot_of, empty_process}
use Rattle.object_store.specs.Store.{Store, with_contents, process_at}
use Rattle.object_store.specs.Meaning.{meaning}
use Rattle.object_store.specs.Object.{ObjectName, object_name}
use Rattle.schedules.specs.Queues.{QueuesValue, enqueued, sleepers_of}
use Rattle.schedules.specs.Standing.{standing}

-- the processes of a machine, and where they stand
pub record Runs : Type 0 where
  pub processes : List ProcessValue
  pub queues : QueuesValue

-- these processes with these queues
abbrev pub runs : List ProcessValue → QueuesValue → Runs
runs processes queues = record { processes = processes; queues = queues }

-- the processes of these objects with these queues
abbrev pub runs_of : Store → QueuesValue → Runs
runs_of s q = record { processes = s.contents.processes; queues = q }

-- the objects with these processes, and all else the same
abbrev pub with_processes : Store → List ProcessValue → Store
with_processes s processes = with_contents s (record s.contents { processes = processes })

-- process `p`
abbrev pub process_in : Runs → ℕ → ProcessValue
process_in r p = slice_index_or r.processes p empty_process

-- what the schedule slot of process `p` means
abbrev pub schedule_of : Store → ℕ → Capability
schedule_of s p = meaning s.items (slot_of (process_at s p) 1)

-- the capability in the schedule slot of process `p` of these objects, as it stands; in the model's map, where it has no
-- count, that is what the slot means
abbrev pub schedule_in : Store → ℕ → Capability
schedule_in s p = slot_of (process_at s p) 1

-- the state of a process that is made ready under a capability of this kind
abbrev pub readied_state : CapKind → ℕ → State
readied_state Schedule pc = Running
readied_state _ pc = Faulted NoSchedule pc

-- a process as it is made ready
abbrev pub readied_process : CapKind → ProcessValue → ProcessValue
readied_process kind process = process_of process.pc process.regs process.capregs process.slots (readied_state kind process.pc)

-- the queues as it is made ready, with this priority
abbrev pub readied_queues : CapKind → ℕ → QueuesValue → ℕ → QueuesValue
readied_queues Schedule priority q p = enqueued q priority p
readied_queues _ priority q p = q

-- process `p` is made ready under what its schedule slot means
abbrev pub readied : Capability → ℕ → Runs → Runs
readied schedule p r = record {
  processes = slice_set r.processes p (readied_process schedule.kind (process_in r p));
  queues = readied_queues schedule.kind schedule.object r.queues p;
}

-- these are made ready, one after the other
unfoldable pub readied_all : (ℕ → Capability) → List ℕ → Runs → Runs
readied_all schedule [] r = r
readied_all schedule (p ∷ ps) r = readied_all schedule ps (readied (schedule p) p r)

-- nobody sleeps on this process
abbrev pub unslept : QueuesValue → ℕ → QueuesValue
unslept q on = record { ready = q.ready; sleepers = slice_set q.sleepers on []; harts = q.harts }

-- all sleepers of a process are made ready, in their order
abbrev pub woken : (ℕ → Capability) → ℕ → Runs → Runs
woken schedule on r = readied_all schedule (sleepers_of r.queues on) (record { processes = r.processes; queues = unslept r.queues on })

-- 1 for a process that runs
abbrev pub places_due : State → ℕ
places_due Running = 1
places_due (Receiving accept) = 0
places_due (Faulted code address) = 0

-- a process that runs stands in one place, and any other in none
pub record Agrees (r : Runs) : Type 0 where
  pub sizes : length r.processes ≡ length r.queues.sleepers
  pub each : (p : ℕ) → p < length r.processes → standing r.queues p ≡ places_due (process_in r p).state

-- the same, but for process `p`, which stands nowhere
pub record AgreesBut (p : ℕ) (r : Runs) : Type 0 where
  pub sizes : length r.processes ≡ length r.queues.sleepers
  pub nowhere : standing r.queues p ≡ 0
  pub each : (x : ℕ) → x < length r.processes → x ≢ p → standing r.queues x ≡ places_due (process_in r x).state

-- the names of these processes
abbrev pub process_names : List ℕ → List ObjectName
process_names [] = []
process_names (p ∷ ps) = object_name Process p ∷ process_names ps
