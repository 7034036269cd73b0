-- What becomes of those who send and of those who receive: functions of the objects and of who stands where, as they are
-- stored and as they mean alike. (Coyotos; what a receiver's registers tell is this project's.)
use Rattle.std.specs.Prelude.{ℕ, List, ◌∷◌}
use Rattle.cap_format.specs.declared.kind.CapKind.TheVariants.{Process}
use Rattle.process_objects.specs.declared.state.State.TheVariants.{Receiving}
use Rattle.process_objects.specs.Accept.{AcceptValue}
use Rattle.process_objects.specs.Process.{with_state}
use Rattle.object_store.specs.Store.{process_at, with_process}
use Rattle.object_store.specs.Object.{ObjectName, object_name}
use Rattle.schedules.specs.Queues.{QueuesValue, left, asleep, sleepers_of}
use Rattle.schedules.specs.Ready.{readied, woken, runs_of, process_names}
use Rattle.invocation.specs.declared.message.Message.{Message}
use Rattle.invocation.specs.Delivery.{delivered}
use Rattle.operations.specs.System.{System, Reading, system, with_store, with_runs, schedule_by}

-- a message through endpoint `e` to process `q`, which is made ready
unfoldable pub told_system : Reading → System → ℕ → ℕ → Message → System
told_system reading w e q message =
    let s = delivered w.store e q message in
    with_runs (with_store w s) (readied (schedule_by reading s q) q (runs_of s w.queues))

-- process `p` leaves its place and is the last sleeper of process `q`
unfoldable pub waiting : System → ℕ → ℕ → System
waiting w p q = system w.store (asleep (left w.queues p) p q)

-- process `p` leaves its place and receives
abbrev pub receiving : System → ℕ → AcceptValue → System
receiving w p accept = system (with_process w.store p (with_state (process_at w.store p) (Receiving accept))) (left w.queues p)

-- and all that slept on it are made ready, in their order
unfoldable pub listening : Reading → System → ℕ → AcceptValue → System
listening reading w p accept =
    let v = receiving w p accept in
    with_runs v (woken (schedule_by reading v.store) p (runs_of v.store v.queues))

-- the objects that it changes: the process, and those that slept on it
abbrev pub listening_names : QueuesValue → ℕ → List ObjectName
listening_names q p = object_name Process p ∷ process_names (sleepers_of q p)
