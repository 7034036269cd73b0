-- Service: in which order processes are taken from a ready queue along a run. (This project's.)
use Rattle.std.specs.Prelude.{◌≡◌, ℕ, zero, suc, ◌+◌, ◌==◌, ◌⊎◌, if◌then◌else◌, List, [], ◌∷◌, Option, Some, None}
use Rattle.process_objects.specs.declared.state.State.TheVariants.{Running}
use Rattle.schedules.specs.Queues.{QueuesValue, priorities, highest_below, hart_of}
use Rattle.machine_state.specs.declared.event.Event.{Event}
use Rattle.machine_state.specs.declared.event.Event.TheVariants.{Step, Tick}
use Rattle.machine_state.specs.State.{State, process}
use Rattle.kernel_core.specs.Event.{event_of, performer}

-- the process is one of the first so many in a list
abbrev pub IsAmongFirst : ℕ → ℕ → List ℕ → Type 0
IsAmongFirst p zero xs = ⊥
IsAmongFirst p (suc n) [] = ⊥
IsAmongFirst p (suc n) (x ∷ xs) = (x ≡ p) ⊎ IsAmongFirst p n xs

-- the priority of the ready queue from which a hart takes its next process: the highest that is not empty; a hart that has a
-- process takes none
abbrev pub source_for : QueuesValue → Option ℕ → Option ℕ
source_for q None = highest_below q.ready priorities
source_for q (Some p) = None

-- the same of an event, of a machine that is not halted
abbrev pub source_by : State → Event → Option ℕ
source_by s (Step hart) = source_for s.queues (hart_of s.queues hart)
source_by s (Tick hart) = None

-- the priority of the ready queue from which an event takes a process, if it takes one
abbrev pub source_of : State → Event → Option ℕ
source_of s e = if s.halted then None else source_by s e

-- 1 where that is this priority
abbrev pub one_from : ℕ → Option ℕ → ℕ
one_from priority None = 0
one_from priority (Some source) = if source == priority then 1 else 0

-- how many events of a run take a process from the ready queue of this priority: its dispatches
unfoldable pub dispatches : ℕ → State → List Event → ℕ
dispatches priority s [] = 0
dispatches priority s (e ∷ es) = one_from priority (source_of s e) + dispatches priority (event_of s e).state es

-- process `p` performs an event of a run
abbrev pub Performs : ℕ → State → List Event → Type 0
Performs p s [] = ⊥
Performs p s (e ∷ es) = (performer s e ≡ Some p) ⊎ Performs p (event_of s e).state es

-- until process `p` performs an event, it runs after each one: nobody stops it, and nobody destroys it
abbrev pub RunsOn : ℕ → State → List Event → Type 0
RunsOn p s [] = Unit {0}
RunsOn p s (e ∷ es) = (performer s e ≡ Some p) ⊎ (((process (event_of s e).state p).state ≡ Running) × RunsOn p (event_of s e).state es)
