-- The laws of service, as statements.
use Rattle.std.specs.Prelude.{◌≡◌, ℕ, ◌<◌, ◌≤◌, false, List, [], length, Some, None}
use Rattle.std.specs.List.{All}
use Rattle.schedules.specs.Queues.{priorities, ready_queue, first_of, hart_of}
use Rattle.machine_state.specs.declared.event.Event.{Event}
use Rattle.machine_state.specs.declared.event.Event.TheVariants.{Step}
use Rattle.machine_state.specs.Machine.{hart_in}
use Rattle.machine_state.specs.State.{State}
use Rattle.kernel_core.specs.Event.{performer}
use Rattle.ready_service.specs.Service.{IsAmongFirst, source_of, dispatches, Performs, RunsOn}

-- A process that is among the first `n` of a ready queue performs an event in every run with `n` dispatches from that queue, as
-- long as it runs.
abbrev pub ServedInOrder : Type 0
ServedInOrder = (s : State) (p priority n : ℕ) (es : List Event)
    → IsAmongFirst p n (ready_queue s.queues priority)
    → All (λ (e : Event). hart_in e < length s.queues.harts) es → RunsOn p s es
    → n ≤ dispatches priority s es → Performs p s es

-- Of a machine that is not halted, each step of a hart without a process is a dispatch from this ready queue, as long as a
-- process stands in it and none in a higher one.
abbrev pub HighestIsNext : Type 0
HighestIsNext = (s : State) (p priority n hart : ℕ)
    → s.halted ≡ false → hart_of s.queues hart ≡ None
    → priority < priorities → IsAmongFirst p n (ready_queue s.queues priority)
    → ((higher : ℕ) → priority < higher → ready_queue s.queues higher ≡ [])
    → source_of s (Step hart) ≡ Some priority

-- A dispatch is of the first in the ready queue, and who is dispatched performs the event.
abbrev pub FirstPerforms : Type 0
FirstPerforms = (s : State) (p priority hart : ℕ)
    → s.halted ≡ false → hart < length s.queues.harts → hart_of s.queues hart ≡ None
    → source_of s (Step hart) ≡ Some priority → first_of (ready_queue s.queues priority) ≡ Some p
    → performer s (Step hart) ≡ Some p
