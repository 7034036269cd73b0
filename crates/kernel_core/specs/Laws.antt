-- The laws of events, as statements.
use Rattle.std.specs.Prelude.{◌≤◌, length}
use Rattle.machine_state.specs.declared.event.Event.{Event}
use Rattle.machine_state.specs.State.{State}
use Rattle.kernel_core.specs.Event.{event_of}

-- an event makes at most 37 records
abbrev pub FewRecords : Type 0
FewRecords = (s : State) (e : Event) → length (event_of s e).records ≤ 37
