-- The laws of runs: what they hold stays in its ranges, and each access of data is one in its ranges (this project's own).
use Rattle.std.specs.Prelude.{List}
use Rattle.machine_state.specs.declared.event.Event.{Event}
use Rattle.machine_state.specs.State.{State}
use Rattle.kernel_core.specs.Run.{run_state, run_touches}
use Rattle.shared_economy.specs.Accesses.{AreAccesses}
use Rattle.run_ranges.specs.Ranges.{AreInRanges}

-- a run keeps what the objects hold in its ranges
abbrev pub RunsKeepRanges : Type 0
RunsKeepRanges = (s : State) (events : List Event) → AreInRanges s.store → AreInRanges (run_state s events).store

-- each access of data of such a run is over items in their ranges, through a capability in its ranges that has no count
abbrev pub RunsAreAccesses : Type 0
RunsAreAccesses = (s : State) (events : List Event) → AreInRanges s.store → AreAccesses (run_touches s events)
