-- Runs: the events of a list, one after the other.
use Rattle.std.specs.Prelude.{List, [], ◌∷◌, ◌++◌}
use Rattle.machine_state.specs.declared.event.Event.{Event}
use Rattle.machine_state.specs.declared.record.Record.{Record}
use Rattle.machine_state.specs.State.{State}
use Rattle.machine_state.specs.Outcome.{Outcome, Touch, done}
use Rattle.messages.specs.Followed.{followed}
use Rattle.kernel_core.specs.Event.{event_of}

-- the state after the events
unfoldable pub run_state : State → List Event → State
run_state s [] = s
run_state s (e ∷ es) = run_state (event_of s e).state es

-- all records, in their order
unfoldable pub run_records : State → List Event → List Record
run_records s [] = []
run_records s (e ∷ es) = (event_of s e).records ++ run_records (event_of s e).state es

-- all touches, in their order
unfoldable pub run_touches : State → List Event → List Touch
run_touches s [] = []
run_touches s (e ∷ es) = (event_of s e).touches ++ run_touches (event_of s e).state es

-- what comes of a run: each event behind the one before
unfoldable pub run_of : State → List Event → Outcome
run_of s [] = done s
run_of s (e ∷ es) = followed (event_of s e) (run_of (event_of s e).state es)
