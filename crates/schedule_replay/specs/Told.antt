-- What is written of the records of events.
use Rattle.std.specs.Prelude.{Bool, true, false, not, if◌then◌else◌, List, [], ◌∷◌, ◌++◌, ℕ}
use Rattle.std.specs.List.{list_all}
use Rattle.machine_state.specs.declared.event.Event.{Event}
use Rattle.machine_state.specs.declared.record.Record.{Record}
use Rattle.kernel_core.specs.State.{State}
use Rattle.kernel_core.specs.Run.{run_records}
use Rattle.run_text.specs.Record.{record_text}
use Rattle.kernel_core.specs.Noted.{is_detail}
use Rattle.schedule_replay.specs.declared.mode.Mode.{Mode}
use Rattle.schedule_replay.specs.declared.mode.Mode.TheVariants.{Silent, Records, Trace}

-- the records that are written
abbrev pub is_told : Mode → Record → Bool
is_told Silent entry = false
is_told Records entry = not (is_detail entry)
is_told Trace entry = true

-- the line of a record, where it is written
abbrev pub line_of : Mode → Record → List ℕ
line_of mode entry = if is_told mode entry then record_text entry else []

-- whether it is plain that none of these records is written: nothing is, or they are accesses and instructions alone and
-- no trace is written
abbrev pub are_untold : Mode → List Record → Bool
are_untold Silent entries = true
are_untold Records entries = list_all is_detail entries
are_untold Trace entries = false

-- the lines of records
unfoldable pub lines_of : Mode → List Record → List ℕ
lines_of mode [] = []
lines_of mode (entry ∷ entries) = line_of mode entry ++ lines_of mode entries

-- the lines of all records of events
abbrev pub lines_told : Mode → State → List Event → List ℕ
lines_told mode s events = lines_of mode (run_records s events)
