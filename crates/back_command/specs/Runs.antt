-- A run of which the last events are remembered, and the undoing of some (this project's own).
use Rattle.std.specs.Prelude.{◌≡◌, ◌*◌, ℕ, zero, suc, min, List, [], ◌∷◌, ◌++◌, length, take, Option}
use Rattle.coy_io.specs.Reader.{Reader}
use Rattle.machine_state.specs.declared.event.Event.{Event}
use Rattle.machine_state.specs.State.{State}
use Rattle.kernel_core.specs.Event.{event_of}
use Rattle.kernel_core.specs.Outcome.{Touch}
use Rattle.kernel_core.specs.Run.{run_state, run_touches}
use Rattle.reverse_run.specs.History.{History, after_undo, remembered}
use Rattle.reverse_run.specs.Reads.{FetchesWithin, a_memento}
use Rattle.schedule_replay.specs.Counts.{events_alone}
use Rattle.schedule_replay.specs.Replay.{Follows, count_answer, stop_answer}
use Rattle.listing_read.specs.declared.fault.ScheduleFault.{ScheduleFault}
use Rattle.judged_lines.specs.declared.stop.Stop.{Stop}
use Rattle.back_command.specs.Back.{back_text, most_remembered}

-- the states before each event of a run, the latest first
unfoldable pub states_before : State → List Event → List State
states_before s [] = []
states_before s (e ∷ es) = states_before (event_of s e).state es ++ s ∷ []

-- the history of a run from a state on, of which so many events are remembered
abbrev pub history_at : ℕ → State → List Event → History
history_at depth s events = record { present = run_state s events; before = take depth (states_before s events) }

-- the history after so many undos
unfoldable pub undos : ℕ → History → History
undos zero h = h
undos (suc n) h = after_undo (undos n h)

-- these events were run from the state on and the last of them are remembered, and they are what the lines ask for, as far as
-- they are known; what they fetch was fetched, and at most so many slots for each beside it
pub record RunsLines (harts : ℕ) (s : State) (count : List Touch → ℕ) (h : History) (old new : Reader) (held held' : Option (List ℕ)) (fetches fetches' : ℕ)
    (stop : Stop ScheduleFault) : Type 0 where
  pub events : List Event
  pub history : h ≡ history_at most_remembered s events
  pub fetched : FetchesWithin (count (run_touches s events)) (a_memento * length events) fetches fetches'
  pub follows : Follows count_answer harts old new held held' events (stop_answer (events_alone (length events)) stop)

-- ---- the end

-- what is written of a history where all lines were read: of its events as many are undone as asked for and remembered
abbrev pub text_of : ℕ → History → List ℕ
text_of number h = let n = min number (remembered h) in back_text n (undos n h).present
