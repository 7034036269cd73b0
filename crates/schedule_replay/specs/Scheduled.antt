-- What the lines behind a listing ask for: their events, and how they end (this project's own).
use Rattle.std.specs.Prelude.{◌≡◌, ◌+◌, ℕ, List, [], ◌∷◌, ◌++◌, Option, Some, None, Result, Ok, Err, IfOk, IfSome, ⊤}
use Rattle.coy_io.specs.Lines.{Part, Line, LongLine, PastLimit}
use Rattle.coy_io.specs.Reader.{Reader, ahead}
use Rattle.machine_state.specs.declared.event.Event.{Event}
use Rattle.listing_read.specs.Schedule.{IsTimed, schedule_line}
use Rattle.listing_read.specs.Reads.{IsStopped}
use Rattle.listing_read.specs.declared.fault.ScheduleFault.{ScheduleFault}
use Rattle.listing_read.specs.declared.fault.ScheduleFault.TheVariants.{LineTooLong}
use Rattle.listing_read.specs.declared.schedule.Timed.{Timed}
use Rattle.schedule_replay.specs.Events.{line_events}
use Rattle.schedule_replay.specs.Lines.{ReadsOn}
use Rattle.judged_lines.specs.declared.stop.Stop.{Stop}
use Rattle.judged_lines.specs.declared.stop.Stop.TheVariants as stops

-- how lines end: behind the last of them, at one that is refused, or where the input goes on behind the last byte that is
-- read
pub data Ending : Type 0 where
  AtEnd : Ending
  AtFault : (line : ℕ) (fault : ScheduleFault) → Ending
  AtLimit : Ending

-- the events up to the place where lines end
pub record Scheduled : Type 0 where
  pub events : List Event
  pub ending : Ending

-- no event more
abbrev pub ends : Ending → Scheduled
ends ending = record { events = []; ending = ending }

-- these events come first
abbrev pub preceded : List Event → Scheduled → Scheduled
preceded events all = record all { events = events ++ all.events }

-- the events that a line asks for, which are none where it is skipped
abbrev pub asked_events : ℕ → Option Timed → List Event
asked_events harts None = []
asked_events harts (Some timed) = line_events harts timed

-- what a line asks for, line `n`, with what the lines behind it ask for
abbrev pub asked_with : ℕ → ℕ → Result (Option Timed) ScheduleFault → Scheduled → Scheduled
asked_with harts n (Ok asked) behind = preceded (asked_events harts asked) behind
asked_with harts n (Err fault) behind = ends (AtFault n fault)

-- what the lines behind line `n` ask for, on a machine with so many harts
unfoldable pub scheduled : ℕ → ℕ → List Part → Scheduled
scheduled harts n [] = ends AtEnd
scheduled harts n (LongLine ∷ parts) = ends (AtFault (n + 1) LineTooLong)
scheduled harts n (PastLimit ∷ parts) = ends AtLimit
scheduled harts n (Line line ∷ parts) = asked_with harts (n + 1) (schedule_line harts line) (scheduled harts (n + 1) parts)

-- how a line is judged by itself, on a machine with so many harts: what it asks for, or its fault
abbrev pub JudgesTimed : ℕ → Unit {0} → List ℕ → Result (Option Timed) ScheduleFault → Unit {0} → Type 0
JudgesTimed harts before line answer behind = (answer ≡ schedule_line harts line) × IfOk answer (λ asked. IfSome asked (IsTimed harts))

-- ---- lines as they are read

-- this holds of the lines, where they are known
abbrev pub OnParts : Option (List Part) → (List Part → Type 0) → Type 0
OnParts None P = ⊤
OnParts (Some parts) P = P parts

-- whole lines were read, which ask for these events
abbrev pub Reads : ℕ → Reader → Reader → Option (List ℕ) → Option (List ℕ) → List Event → Type 0
Reads harts old new held held' events =
    ReadsOn (scheduled harts old.number) (λ rest. preceded events (scheduled harts new.number rest)) old new held held'

-- the lines to come end here, with no event more
abbrev pub EndHere : ℕ → Reader → Option (List ℕ) → Ending → Type 0
EndHere harts old held ending = OnParts (ahead old held) (λ parts. scheduled harts old.number parts ≡ ends ending)

-- what reading one line more came to
abbrev pub IsNextLine : ℕ → Reader → Reader → Option (List ℕ) → Option (List ℕ) → Result (Option Timed) (Stop ScheduleFault) → Type 0
IsNextLine harts old new held held' (Ok asked) = Reads harts old new held held' (asked_events harts asked)
IsNextLine harts old new held held' (Err stops.End) = EndHere harts old held AtEnd
IsNextLine harts old new held held' (Err (stops.Refused line fault)) = EndHere harts old held (AtFault line fault)
IsNextLine harts old new held held' (Err stops.TooLong) = EndHere harts old held AtLimit
IsNextLine harts old new held held' (Err stops.ReadFault) = IsStopped old new held held'
