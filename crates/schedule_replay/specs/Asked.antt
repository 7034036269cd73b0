-- What the lines behind a listing ask for, line by line, and how they end (this project's own).
use Rattle.std.specs.Prelude.{◌≡◌, ℕ, ◌+◌, List, [], ◌∷◌, ◌++◌, Option, Some, None, Result, Ok, Err}
use Rattle.coy_io.specs.Lines.{Part, Line, LongLine, PastLimit}
use Rattle.coy_io.specs.Reader.{Reader, ahead}
use Rattle.listing_read.specs.Reads.{IsStopped}
use Rattle.listing_read.specs.Schedule.{schedule_line}
use Rattle.listing_read.specs.declared.fault.ScheduleFault.{ScheduleFault}
use Rattle.listing_read.specs.declared.fault.ScheduleFault.TheVariants.{LineTooLong}
use Rattle.listing_read.specs.declared.schedule.Timed.{Timed}
use Rattle.schedule_replay.specs.Lines.{ReadsOn}
use Rattle.schedule_replay.specs.Scheduled.{Ending, AtEnd, AtFault, AtLimit, OnParts}
use Rattle.judged_lines.specs.declared.stop.Stop.{Stop}
use Rattle.judged_lines.specs.declared.stop.Stop.TheVariants as stops

-- what is asked for up to the place where lines end; a line that is skipped asks for nothing
pub record Asked : Type 0 where
  pub lines : List Timed
  pub ending : Ending

-- nothing more is asked for
abbrev pub asks_none : Ending → Asked
asks_none ending = record { lines = []; ending = ending }

-- this is asked for first
abbrev pub asks_first : List Timed → Asked → Asked
asks_first lines all = record all { lines = lines ++ all.lines }

-- what one line asks for
abbrev pub of_line : Option Timed → List Timed
of_line None = []
of_line (Some timed) = timed ∷ []

-- what line `n` asks for, with what the lines behind it ask for
abbrev pub asks_with : ℕ → Result (Option Timed) ScheduleFault → Asked → Asked
asks_with n (Ok timed) behind = asks_first (of_line timed) behind
asks_with n (Err fault) behind = asks_none (AtFault n fault)

-- what the lines behind line `n` ask for, of a machine with so many harts
unfoldable pub asked : ℕ → ℕ → List Part → Asked
asked harts n [] = asks_none AtEnd
asked harts n (LongLine ∷ parts) = asks_none (AtFault (n + 1) LineTooLong)
asked harts n (PastLimit ∷ parts) = asks_none AtLimit
asked harts n (Line line ∷ parts) = asks_with (n + 1) (schedule_line harts line) (asked harts (n + 1) parts)

-- the lines to come ask for nothing, and end so
abbrev pub AskNone : ℕ → Reader → Option (List ℕ) → Ending → Type 0
AskNone harts old held ending = OnParts (ahead old held) (λ parts. asked harts old.number parts ≡ asks_none ending)

-- what reading one line more came to, by what is asked for
abbrev pub AsksNext : ℕ → Reader → Reader → Option (List ℕ) → Option (List ℕ) → Result (Option Timed) (Stop ScheduleFault) → Type 0
AsksNext harts old new held held' (Ok timed) =
    ReadsOn (asked harts old.number) (λ rest. asks_first (of_line timed) (asked harts new.number rest)) old new held held'
AsksNext harts old new held held' (Err stops.End) = AskNone harts old held AtEnd
AsksNext harts old new held held' (Err (stops.Refused line fault)) = AskNone harts old held (AtFault line fault)
AsksNext harts old new held held' (Err stops.TooLong) = AskNone harts old held AtLimit
AsksNext harts old new held held' (Err stops.ReadFault) = IsStopped old new held held'
