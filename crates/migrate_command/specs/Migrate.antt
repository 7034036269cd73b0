-- Lines as `migrate` writes them, and how it ends (this project's own).
use Rattle.std.specs.Prelude.{◌≡◌, ℕ, List, ◌++◌, Option, Result, Ok, Err}
use Rattle.std.specs.List.{All}
use Rattle.std.specs.Io.KnownBytes.{Appends}
use Rattle.coy_io.specs.Pieces.{AppendsSome}
use Rattle.coy_io.specs.Reader.{Reader, ahead}
use Rattle.listing_read.specs.Schedule.{IsTimed}
use Rattle.listing_read.specs.declared.schedule.Timed.{Timed}
use Rattle.statement_text.specs.Text.{events_text}
use Rattle.schedule_replay.specs.Asked.{Asked, asked}
use Rattle.schedule_replay.specs.Lines.{FailsOn}
use Rattle.schedule_replay.specs.Scheduled.{AtEnd, AtFault, AtLimit, OnParts}
use Rattle.listing_read.specs.declared.fault.ScheduleFault.{ScheduleFault}
use Rattle.judged_lines.specs.declared.stop.Stop.{Stop}
use Rattle.judged_lines.specs.declared.stop.Stop.TheVariants as stops
use Rattle.courses.specs.declared.exit.Exit.{Exit}
use Rattle.courses.specs.declared.exit.Exit.TheVariants.{Done, ScheduleRefused, ReadFault, WriteFault, TooLong}

-- this is what was asked for up to here, and why there was no further line; or writing failed in its last line
abbrev pub Accords : {E : Type 0} → Result (Stop ScheduleFault) E → List Timed → Asked → Type 0
Accords (Ok stops.End) lines all = all ≡ record { lines = lines; ending = AtEnd }
Accords (Ok (stops.Refused line fault)) lines all = all ≡ record { lines = lines; ending = AtFault line fault }
Accords (Ok stops.TooLong) lines all = all ≡ record { lines = lines; ending = AtLimit }
Accords _ lines all = (rest : List Timed) × (all.lines ≡ lines ++ rest)

-- the lines of all that was asked for were written, or a front of them where writing failed
abbrev pub WritesLines : {E : Type 0} → Option (List ℕ) → Option (List ℕ) → Result (Stop ScheduleFault) E → List Timed → Type 0
WritesLines taken taken' (Ok stop) lines = Appends taken taken' (events_text lines)
WritesLines taken taken' (Err fault) lines = AppendsSome taken taken' (events_text lines)

-- what was asked for by the lines behind a listing, of a machine with so many harts, and that it was written
pub record PutsLines {E : Type 0} (harts : ℕ) (old new : Reader) (held held' taken taken' : Option (List ℕ)) (answer : Result (Stop ScheduleFault) E) : Type 0 where
  pub lines : List Timed
  pub timed : All (IsTimed harts) lines
  pub known : OnParts (ahead old held) (λ parts. Accords answer lines (asked harts old.number parts))
  pub written : WritesLines taken taken' answer lines
  pub fails : answer ≡ Ok stops.ReadFault → FailsOn (asked harts old.number) (record { lines = lines; ending = AtEnd }) old new held held'

-- the exit that the lines give, behind which nothing more is written than the line that tells it
abbrev pub lines_exit : {E : Type 0} → Result (Stop ScheduleFault) E → Exit
lines_exit (Ok stops.End) = Done
lines_exit (Ok (stops.Refused line fault)) = ScheduleRefused line fault
lines_exit (Ok stops.TooLong) = TooLong
lines_exit (Ok stops.ReadFault) = ReadFault
lines_exit (Err fault) = WriteFault
