-- A schedule: what each of its lines asks of a machine with so many harts, or the line's first fault.
use Rattle.std.specs.Prelude.{ℕ, ◌==◌, ◌&&◌, nat_lt, nat_le, ◌<◌, ◌≤◌, if◌then◌else◌, List, length, ok_or, bytes_eq, codes, Option, Some, None, Result, Ok, Err}
use Rattle.coy_text.specs.Numeral.{dec_of}
use Rattle.coy_text.specs.Words.{words_of, field}
use Rattle.coy_text.specs.Line.{is_visible_line, is_skipped}
use Rattle.coy_io.specs.Limits.{line_limit}
use Rattle.listing_read.specs.Faults.{◌>>=◌, ensured}
use Rattle.listing_read.specs.declared.fault.ScheduleFault.{ScheduleFault}
use Rattle.listing_read.specs.declared.fault.ScheduleFault.TheVariants.{LineTooLong, BadByte, UnknownEvent, WrongWords, BadNumber, NoHart, BadRepeat, EventInPack}
use Rattle.listing_read.specs.declared.schedule.Timed.{Timed}
use Rattle.listing_read.specs.declared.schedule.Timed.TheVariants.{Step, Tick, Round}

-- its hart is one of the machine's, and it asks for 1 to 1,000,000 times
abbrev pub IsTimed : ℕ → Timed → Type 0
IsTimed harts (Step hart times) = (hart < harts) × (1 ≤ times) × (times ≤ 1000000)
IsTimed harts (Tick hart) = hart < harts
IsTimed harts (Round times) = (1 ≤ times) × (times ≤ 1000000)

-- a decimal number
abbrev pub schedule_number : List ℕ → Result ℕ ScheduleFault
schedule_number word = ok_or (dec_of word) BadNumber

-- the number of a hart
unfoldable pub hart_of : ℕ → List ℕ → Result ℕ ScheduleFault
hart_of harts word = do
  hart ← schedule_number word
  _ ← ensured (nat_lt hart harts) NoHart
  Ok hart

-- a number of times
unfoldable pub times_of : List ℕ → Result ℕ ScheduleFault
times_of word = do
  times ← schedule_number word
  _ ← ensured (nat_le 1 times && nat_le times 1000000) BadRepeat
  Ok times

-- `step H N`
unfoldable pub step_line : ℕ → List (List ℕ) → Result Timed ScheduleFault
step_line harts words = do
  _ ← ensured (length words == 3) WrongWords
  hart ← hart_of harts (field words 1)
  times ← times_of (field words 2)
  Ok (Step hart times)

-- `tick H`
unfoldable pub tick_line : ℕ → List (List ℕ) → Result Timed ScheduleFault
tick_line harts words = do
  _ ← ensured (length words == 2) WrongWords
  hart ← hart_of harts (field words 1)
  Ok (Tick hart)

-- `round N`
unfoldable pub round_line : List (List ℕ) → Result Timed ScheduleFault
round_line words = do
  _ ← ensured (length words == 2) WrongWords
  times ← times_of (field words 1)
  Ok (Round times)

-- a line by its first word
unfoldable pub timed_of : ℕ → List (List ℕ) → Result Timed ScheduleFault
timed_of harts words =
    if bytes_eq (field words 0) (codes "step") then step_line harts words
    else (if bytes_eq (field words 0) (codes "tick") then tick_line harts words
    else (if bytes_eq (field words 0) (codes "round") then round_line words
    else Err UnknownEvent))

-- a line that is not skipped
unfoldable pub asked_by : ℕ → List (List ℕ) → Result (Option Timed) ScheduleFault
asked_by harts words = do
  timed ← timed_of harts words
  Ok (Some timed)

-- a line by its words
abbrev pub schedule_words : ℕ → List (List ℕ) → Result (Option Timed) ScheduleFault
schedule_words harts words = if is_skipped words then Ok None else asked_by harts words

-- what a line asks for, which is nothing where it is skipped
unfoldable pub schedule_line : ℕ → List ℕ → Result (Option Timed) ScheduleFault
schedule_line harts line = do
  _ ← ensured (nat_le (length line) line_limit) LineTooLong
  _ ← ensured (is_visible_line line) BadByte
  schedule_words harts (words_of line)

-- a line where no event may stand: one that is skipped, or its fault
unfoldable pub eventless_line : List ℕ → Result (Unit {0}) ScheduleFault
eventless_line line = do
  _ ← ensured (nat_le (length line) line_limit) LineTooLong
  _ ← ensured (is_visible_line line) BadByte
  ensured (is_skipped (words_of line)) EventInPack
