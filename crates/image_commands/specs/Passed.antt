-- Lines where no event may stand: all of them are skipped, or this is the first that is refused (this project's own).
use Rattle.std.specs.Prelude.{◌≡◌, ℕ, ◌+◌, List, [], ◌∷◌, Option, Result, Ok, Err}
use Rattle.coy_io.specs.Lines.{Part, Line, LongLine, PastLimit}
use Rattle.coy_io.specs.Reader.{Reader}
use Rattle.listing_read.specs.Schedule.{eventless_line}
use Rattle.listing_read.specs.declared.fault.ScheduleFault.{ScheduleFault}
use Rattle.listing_read.specs.declared.fault.ScheduleFault.TheVariants.{LineTooLong}
use Rattle.schedule_replay.specs.Scheduled.{Ending, AtEnd, AtFault, AtLimit}
use Rattle.judged_lines.specs.declared.stop.Stop.{Stop}
use Rattle.courses.specs.Stopped.{MakesRest}

-- where lines end of which line `n` is the first, by what is wrong with it and where those behind it end
abbrev pub passed_with : ℕ → Result (Unit {0}) ScheduleFault → Ending → Ending
passed_with n (Ok done) behind = behind
passed_with n (Err fault) behind = AtFault n fault

-- where the lines behind line `n` end: behind the last of them, at the first that is not skipped, or where the input goes on
-- behind the last byte that is read
unfoldable pub passed : ℕ → List Part → Ending
passed n [] = AtEnd
passed n (LongLine ∷ parts) = AtFault (n + 1) LineTooLong
passed n (PastLimit ∷ parts) = AtLimit
passed n (Line line ∷ parts) = passed_with (n + 1) (eventless_line line) (passed (n + 1) parts)

-- how a line is judged by itself: it is skipped, or this is its fault
abbrev pub JudgesEventless : Unit {0} → List ℕ → Result (Unit {0}) ScheduleFault → Unit {0} → Type 0
JudgesEventless before line answer behind = answer ≡ eventless_line line

-- ---- lines as they are read

-- what reading all lines came to, up to where they end
abbrev pub PassesRest : Reader → Reader → Option (List ℕ) → Option (List ℕ) → Stop ScheduleFault → Type 0
PassesRest old new held held' stop = MakesRest (passed old.number) AtEnd AtFault AtLimit old new held held' stop
