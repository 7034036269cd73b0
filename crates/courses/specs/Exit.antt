-- The programs' exits: their numbers, and those of a call that came to its end.
use Rattle.std.specs.Prelude.{ℕ, Bool, true, false}
use Rattle.courses.specs.declared.exit.Exit.{Exit}
use Rattle.courses.specs.declared.exit.Exit.TheVariants.{Done, Usage, ListingRefused, ScheduleRefused, ReadFault, WriteFault, OutOfMemory, TooLong, ImageRefused, CutRefused, PolicyRefused, Crossings, QuestionRefused, Violated, Open}

-- the status with which the program ends
abbrev pub status_of : Exit → ℕ
status_of Done = 0
status_of Usage = 1
status_of (ListingRefused line fault) = 2
status_of (ScheduleRefused line fault) = 3
status_of ReadFault = 4
status_of WriteFault = 5
status_of OutOfMemory = 6
status_of TooLong = 7
status_of (ImageRefused offset fault) = 8
status_of (CutRefused line fault) = 9
status_of (PolicyRefused line fault) = 9
status_of Crossings = 10
status_of (QuestionRefused line fault) = 9
status_of Violated = 10
status_of Open = 11

-- whether all was done that was asked for, whatever is told of it: then the input was read to its end
abbrev pub is_finished : Exit → Bool
is_finished Done = true
is_finished Crossings = true
is_finished Violated = true
is_finished Open = true
is_finished _ = false
