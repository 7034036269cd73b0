-- How many records a list takes, and for how many the parts of an event ask room. What makes one at most asks for 1.
use Rattle.std.specs.Prelude.{ℕ, ◌+◌, ◌≤◌, List, length}
use Rattle.machine_state.specs.declared.record.Record.{Record}

-- a list takes so many records
abbrev pub most_records : ℕ
most_records = 64

-- these records leave room for so many more
abbrev pub HasRoom : ℕ → List Record → Type 0
HasRoom places told = length told + places ≤ most_records

-- the accesses of a string: the longest has so many spans
abbrev pub string_room : ℕ
string_room = 17

-- a string and what comes of it, a message, a log or a fault
abbrev pub told_room : ℕ
told_room = string_room + 1

-- what an instruction does: a round number, above what any system call makes
abbrev pub call_room : ℕ
call_room = 40

-- an instruction that was fetched: it is recorded, and then does something
abbrev pub insn_room : ℕ
insn_room = call_room + 1

-- an event: the access that fetches its instruction is recorded before
abbrev pub event_room : ℕ
event_room = insn_room + 1
