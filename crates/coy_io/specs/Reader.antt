-- What a reader of lines holds, and what `next` does to it. The limits are this project's own.
use Rattle.std.specs.Prelude.{◌≡◌, ℕ, ◌+◌, ◌-◌, ◌≤◌, ◌==◌, List, [], ◌∷◌, ◌++◌, length, take, drop, Bool, true, false, ⊤, Option, Some, None, Result, Ok, Err, if◌then◌else◌}
use Rattle.std.specs.Option.{option_map}
use Rattle.std.specs.Io.KnownBytes.{Keeps, Consumes, IsAtEnd, prepend_known}
use Rattle.coy_io.specs.Limits.{line_limit, input_limit, window_limit}
use Rattle.coy_io.specs.declared.lines.LineFault.{LineFault}
use Rattle.coy_io.specs.declared.lines.LineFault.TheVariants.{ReadFault, LineTooLong, TooLong}
use Rattle.coy_io.specs.Lines.{Part, Line, LongLine, PastLimit, line_feed, IsUnfinished, parts, whole_lines}

-- a reader of lines
pub record Reader : Type 0 where
  -- the line last given, without its line feed
  pub line : List ℕ
  -- the bytes taken from the source and not given yet
  pub rest : List ℕ
  -- how many more bytes may be given
  pub room : ℕ
  -- how many lines were given
  pub number : ℕ
  -- the source told its end
  pub ended : Bool
  -- the last call answered a fault
  pub failed : Bool

-- what is so of every reader: it gives no more lines than bytes, holds at most one byte more than it
-- may give, and that only after a fault, and none behind the end
pub record IsReader (reader : Reader) : Type 0 where
  pub counted : reader.number + reader.room ≤ input_limit
  pub within : length reader.rest ≤ reader.room + 1
  pub unfailed : reader.failed ≡ false → length reader.rest ≤ reader.room
  pub done : reader.ended ≡ true → reader.rest ≡ []

-- a reader that has taken nothing
abbrev pub new_reader : Reader
new_reader = record { line = []; rest = []; room = input_limit; number = 0; ended = false; failed = false }

-- a reader that gives the first of the bytes it holds as a line
abbrev pub giving : ℕ → ℕ → Reader → Reader
giving len spent reader = record reader {
  line = take len reader.rest;
  rest = drop spent reader.rest;
  room = reader.room - spent;
  number = reader.number + 1;
}

-- a reader at the end of its source: what it holds is the last line, unless it holds nothing
abbrev pub finished : Reader → Reader
finished reader = record (if length reader.rest == 0 then reader else giving (length reader.rest) (length reader.rest) reader) { ended = true }

-- how many bytes the reader has taken from its sources
abbrev pub taken_by : Reader → ℕ
taken_by reader = (input_limit - reader.room) + length reader.rest

-- how many calls told the reader its source's end
abbrev pub ends_by : Reader → ℕ
ends_by reader = if reader.ended then 1 else 0

-- the bytes to come, where they are known: those the reader holds, then those the source has left, of
-- which there are none once it told its end
abbrev pub bytes_ahead : Reader → Option (List ℕ) → Option (List ℕ)
bytes_ahead reader held = prepend_known reader.rest (if reader.ended then Some [] else held)

-- the lines to come, where they are known
abbrev pub ahead : Reader → Option (List ℕ) → Option (List Part)
ahead reader held = option_map (parts [] reader.room) (bytes_ahead reader held)

-- the known parts were the parts given, and then those that are still to come
abbrev pub Advances : Option (List Part) → Option (List Part) → List Part → Type 0
Advances None new given = ⊤
Advances (Some old) None given = ⊥
Advances (Some old) (Some new) given = old ≡ given ++ new

-- the known parts begin with this one
abbrev pub Begins : Option (List Part) → Part → Type 0
Begins None part = ⊤
Begins (Some old) part = (rest : List Part) × (old ≡ part ∷ rest)

-- no known part is left
abbrev pub IsDone : Option (List Part) → Type 0
IsDone None = ⊤
IsDone (Some old) = old ≡ []

-- what was given is a line of so many bytes
pub record IsLine (n : ℕ) (line : List ℕ) : Type 0 where
  pub len : n ≡ length line
  pub short : n ≤ line_limit
  pub unfinished : IsUnfinished line

-- what each answer of `next` says of the lines that were to come and of those that still are
abbrev pub IsNext : Result (Option ℕ) LineFault → List ℕ → Option (List Part) → Option (List Part) → Type 0
IsNext (Ok (Some n)) line old new = Advances old new (Line line ∷ [])
IsNext (Ok None) line old new = IsDone old × IsDone new
IsNext (Err ReadFault) line old new = Advances old new []
IsNext (Err LineTooLong) line old new = Begins old LongLine
IsNext (Err TooLong) line old new = Begins old PastLimit

-- the line feed of the line given, which the last line may lack
abbrev pub line_feed_of : Bool → List ℕ
line_feed_of true = []
line_feed_of false = line_feed

-- the line given last, with its line feed, and the bytes that were taken and not given yet
abbrev pub last_taken : Reader → List ℕ
last_taken reader = reader.line ++ (line_feed_of reader.ended ++ reader.rest)

-- a line was given as soon as it was there: no byte that was to come is lost but the line's, and it and the bytes taken
-- behind it stood in the room that a reader has
pub record GivesNear (old new : Reader) (held held' : Option (List ℕ)) : Type 0 where
  pub kept : Keeps (prepend_known old.rest held) (prepend_known (last_taken new) held')
  pub near : length (last_taken new) ≤ window_limit

-- what each answer says of the bytes: a line goes with its line feed, and otherwise none is lost
abbrev pub IsSpent : Result (Option ℕ) LineFault → Reader → Option (List ℕ) → Option (List ℕ) → Type 0
IsSpent (Ok (Some n)) reader old new = Consumes old new (reader.line ++ line_feed_of reader.ended)
IsSpent (Ok None) reader old new = Keeps old new
IsSpent (Err fault) reader old new = Keeps old new

-- once the reader knows the end, the source has told it
abbrev pub TellsEnd : Reader → Option (List ℕ) → Type 0
TellsEnd reader held = reader.ended ≡ true → IsAtEnd held

-- what an answer that gives no line leaves: the reader as it was, but for what it holds and for the end
-- or the fault
abbrev pub IsLeft : Result (Option ℕ) LineFault → Reader → Reader → Type 0
IsLeft (Ok (Some n)) old new = ⊤
IsLeft (Ok None) old new = new ≡ record old { rest = []; ended = true }
IsLeft (Err fault) old new = new ≡ record old { rest = new.rest; failed = true }

-- how many calls failed in an answer
abbrev pub read_faults_in : Result (Option ℕ) LineFault → ℕ
read_faults_in (Ok given) = 0
read_faults_in (Err ReadFault) = 1
read_faults_in (Err LineTooLong) = 0
read_faults_in (Err TooLong) = 0

-- how many lines were given by an answer
abbrev pub lines_in : Result (Option ℕ) LineFault → ℕ
lines_in (Ok (Some n)) = 1
lines_in (Ok None) = 0
lines_in (Err fault) = 0

-- these bytes are exactly these whole lines, whatever follows
abbrev pub AreLines : List ℕ → List Part → Type 0
AreLines bytes given = (behind : List ℕ) → whole_lines [] (bytes ++ behind) ≡ given ++ whole_lines [] behind

-- between two moments these whole lines were given: the known bytes to come lost the lines' bytes and no others
pub record GivesLines (old new : Option (List ℕ)) (given : List Part) : Type 0 where
  pub bytes : List ℕ
  pub consumed : Consumes old new bytes
  pub lines : AreLines bytes given
