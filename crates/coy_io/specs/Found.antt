-- What a search for the end of a line found in a window.
use Rattle.std.specs.Prelude.{◌≡◌, ℕ, ◌+◌, ◌<◌, ◌≤◌, List, length, Option, Some, None, Result, Ok, Err}
use Rattle.std.specs.Io.KnownBytes.{IsAtEnd}
use Rattle.coy_io.specs.Limits.{line_limit}
use Rattle.coy_io.specs.declared.lines.LineFault.{LineFault}
use Rattle.coy_io.specs.declared.lines.LineFault.TheVariants.{ReadFault, LineTooLong, TooLong}
use Rattle.coy_io.specs.Lines.{line_len, IsFront}

-- a line stands at the front of the window, and `room` bytes may be read
pub record HasLine (n : ℕ) (window : List ℕ) (room : ℕ) : Type 0 where
  pub place : n ≡ line_len window
  pub short : n ≤ line_limit
  pub whole : n < length window
  pub within : length window ≤ room

-- the window holds the front of a line
pub record HasFront (window : List ℕ) (room : ℕ) : Type 0 where
  pub front : IsFront window
  pub within : length window ≤ room

-- the line at the front of the window is too long
pub record HasLongLine (window : List ℕ) (room : ℕ) : Type 0 where
  pub long : line_limit < line_len window
  pub within : length window ≤ room

-- the window holds one byte more than may be read, and no line ends in the others
pub record IsPastLimit (window : List ℕ) (room : ℕ) : Type 0 where
  pub more : length window ≡ room + 1
  pub unfinished : room ≤ line_len window
  pub short : room ≤ line_limit

-- what the search found: where a line ends, or the end of the input, or a fault
abbrev pub IsFound : Result (Option ℕ) LineFault → List ℕ → ℕ → Option (List ℕ) → Type 0
IsFound (Ok (Some n)) window room held = HasLine n window room
IsFound (Ok None) window room held = HasFront window room × IsAtEnd held
IsFound (Err ReadFault) window room held = HasFront window room
IsFound (Err LineTooLong) window room held = HasLongLine window room
IsFound (Err TooLong) window room held = IsPastLimit window room

-- how many calls of a search may move nothing: the one that told the end or failed
abbrev pub idle_in : Result (Option ℕ) LineFault → ℕ
idle_in (Ok (Some n)) = 0
idle_in (Ok None) = 1
idle_in (Err ReadFault) = 1
idle_in (Err LineTooLong) = 0
idle_in (Err TooLong) = 0
