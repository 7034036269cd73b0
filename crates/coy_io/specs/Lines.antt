-- The lines of a byte string, by this project's own limits. It is seen as a list of what stands in each
-- line's place, so that nobody above speaks of places in a buffer.
use Rattle.std.specs.Prelude.{◌≡◌, ◌≤◌, ℕ, ◌-◌, ◌==◌, nat_le, List, [], ◌∷◌, ◌++◌, length, Bool, if◌then◌else◌}
use Rattle.std.specs.List.{position_or_len}
use Rattle.coy_io.specs.Limits.{line_limit, input_limit}

-- what stands in a line's place: the line without its line feed, or that it has more bytes than a line
-- may have, or that the input goes on behind the last byte that is read
pub data Part : Type 0 where
  Line : (bytes : List ℕ) → Part
  LongLine : Part
  PastLimit : Part

-- the byte that ends a line
abbrev pub is_line_feed : ℕ → Bool
is_line_feed byte = byte == 10

-- that byte as a text, which ends a line that is written
abbrev pub line_feed : List ℕ
line_feed = 10 ∷ []

-- how many bytes stand before the first line feed, or how many there are where there is none
abbrev pub line_len : List ℕ → ℕ
line_len bytes = position_or_len is_line_feed bytes

-- no byte is a line feed
abbrev pub IsUnfinished : List ℕ → Type 0
IsUnfinished bytes = line_len bytes ≡ length bytes

-- the front of a line: no byte is a line feed, and there are no more than a line may have
pub record IsFront (bytes : List ℕ) : Type 0 where
  pub unfinished : IsUnfinished bytes
  pub short : length bytes ≤ line_limit

-- what stands in the place of a line that ended
abbrev pub part_of : List ℕ → Part
part_of line = if nat_le (length line) line_limit then Line line else LongLine

-- what stands in the place of a line where the input goes on behind the last byte that is read
abbrev pub cut_part_of : List ℕ → Part
cut_part_of line = if nat_le (length line) line_limit then PastLimit else LongLine

-- what the next byte ends
abbrev pub ended_by : ℕ → List ℕ → List Part
ended_by byte line = if is_line_feed byte then part_of line ∷ [] else []

-- what is unfinished behind the next byte
abbrev pub kept_by : ℕ → List ℕ → List ℕ
kept_by byte line = if is_line_feed byte then [] else line ++ byte ∷ []

-- the parts to come, where `line` has come since the last line feed and `room` more bytes are read
unfoldable pub parts : List ℕ → ℕ → List ℕ → List Part
parts line room [] = if length line == 0 then [] else part_of line ∷ []
parts line room (byte ∷ bytes) =
    if room == 0 then cut_part_of line ∷ [] else ended_by byte line ++ parts (kept_by byte line) (room - 1) bytes

-- the whole lines of a byte string, where `line` has come since the last line feed: those whose line feed is in it
unfoldable pub whole_lines : List ℕ → List ℕ → List Part
whole_lines line [] = []
whole_lines line (byte ∷ bytes) = ended_by byte line ++ whole_lines (kept_by byte line) bytes

-- the lines of a byte string
abbrev pub parts_of : List ℕ → List Part
parts_of bytes = parts [] input_limit bytes
