-- How this project's source and sink in memory answer their calls.
use Rattle.std.specs.Prelude.{◌≡◌, ◌<◌, ℕ, ◌+◌, List, length, min, Bool, true, false}
use Rattle.coy_io.specs.Causes.{counted}
use Rattle.coy_io.specs.Lines.{line_len}

-- how many bytes one call may give of those that are left: as many as a piece has, and with `by_line`
-- none past the next line feed
abbrev pub limit_of : ℕ → Bool → List ℕ → ℕ
limit_of piece true rest = min piece (line_len rest + 1)
limit_of piece false rest = piece

-- how many of the bytes that are left one call gives, where the buffer has so much room
abbrev pub count_of : ℕ → ℕ → List ℕ → ℕ
count_of room limit rest = min room (min limit (length rest))

-- a growth to so many bytes found no memory, and was counted: only behind the room that was reserved
pub record Starves (room grown before now : ℕ) : Type 0 where
  pub behind : room < grown
  pub counted_one : now ≡ counted before
