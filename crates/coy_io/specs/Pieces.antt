-- What calls that move bytes piece by piece do, in the words of std's readers and writers.
use Rattle.std.specs.Prelude.{ℕ, ◌+◌, ◌<◌, ◌≤◌, List, length, take, Option, Result, Ok, Err}
use Rattle.std.specs.Io.KnownBytes.{Appends}

-- how many bytes a call moved: none where it failed
abbrev pub moved : {E : Type 0} → Result ℕ E → ℕ
moved (Ok n) = n
moved (Err e) = 0

-- what a source counted in one call that moved so many bytes: these, the call, and that it moved nothing if so
pub record CountsOne (given given' calls calls' idle idle' bytes : ℕ) : Type 0 where
  pub bytes_given : given' ≤ given + bytes
  pub one : calls' ≤ calls + 1
  pub vain : idle' ≤ idle + 1
  pub moving : 1 ≤ bytes → idle' ≤ idle

-- the same of a source, by what it counts
abbrev pub CountsCall : {S : Type 0} → (S → ℕ) → (S → ℕ) → (S → ℕ) → S → S → ℕ → Type 0
CountsCall given calls idle old new bytes =
    CountsOne (given old) (given new) (calls old) (calls new) (idle old) (idle new) bytes

-- what a source counted while a caller's bytes went from `held` to `held'`, and its calls that told the end or failed
-- from `ends` to `ends'`: no more bytes than these, and no more calls than bytes, but for those that moved nothing
pub record Counts (given given' calls calls' idle idle' held held' ends ends' : ℕ) : Type 0 where
  pub bytes : given' + held ≤ given + held'
  pub made : calls' + held + ends ≤ calls + held' + ends'
  pub vain : idle' + ends ≤ idle + ends'

-- the same of a source, by what it counts
abbrev pub CountsIn : {S : Type 0} → (S → ℕ) → (S → ℕ) → (S → ℕ) → S → S → ℕ → ℕ → ℕ → ℕ → Type 0
CountsIn given calls idle old new held held' ends ends' =
    Counts (given old) (given new) (calls old) (calls new) (idle old) (idle new) held held' ends ends'

-- the known bytes grow by a front of the piece that is not the whole piece
abbrev pub AppendsSome : Option (List ℕ) → Option (List ℕ) → List ℕ → Type 0
AppendsSome old new piece = (n : ℕ) × (n < length piece) × Appends old new (take n piece)
