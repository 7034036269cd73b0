-- Keys: the numbers that are kept of a state.
use Rattle.std.specs.Prelude.{ℕ, ◌==◌, Bool, ◌&&◌, List}
use Rattle.std.specs.Hash as fed
use Rattle.object_parts.specs.Part.{folded}
use Rattle.object_parts.specs.Same.{same_numbers}

-- the number of each object's part, in a fixed order of the objects, and that of who stands where
pub record KeyValue : Type 0 where
  pub parts : List ℕ
  pub standing : ℕ

-- equality, as it is computed
abbrev pub same_key : KeyValue → KeyValue → Bool
same_key a b = same_numbers a.parts b.parts && (a.standing == b.standing)

-- what is hashed of a key: all of it
abbrev pub hashed_key : KeyValue → fed.HashWrites
hashed_key key = fed.u64 (folded key.standing key.parts)
