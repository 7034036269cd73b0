-- What is hashed of objects where they stand.
use Rattle.std.specs.Prelude.{ℕ, List, [], ◌∷◌}
use Rattle.std.specs.Hash as fed
use Rattle.object_parts.specs.Part.{folded, folded_bytes}

-- of a pc with the registers of its process
abbrev pub hashed_front : List ℕ → fed.HashWrites
hashed_front [] = []
hashed_front (pc ∷ regs) = fed.u64 (folded pc regs)

-- of a count with the bytes of its page
abbrev pub hashed_bytes : List ℕ → fed.HashWrites
hashed_bytes [] = []
hashed_bytes (count ∷ bytes) = fed.u64 (folded_bytes count bytes 512)
