-- Restrictions: a number below 32, of which each bit is one.
use Rattle.std.specs.Prelude.{ℕ, Bool, ◌==◌}
use Rattle.std.specs.Int.RustNames.{bit_and}

-- read-only: nothing is written through it
abbrev pub RO : ℕ
RO = 1

-- no execution: no instruction is fetched through it
abbrev pub NX : ℕ
NX = 2

-- weak: what is loaded of capabilities through it is weakened
abbrev pub WK : ℕ
WK = 4

-- opaque: the slots and the header of its GPT are neither told nor set
abbrev pub OP : ℕ
OP = 8

-- no call: no fault of a walk through it is sent to its GPT's handler
abbrev pub NC : ℕ
NC = 16

-- whether a restriction, given by its bit, is among these
abbrev pub has : ℕ → ℕ → Bool
has restr bit = (bit_and restr bit == bit)
