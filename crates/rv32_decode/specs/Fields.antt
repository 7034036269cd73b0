-- The fields of an instruction's word and the immediates that they make: RISC-V Unprivileged ISA, "Base
-- Instruction Formats" and "Immediate Encoding Variants". A word is a number below 2^32.
use Rattle.std.specs.Prelude.{ℕ, ◌+◌, ◌-◌, ◌*◌, ◌/◌, ◌%◌, ◌^◌, ℤ, pos, ◌-ℤ◌, if◌then◌else◌, nat_lt}

-- the bits of a word from `high` down to `low`, as a number
abbrev pub bits : ℕ → ℕ → ℕ → ℕ
bits word high low = word / 2 ^ low % 2 ^ (high + 1 - low)

-- the number that bits say in two's complement, the highest of them with the weight `sign`
abbrev pub signed : ℕ → ℕ → ℤ
signed sign n = if nat_lt n sign then pos n else pos n -ℤ pos (2 * sign)

-- the immediate of format I: imm[11:0] in bits 31 to 20
abbrev pub i_immediate : ℕ → ℤ
i_immediate word = signed (2 ^ 11) (bits word 31 20)

-- the immediate of format S: imm[11:5] in bits 31 to 25, imm[4:0] in bits 11 to 7
abbrev pub s_immediate : ℕ → ℤ
s_immediate word = signed (2 ^ 11) (bits word 31 25 * 2 ^ 5 + bits word 11 7)

-- the immediate of format B: imm[12] in bit 31, imm[11] in bit 7, imm[10:5] in bits 30 to 25,
-- imm[4:1] in bits 11 to 8, and 0 for imm[0]
abbrev pub b_immediate : ℕ → ℤ
b_immediate word =
    signed (2 ^ 12) (bits word 31 31 * 2 ^ 12 + bits word 7 7 * 2 ^ 11 + bits word 30 25 * 2 ^ 5 + bits word 11 8 * 2)

-- the immediate of format J: imm[20] in bit 31, imm[19:12] in bits 19 to 12, imm[11] in bit 20,
-- imm[10:1] in bits 30 to 21, and 0 for imm[0]
abbrev pub j_immediate : ℕ → ℤ
j_immediate word =
    signed (2 ^ 20) (bits word 31 31 * 2 ^ 20 + bits word 19 12 * 2 ^ 12 + bits word 20 20 * 2 ^ 11 + bits word 30 21 * 2)
