-- Words of 32 bits, the values of RV32I's registers: arithmetic is modulo 2^32, and two's complement
-- reads the same bits as a signed number (RISC-V Unprivileged ISA, base RV32I).
use Rattle.std.specs.Prelude.{ℕ, ◌+◌, ◌-◌, ◌*◌, ◌/◌, ◌%◌, ◌^◌, Bool, ℤ, pos, ◌+ℤ◌, ◌-ℤ◌, nat_lt, ◌==◌, unsigned_abs, if◌then◌else◌}
use Rattle.std.specs.Int.{int_rem_euclid, int_div_euclid}

-- the word that is left of a number modulo 2^32
abbrev pub word_of : ℤ → ℕ
word_of number = unsigned_abs (int_rem_euclid number (pos (2 ^ 32)))

-- the number that so many bits spell in two's complement: their highest counts as negative
abbrev pub signed : ℕ → ℕ → ℤ
signed bits value =
    if nat_lt value (2 ^ (bits - 1)) then pos value else (pos value -ℤ pos (2 ^ bits))

-- a word read as a signed number
abbrev pub signed_word : ℕ → ℤ
signed_word word = signed 32 word

-- a word plus a signed number
abbrev pub plus : ℕ → ℤ → ℕ
plus word number = word_of (pos word +ℤ number)

-- a word plus another
abbrev pub sum_of : ℕ → ℕ → ℕ
sum_of a b = (a + b) % 2 ^ 32

-- a word less another
abbrev pub difference_of : ℕ → ℕ → ℕ
difference_of a b = word_of (pos a -ℤ pos b)

-- a word shifted to the left by the low five bits of another
abbrev pub shifted_left : ℕ → ℕ → ℕ
shifted_left word by = word * 2 ^ (by % 32) % 2 ^ 32

-- to the right, with zeros from above
abbrev pub shifted_right : ℕ → ℕ → ℕ
shifted_right word by = word / 2 ^ (by % 32)

-- to the right, with the sign from above: the signed number's quotient, rounded down
abbrev pub shifted_right_signed : ℕ → ℕ → ℕ
shifted_right_signed word by = word_of (int_div_euclid (signed_word word) (pos (2 ^ (by % 32))))

-- 1 where the test holds, else 0
abbrev pub flag : Bool → ℕ
flag test = if test then 1 else 0

-- the low so many bytes of a word
abbrev pub low_bytes : ℕ → ℕ → ℕ
low_bytes size word = word % 2 ^ (8 * size)

-- the word of a value of so many bytes: sign-extended or zero-extended
abbrev pub extended : ℕ → Bool → ℕ → ℕ
extended size is_signed value = if is_signed then word_of (signed (8 * size) value) else value

-- an instruction's address is a multiple of 4
abbrev pub is_aligned : ℕ → Bool
is_aligned address = address % 4 == 0

-- the address of the next instruction
abbrev pub next_of : ℕ → ℕ
next_of pc = sum_of pc 4
