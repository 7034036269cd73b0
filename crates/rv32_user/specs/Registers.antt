-- The registers x0 to x31 as a list of 32 words. Register x0 is 0 (RISC-V Unprivileged ISA).
use Rattle.std.specs.Prelude.{ℕ, ◌==◌, List, slice_index, slice_set, if◌then◌else◌}

-- what is read from a register: 0 from x0
abbrev pub register : List ℕ → ℕ → ℕ
register registers number = if number == 0 then 0 else slice_index registers number

-- the registers after one is written: a write to x0 does nothing
abbrev pub with_register : List ℕ → ℕ → ℕ → List ℕ
with_register registers number word =
    if number == 0 then registers else slice_set registers number word
