-- What a receiver waits for and takes.
use Rattle.std.specs.Prelude.{◌≡◌, ℕ, ◌+◌, ◌≤◌, ◌^◌, List, length, slice_index}
use Rattle.process_objects.specs.declared.wait.Wait.{Wait}

-- the wait, the number of capabilities that are taken, the registers that they go to, and the address and length of
-- the string buffer (Coyotos has the parts; their layout is this project's)
pub record AcceptValue : Type 0 where
  pub wait : Wait
  pub caps : ℕ
  pub regs : List ℕ
  pub at : ℕ
  pub bound : ℕ

-- the parts by name
abbrev pub accept_of : Wait → ℕ → List ℕ → ℕ → ℕ → AcceptValue
accept_of wait caps regs at bound = record { wait = wait; caps = caps; regs = regs; at = at; bound = bound }

-- what each one keeps: four registers at most, each of them a register and 0 where unused, and a buffer that ends
-- below the last address or at it (this project's)
pub record IsAccept (accept : AcceptValue) : Type 0 where
  pub four : length accept.regs ≡ 4
  pub caps : accept.caps ≤ 4
  pub regs : (i : ℕ) → slice_index accept.regs i ≤ 31
  pub unused : (i : ℕ) → accept.caps ≤ i → slice_index accept.regs i ≡ 0
  pub buffer : accept.at + accept.bound ≤ 2 ^ 32
