-- Guards, by their two numbers.
use Rattle.std.specs.Prelude.{ℕ, ◌-◌, ◌%◌, ◌^◌, ◌≡◌, ◌<◌, ◌≤◌}

-- a guard: an address passes where its bits from l2g on are matches (Coyotos)
pub record GuardValue : Type 0 where
  pub l2g : ℕ
  pub matches : ℕ

-- a guard by its numbers
abbrev pub guard_of : ℕ → ℕ → GuardValue
guard_of l2g matches = record { l2g = l2g; matches = matches }

-- the range of a guard (this project's own)
pub record IsGuard (guard : GuardValue) : Type 0 where
  pub low : 12 ≤ guard.l2g
  pub high : guard.l2g ≤ 32
  pub fits : guard.matches < 2 ^ (32 - guard.l2g)

-- an offset is a multiple of the size of what passes the guard
abbrev pub Divides : GuardValue → ℕ → Type 0
Divides guard offset = offset % 2 ^ guard.l2g ≡ 0

-- 12/0: the guard where none is used
abbrev pub no_guard : GuardValue
no_guard = guard_of 12 0

-- 32/0: every address passes
abbrev pub whole_guard : GuardValue
whole_guard = guard_of 32 0
