-- What passes a guard, and what of it goes on (Coyotos).
use Rattle.std.specs.Prelude.{ℕ, Bool, ◌/◌, ◌%◌, ◌^◌, ◌==◌}
use Rattle.cap_format.specs.Guard.{GuardValue}

-- the bits from l2g on are what the guard asks for; with l2g 32 there are none, which reads as 0
abbrev pub passes : GuardValue → ℕ → Bool
passes guard address = (address / 2 ^ guard.l2g == guard.matches)

-- the bits below l2g
abbrev pub remainder : GuardValue → ℕ → ℕ
remainder guard address = address % 2 ^ guard.l2g
