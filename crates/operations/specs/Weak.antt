-- What is read through a capability or a way that may be weak.
use Rattle.std.specs.Prelude.{ℕ, if◌then◌else◌}
use Rattle.cap_format.specs.Restr.{has, WK}
use Rattle.cap_format.specs.Capability.{Capability}
use Rattle.cap_format.specs.Weakening.{weakened}

-- the capability as it stands, weakened where WK is among these restrictions (Coyotos)
abbrev pub read_through : ℕ → Capability → Capability
read_through restr c = if has restr WK then weakened c else c
