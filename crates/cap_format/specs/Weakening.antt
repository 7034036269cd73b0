-- Weakening, reduction and harmless capabilities (Coyotos; the tables are this project's own).
use Rattle.std.specs.Prelude.{ℕ, Bool, true, false, ◌&&◌}
use Rattle.std.specs.Int.RustNames.{bit_or}
use Rattle.cap_format.specs.declared.kind.CapKind.{CapKind}
use Rattle.cap_format.specs.declared.kind.CapKind.TheVariants.{Null, Page, CapPage, Gpt, Window, LocalWindow, Discrim}
use Rattle.cap_format.specs.Restr.{has, RO, WK, NC}
use Rattle.cap_format.specs.Capability.{Capability, null}

-- the same with these restrictions too
abbrev pub reduced : Capability → ℕ → Capability
reduced c more = record c { restr = bit_or c.restr more }

-- Null and Discrim remain, a memory capability gains RO, WK and NC, and all else becomes Null
abbrev pub weakened_kind : CapKind → Capability → Capability
weakened_kind Null c = c
weakened_kind Discrim c = c
weakened_kind Page c = reduced c 21
weakened_kind CapPage c = reduced c 21
weakened_kind Gpt c = reduced c 21
weakened_kind Window c = reduced c 21
weakened_kind LocalWindow c = reduced c 21
weakened_kind _ c = null

-- what is left of a capability that is loaded through WK
abbrev pub weakened : Capability → Capability
weakened c = weakened_kind c.kind c

-- Null, Discrim, a Page with RO, a CapPage with RO and WK, and the others a walk goes on from with RO, WK and NC
abbrev pub harmless_kind : CapKind → ℕ → Bool
harmless_kind Null restr = true
harmless_kind Discrim restr = true
harmless_kind Page restr = has restr RO
harmless_kind CapPage restr = has restr RO && has restr WK
harmless_kind Gpt restr = has restr RO && has restr WK && has restr NC
harmless_kind Window restr = has restr RO && has restr WK && has restr NC
harmless_kind LocalWindow restr = has restr RO && has restr WK && has restr NC
harmless_kind _ restr = false

-- nothing can be changed or told through the capability
abbrev pub is_harmless : Capability → Bool
is_harmless c = harmless_kind c.kind c.restr
