-- What is asked of a capability is asked of what it means.
use Rattle.std.proofs.Common.{◌≡◌, refl}
use Rattle.cap_format.specs.Capability.{Capability, bare}
use Rattle.questions.specs.declared.atom.Holding.{Holding}
use Rattle.questions.specs.declared.atom.Holding.TheVariants.{Object, Writable, Kind}
use Rattle.questions.specs.Atom.{is_held}

-- its count makes no difference
pub is_held-bare : (holding : Holding) (c : Capability) → is_held holding c ≡ is_held holding (bare c)
is_held-bare (Object of named) c = refl
is_held-bare (Writable of named) c = refl
is_held-bare (Kind of) c = refl
