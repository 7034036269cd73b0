-- Where the accesses of a process of one side end. (Own.)
use Rattle.std.specs.Prelude.{◌≡◌, ◌⊎◌, true, false, Result, Ok, Err}
use Rattle.cap_format.specs.declared.kind.CapKind.TheVariants.{CapPage}
use Rattle.cap_format.specs.Restr.{has, RO, WK}
use Rattle.walk_meaning.specs.declared.kind.Kind.{Kind}
use Rattle.walk_meaning.specs.declared.place.Place.{Place}
use Rattle.walk_meaning.specs.declared.place.WalkFault.{WalkFault}
use Rattle.walk_meaning.specs.Laws.{serving}
use Rattle.walk_meaning.specs.Walk.{denied}
use Rattle.confinement.specs.declared.cut_side.CutSide.{CutSide}
use Rattle.confinement.specs.Cut.{Cut, side_of}
use Rattle.confinement.specs.Acts.{MayHoldIf}

-- through these restrictions nothing can be written, and what is loaded of capabilities is weakened
abbrev pub ReadsWeakly : Cut → CutSide → Place → Type 0
ReadsWeakly cut side p =
    (cut.weakly side ≡ true)
    × (has p.restr.0 RO ≡ true)
    × (p.kind ≡ CapPage → has p.restr.0 WK ≡ true)

-- a place that is reached from this side: an object of it, or one that is read and no more
pub record Reaches (cut : Cut) (side : CutSide) (kind : Kind) (p : Place) : Type 0 where
  pub serves : p.kind ≡ serving kind
  pub allowed : denied kind p.restr.0 ≡ false
  pub own : (side_of cut p.kind p.number ≡ side) ⊎ ReadsWeakly cut side p

-- where an access ends that began on this side: at such a place, or in a fault whose handler this side may hold
abbrev pub Ends : Cut → CutSide → Kind → Result Place WalkFault → Type 0
Ends cut side kind (Ok p) = Reaches cut side kind p
Ends cut side kind (Err f) = MayHoldIf cut side f.handler
