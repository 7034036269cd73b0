-- Whether two sides are one, as it is looked at.
use Rattle.std.proofs.Common.{◌≡◌, ◌≢◌, true, false, refl}
use Rattle.confinement.specs.declared.cut_side.CutSide.{CutSide}
use Rattle.confinement.specs.declared.cut_side.CutSide.TheVariants.{Left, Right}
use Rattle.confinement.specs.Cut.{same_side}

-- two sides are one where the test says so
pub same_side-tells : (a b : CutSide) → same_side a b ≡ true → a ≡ b
same_side-tells Left Left e = refl
same_side-tells Left Right e = absurd (cc (e))
same_side-tells Right Left e = absurd (cc (e))
same_side-tells Right Right e = refl

-- and it does where they are
pub same_side-true : (a b : CutSide) → a ≡ b → same_side a b ≡ true
same_side-true Left Left e = refl
same_side-true Left Right e = absurd (cc (e))
same_side-true Right Left e = absurd (cc (e))
same_side-true Right Right e = refl

-- they are two where it says so
pub same_side-not : (a b : CutSide) → same_side a b ≡ false → a ≢ b
same_side-not Left Left e h = cc (e)
same_side-not Left Right e h = cc (h)
same_side-not Right Left e h = cc (h)
same_side-not Right Right e h = cc (e)

-- and it says so where they are
pub same_side-false : (a b : CutSide) → a ≢ b → same_side a b ≡ false
same_side-false Left Left other = absurd (other refl)
same_side-false Left Right other = refl
same_side-false Right Left other = refl
same_side-false Right Right other = absurd (other refl)
