-- The count of a capability is neither told nor looked at.
use Rattle.std.proofs.Common.{◌≡◌, ◌≢◌, ℕ, Option, Some, None, refl}
use Rattle.confinement.specs.Cut.{Sides}
use Rattle.confine_check.specs.declared.verdict.Breach.{Breach}
use Rattle.confine_check.specs.declared.verdict.Verdict.{Verdict}
use Rattle.confine_check.specs.declared.verdict.Verdict.TheVariants.{Sleeper}
use Rattle.confine_check.specs.declared.verdict.Verdict.TheVariants as verdicts
use Rattle.confine_check.specs.Breach.{breach_in, found_by}
use Rattle.confine_check.specs.Found.{meant}
use Rattle.confine_command.specs.Confine.{breach_text, cut_text}

-- the same is told of a verdict and of what it means
pub text-meant : (sides : Sides) (v : Verdict) → cut_text sides (breach_in v) ≡ cut_text sides (breach_in (meant v))
unfolding breach_text
text-meant sides verdicts.Yes = refl
text-meant sides (verdicts.Capability kind n place cap) = refl
text-meant sides (verdicts.Sleeper process) = refl

-- a verdict tells the capability that was found, if one was
pub breach-found : (found : Option Breach) (p : Option ℕ) → breach_in (found_by found p) ≡ found
breach-found (Some found) p = refl
breach-found None (Some p) = refl
breach-found None None = refl

-- and is of no sleeper, where none is found
pub found-awake : (found : Option Breach) (p : Option ℕ) (q : ℕ) → p ≡ None → found_by found p ≢ Sleeper q
found-awake (Some found) p q none e = cc (e)
found-awake None (Some p) q none e = cc (none)
found-awake None None q none e = cc (e)
