-- The line that is told of a capability that crosses would allow it; where none is, no line would.
use Rattle.std.proofs.Common.{◌≡◌, ℕ, ◌<◌, Bool, true, false, if◌then◌else◌, length, slice_index_or, None, refl, sym, ◌∙◌, ap, subst}
use Rattle.cap_format.specs.declared.kind.CapKind.{CapKind}
use Rattle.cap_format.specs.declared.kind.CapKind.TheVariants.{KernLog, SysCtl}
use Rattle.cap_format.specs.Kind.{is_counted, object_kind}
use Rattle.cap_format.specs.Capability.{Capability}
use Rattle.cap_format.specs.Weakening.{is_harmless}
use Rattle.machine_state.specs.State.{State}
use Rattle.separation_policy.specs.Policy.{PolicyValue, Assigned, assigned_of, domain_or_rest, domain_of, domain_named, may_read, may_write, MayName, MayStand, Reach}
use Rattle.separation_policy.specs.Policy.MayName.{Own, Read, Written, Shown}
use Rattle.separation_policy.specs.Policy.Reach.{Itself, Onward}
use Rattle.separation_policy.specs.Making.{with_reading, with_writing}
use Rattle.separation_policy.proofs.Allowing.{reading-allows, writing-allows}
use Rattle.separation_check.specs.declared.remedy.Remedy.TheVariants.{Reads, Writes, Never}
use Rattle.separation_check.specs.Crossings.{is_page}
use Rattle.separation_check.specs.Each.{CapabilityStands, Remedied, RemedyLaw}
use Rattle.separation_check.proofs.Allowed.{is_page-kind}

module _ (policy : PolicyValue) (s : State) (kind : CapKind) (n i : ℕ) (c : Capability) (from to : ℕ) (so : CapabilityStands policy s.store kind n i c from to) where
  -- what names an object is neither SysCtl nor KernLog
  not-sysctl : c.kind ≡ SysCtl → ⊥
  not-sysctl k = let free = ap is_counted k in let names = so.names in cc (free, names)

  not-kernlog : c.kind ≡ KernLog → ⊥
  not-kernlog k = let free = ap is_counted k in let names = so.names in cc (free, names)

  -- so it may stand where it may be named
  stands-by : (other : PolicyValue) (a : ℕ) → MayName other a c → MayStand other a c
  stands-by other a may = record { no_range = so.no_range; halting = λ k. absurd (not-sysctl k); logging = λ k. absurd (not-kernlog k); named = λ counted. may }

  -- no line would where it is neither harmless nor a Page
  never : is_harmless c ≡ false → is_page c.kind ≡ false → (other : PolicyValue) → other.assigned ≡ policy.assigned → MayName other from c → ⊥
  never harmful no_page other same (Own e) =
      let named : domain_named other c ≡ domain_named policy c = ap (λ (assigned : Assigned). domain_or_rest (slice_index_or (assigned_of assigned (object_kind c.kind)) c.object None)) same in
      so.forbidden (stands-by policy (domain_of policy kind n) (Own (sym named ∙ (e ∙ so.domain))))
  never harmful no_page other same (Read harmless reads) = cc (harmful, harmless)
  never harmful no_page other same (Written page writes) = let yes = ap is_page page in cc (no_page, yes)
  never harmful no_page other same (Shown page harmless writer) = cc (harmful, harmless)

  remedied : from < length policy.domains → to < length policy.domains → (harmless page : Bool) → is_harmless c ≡ harmless → is_page c.kind ≡ page
      → Remedied policy c from to (if harmless then Reads else (if page then Writes else Never))
  remedied from_made to_made true page h p =
      stands-by (with_reading policy from to) from
      (Read h (subst (λ (d : ℕ). Reach (may_read (with_reading policy from to)) from d) so.other (Onward from to to (reading-allows policy from to from_made) (Itself to))))
  remedied from_made to_made false true h p =
      stands-by (with_writing policy from to) from
      (Written (is_page-kind c.kind p) (subst (λ (d : ℕ). may_write (with_writing policy from to) from d ≡ true) so.other (writing-allows policy from to from_made to_made)))
  remedied from_made to_made false false h p = λ other same stands. never h p other same (stands.named so.names)

-- the law of remedies
pub remedy_law : RemedyLaw
remedy_law policy s kind n i c from to so from_made to_made =
    remedied policy s kind n i c from to so from_made to_made (is_harmless c) (is_page c.kind) refl refl
