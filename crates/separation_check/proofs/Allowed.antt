-- Nothing is told of a capability exactly where it may stand.
use Rattle.std.proofs.Common.{◌≡◌, ℕ, ◌==◌, ◌&&◌, inl, inr, Bool, true, false, not, if◌then◌else◌, Option, Some, None, refl, sym, ◌∙◌, ap, eqb-true}
use Rattle.std.proofs.lemmas.Bool.{or_cases, or_left, or_right, and_parts, eq-eqb}
use Rattle.cap_format.specs.declared.kind.CapKind.{CapKind}
use Rattle.cap_format.specs.declared.kind.CapKind.TheVariants.{Page, KernLog, SysCtl}
use Rattle.cap_format.specs.Kind.{is_counted}
use Rattle.cap_format.specs.Capability.{Capability}
use Rattle.cap_format.specs.Weakening.{is_harmless}
use Rattle.confine_check.specs.Breach.{is_range, is_sysctl, is_kernlog}
use Rattle.confine_check.proofs.Decided.{is_range-kind}
use Rattle.separation_policy.specs.Policy.{PolicyValue, domain_of, domain_named, may_write, may_halt, may_log, MayName, MayStand, sees, sees_written}
use Rattle.separation_policy.specs.Policy.MayName.{Own, Read, Written, Shown}
use Rattle.separation_policy.proofs.Reading.{reads-seen, seen-reads, seen-writer, writer-seen}
use Rattle.separation_check.specs.declared.crossing.Crossing.{Crossing}
use Rattle.separation_check.specs.declared.crossing.Crossing.TheVariants.{Range as RangeStands, Halts, Logs}
use Rattle.separation_check.specs.Crossings.{is_page, may_hold_page, may_name, halts_by, logs_by, crosses_by, crossing_with, crossing_by}

both : (x y : Bool) → x ≡ true → y ≡ true → (x && y) ≡ true
both x y a b = ap (λ (v : Bool). v && y) a ∙ b

-- ---- kinds that the tests tell

pub is_page-kind : (k : CapKind) → is_page k ≡ true → k ≡ Page
is_page-kind Page e = refl
is_page-kind _ e = absurd (cc (e))

pub is_sysctl-kind : (k : CapKind) → is_sysctl k ≡ true → k ≡ SysCtl
is_sysctl-kind SysCtl e = refl
is_sysctl-kind _ e = absurd (cc (e))

pub is_kernlog-kind : (k : CapKind) → is_kernlog k ≡ true → k ≡ KernLog
is_kernlog-kind KernLog e = refl
is_kernlog-kind _ e = absurd (cc (e))

-- what is tested and not denied is allowed
allowed : (is may : Bool) → (is && not may) ≡ false → is ≡ true → may ≡ true
allowed true true e h = refl
allowed true false e h = absurd (cc (e))
allowed false may e h = absurd (cc (h))

-- and what is denied isn't
pub denied : (may : Bool) → not may ≡ true → may ≡ false
denied true e = absurd (cc (e))
denied false e = refl

module _ (policy : PolicyValue) (kind : CapKind) (n i : ℕ) (c : Capability) where
  abbrev home : ℕ
  home = domain_of policy kind n

  abbrev named : ℕ
  named = domain_named policy c

  -- what the test finds, by its answers
  abbrev pub tested : Bool → Bool → Bool → Bool → Option Crossing
  tested range halts logs crosses =
      if range then Some (RangeStands kind n i home)
      else (if halts then Some (Halts kind n i home)
      else (if logs then Some (Logs kind n i home)
      else (if crosses then Some (crossing_with policy kind n i c) else None)))

  -- what may be named, by the test
  page-says : c.kind ≡ Page → may_hold_page policy home named (is_harmless c) ≡ true → MayName policy home c
  page-says page e = elim (or_cases (may_write policy home named) (is_harmless c && sees_written policy home named) e) [
    | inl writes ↦ Written page writes
    | inr shown ↦ let parts = and_parts (is_harmless c) (sees_written policy home named) shown in Shown page parts.0 (seen-writer policy home named parts.1)
  ]

  name-says : may_name policy home c ≡ true → MayName policy home c
  name-says e = elim (or_cases (named == home) _ e) [
    | inl same ↦ Own (eqb-true named home same)
    | inr rest ↦ elim (or_cases (is_harmless c && sees policy home named) (is_page c.kind && may_hold_page policy home named (is_harmless c)) rest) [
      | inl weak ↦ let parts = and_parts (is_harmless c) (sees policy home named) weak in Read parts.0 (seen-reads policy home named parts.1)
      | inr page ↦ let parts = and_parts (is_page c.kind) (may_hold_page policy home named (is_harmless c)) page in page-says (is_page-kind c.kind parts.0) parts.1
    ]
  ]

  page-passes : c.kind ≡ Page → may_hold_page policy home named (is_harmless c) ≡ true → may_name policy home c ≡ true
  page-passes page e =
      or_right (named == home) _ (or_right (is_harmless c && sees policy home named) _ (both _ _ (ap is_page page) e))

  says-name : MayName policy home c → may_name policy home c ≡ true
  says-name (Own same) = or_left (named == home) _ (eq-eqb named home same)
  says-name (Read harmless reads) = or_right (named == home) _ (or_left (is_harmless c && sees policy home named) _ (both _ _ harmless (reads-seen policy home named reads)))
  says-name (Written page writes) = page-passes page (or_left (may_write policy home named) _ writes)
  says-name (Shown page harmless writer) = page-passes page (or_right (may_write policy home named) _ (both _ _ harmless (writer-seen policy home named writer)))

  says : (range halts logs crosses : Bool) → is_range c.kind ≡ range → halts_by policy home c ≡ halts → logs_by policy home c ≡ logs → crosses_by policy home c ≡ crosses
      → tested range halts logs crosses ≡ None → MayStand policy home c
  says true halts logs crosses r h l x e = absurd (cc (e))
  says false true logs crosses r h l x e = absurd (cc (e))
  says false false true crosses r h l x e = absurd (cc (e))
  says false false false true r h l x e = absurd (cc (e))
  says false false false false r h l x e = record {
    no_range = λ is. let yes = sym r ∙ ap (λ (j : CapKind). is_range j) is in cc;
    halting = λ is. allowed (is_sysctl c.kind) (may_halt policy home) h (ap is_sysctl is);
    logging = λ is. allowed (is_kernlog c.kind) (may_log policy home) l (ap is_kernlog is);
    named = λ counted. name-says (allowed (is_counted c.kind) (may_name policy home c) x counted);
  }

  pub none-may : crossing_by policy kind n i c ≡ None → MayStand policy home c
  none-may e = says (is_range c.kind) (halts_by policy home c) (logs_by policy home c) (crosses_by policy home c) refl refl refl refl e

  passes : (range halts logs crosses : Bool) → is_range c.kind ≡ range → halts_by policy home c ≡ halts → logs_by policy home c ≡ logs → crosses_by policy home c ≡ crosses
      → MayStand policy home c → tested range halts logs crosses ≡ None
  passes true halts logs crosses r h l x may = absurd (may.no_range (is_range-kind c.kind r))
  passes false true logs crosses r h l x may =
      let parts = and_parts (is_sysctl c.kind) (not (may_halt policy home)) h in
      let yes = may.halting (is_sysctl-kind c.kind parts.0) in
      let no = denied (may_halt policy home) parts.1 in
      absurd (cc (yes, no))
  passes false false true crosses r h l x may =
      let parts = and_parts (is_kernlog c.kind) (not (may_log policy home)) l in
      let yes = may.logging (is_kernlog-kind c.kind parts.0) in
      let no = denied (may_log policy home) parts.1 in
      absurd (cc (yes, no))
  passes false false false true r h l x may =
      let parts = and_parts (is_counted c.kind) (not (may_name policy home c)) x in
      let yes = says-name (may.named parts.0) in
      let no = denied (may_name policy home c) parts.1 in
      absurd (cc (yes, no))
  passes false false false false r h l x may = refl

  pub may-none : MayStand policy home c → crossing_by policy kind n i c ≡ None
  may-none may = passes (is_range c.kind) (halts_by policy home c) (logs_by policy home c) (crosses_by policy home c) refl refl refl refl may
