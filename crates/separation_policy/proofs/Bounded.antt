-- A policy holds exactly where what each domain may do is bounded, and what it may look at.
use Rattle.std.proofs.Common.{◌≡◌, ℕ, ◌==◌, ◌⊎◌, inl, inr, true, refl, sym, ◌∙◌, ap, subst, eqb-true}
use Rattle.std.proofs.lemmas.Bool.{eq-eqb}
use Rattle.cap_format.specs.declared.kind.CapKind.{CapKind}
use Rattle.cap_format.specs.declared.kind.CapKind.TheVariants.{Page, CapPage, Gpt, Endpoint, Process}
use Rattle.cap_format.specs.Kind.{object_kind}
use Rattle.cap_format.specs.Capability.{Capability}
use Rattle.cap_format.specs.Weakening.{is_harmless}
use Rattle.operations.specs.System.{System}
use Rattle.confinement.specs.authority.Authority.{Grants, IsBounded}
use Rattle.separation_policy.specs.Policy.{PolicyValue, domain_of, domain_named, may_write, MayName, MayStand, PolicyHolds, sees, sees_written, own, seen}
use Rattle.separation_policy.specs.Policy.MayName.{Own, Read, Written, Shown}
use Rattle.separation_policy.specs.Laws.{AuthorityLaw}
use Rattle.separation_policy.proofs.Reaching.{reach-then}
use Rattle.separation_policy.proofs.Reading.{reads-seen, seen-reads, sees-itself, sees-then, seen-writer, writer-seen}

-- ---- one capability

module _ (policy : PolicyValue) (c : Capability) where
  abbrev named : ℕ
  named = domain_named policy c

  -- a Page names a page
  pub page-named : c.kind ≡ Page → domain_of policy Page c.object ≡ named
  page-named page = ap (λ (k : CapKind). domain_of policy (object_kind k) c.object) (sym page)

  -- it is of what its domain may do
  own-grants : (a : ℕ) → MayStand policy a c → Grants (own policy a) c
  own-grants a may = record { no_range = may.no_range; halting = may.halting; logging = may.logging; named = λ counted. by (may.named counted) }
    where
      by : MayName policy a c → (((own policy a).objects (object_kind c.kind) c.object ≡ true) ⊎ ((((own policy a).looks ≡ true) × (is_harmless c ≡ true)) ⊎ ((c.kind ≡ Page) × ((own policy a).pages c.object ≡ true))))
      by (Own same) = inl (eq-eqb named a same)
      by (Read harmless reads) = inr (inl (refl, harmless))
      by (Written page writes) = inr (inr (page, ap (may_write policy a) (page-named page) ∙ writes))
      by (Shown page harmless writer) = inr (inl (refl, harmless))

  -- and of what each domain may look at that reads its own
  seen-grants : (b a : ℕ) → sees policy b a ≡ true → MayStand policy a c → Grants (seen policy b) c
  seen-grants b a saw may = record { no_range = may.no_range; halting = λ k. refl; logging = λ k. refl; named = λ counted. by (may.named counted) }
    where
      by : MayName policy a c → (((seen policy b).objects (object_kind c.kind) c.object ≡ true) ⊎ ((((seen policy b).looks ≡ true) × (is_harmless c ≡ true)) ⊎ ((c.kind ≡ Page) × ((seen policy b).pages c.object ≡ true))))
      by (Own same) = inl (ap (sees policy b) same ∙ saw)
      by (Read harmless reads) = inl (sees-then policy b a named saw (reads-seen policy a named reads))
      by (Written page writes) = inr (inr (page, ap (sees_written policy b) (page-named page) ∙ writer-seen policy b named (record { by = a; reads = seen-reads policy b a saw; writes = writes })))
      by (Shown page harmless writer) = inr (inr (page, ap (sees_written policy b) (page-named page) ∙ writer-seen policy b named (record { by = writer.by; reads = reach-then _ (seen-reads policy b a saw) writer.reads; writes = writer.writes })))

  -- and back from both
  granted-may : (a : ℕ) → Grants (own policy a) c → Grants (seen policy a) c → MayStand policy a c
  granted-may a does looks = record { no_range = does.no_range; halting = does.halting; logging = does.logging; named = λ counted. by (does.named counted) (looks.named counted) }
    where
      by : (((own policy a).objects (object_kind c.kind) c.object ≡ true) ⊎ ((((own policy a).looks ≡ true) × (is_harmless c ≡ true)) ⊎ ((c.kind ≡ Page) × ((own policy a).pages c.object ≡ true))))
          → (((seen policy a).objects (object_kind c.kind) c.object ≡ true) ⊎ ((((seen policy a).looks ≡ true) × (is_harmless c ≡ true)) ⊎ ((c.kind ≡ Page) × ((seen policy a).pages c.object ≡ true))))
          → MayName policy a c
      by (inl same) other = Own (eqb-true named a same)
      by (inr (inr page)) other = Written page.0 (sym (ap (may_write policy a) (page-named page.0)) ∙ page.1)
      by (inr (inl harmless)) (inl saw) = Read harmless.1 (seen-reads policy a named saw)
      by (inr (inl harmless)) (inr (inl looking)) = let no = looking.0 in absurd (cc (no))
      by (inr (inl harmless)) (inr (inr page)) = Shown page.0 harmless.1 (seen-writer policy a named (sym (ap (sees_written policy a) (page-named page.0)) ∙ page.1))

-- ---- a whole system

module _ (policy : PolicyValue) (w : System) where
  -- what stands in an object of this domain
  stands-in : (kind : CapKind) (n a : ℕ) (c : Capability) → (domain_of policy kind n == a) ≡ true → MayStand policy (domain_of policy kind n) c → Grants (own policy a) c
  stands-in kind n a c here may = own-grants policy c a (subst (λ (d : ℕ). MayStand policy d c) (eqb-true (domain_of policy kind n) a here) may)

  own-bounded : (a : ℕ) → PolicyHolds policy w → IsBounded (own policy a) w
  own-bounded a holds = let each = holds.each in record {
    each = record {
      slots = λ g i here. stands-in Gpt g a _ here (each.slots g i);
      cappages = λ n i here. stands-in CapPage n a _ here (each.cappages n i);
      capregs = λ p i here. stands-in Process p a _ here (each.capregs p i);
      process_slots = λ p i here. stands-in Process p a _ here (each.process_slots p i);
      recipients = λ e here. stands-in Endpoint e a _ here (each.recipients e);
    };
    sleepers = λ on p there. ap (λ (d : ℕ). d == a) (holds.sleepers on p there);
  }

  seen-bounded : (a : ℕ) → PolicyHolds policy w → IsBounded (seen policy a) w
  seen-bounded a holds = let each = holds.each in record {
    each = record {
      slots = λ g i saw. seen-grants policy _ a (domain_of policy Gpt g) saw (each.slots g i);
      cappages = λ n i saw. seen-grants policy _ a (domain_of policy CapPage n) saw (each.cappages n i);
      capregs = λ p i saw. seen-grants policy _ a (domain_of policy Process p) saw (each.capregs p i);
      process_slots = λ p i saw. seen-grants policy _ a (domain_of policy Process p) saw (each.process_slots p i);
      recipients = λ e saw. seen-grants policy _ a (domain_of policy Endpoint e) saw (each.recipients e);
    };
    sleepers = λ on p there. ap (sees policy a) (holds.sleepers on p there);
  }

  policy-by : ((a : ℕ) → IsBounded (own policy a) w × IsBounded (seen policy a) w) → PolicyHolds policy w
  policy-by bounded = record {
    each = record {
      slots = λ g i. let two = bounded (domain_of policy Gpt g) in granted-may policy _ (domain_of policy Gpt g) (two.0.each.slots g i (same Gpt g)) (two.1.each.slots g i (itself Gpt g));
      cappages = λ n i. let two = bounded (domain_of policy CapPage n) in granted-may policy _ (domain_of policy CapPage n) (two.0.each.cappages n i (same CapPage n)) (two.1.each.cappages n i (itself CapPage n));
      capregs = λ p i. let two = bounded (domain_of policy Process p) in granted-may policy _ (domain_of policy Process p) (two.0.each.capregs p i (same Process p)) (two.1.each.capregs p i (itself Process p));
      process_slots = λ p i. let two = bounded (domain_of policy Process p) in granted-may policy _ (domain_of policy Process p) (two.0.each.process_slots p i (same Process p)) (two.1.each.process_slots p i (itself Process p));
      recipients = λ e. let two = bounded (domain_of policy Endpoint e) in granted-may policy _ (domain_of policy Endpoint e) (two.0.each.recipients e (same Endpoint e)) (two.1.each.recipients e (itself Endpoint e));
    };
    sleepers = λ on p there.
        let a = domain_of policy Process on in
        eqb-true _ _ ((bounded a).0.sleepers on p there ∙ same Process on);
  }
    where
      same : (kind : CapKind) (n : ℕ) → (domain_of policy kind n == domain_of policy kind n) ≡ true
      same kind n = eq-eqb _ _ refl

      itself : (kind : CapKind) (n : ℕ) → sees policy (domain_of policy kind n) (domain_of policy kind n) ≡ true
      itself kind n = sees-itself policy (domain_of policy kind n)

-- the law of authority
pub authority_law : AuthorityLaw
authority_law policy w = (λ holds a. (own-bounded policy w a holds, seen-bounded policy w a holds), policy-by policy w)
