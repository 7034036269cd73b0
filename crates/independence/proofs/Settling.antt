-- A page that is settled is beyond what any process has authority to change.
use Rattle.std.proofs.Common.{◌≡◌, ℕ, ◌==◌, ◌⊎◌, inl, inr, Bool, true, false, not, ◌||◌, Option, Some, None, List, refl, sym, ◌∙◌, ap, subst}
use Rattle.std.proofs.lemmas.Bool.{eq-eqb, eqb-true, false≢true}
use Rattle.cap_format.specs.declared.kind.CapKind.{CapKind}
use Rattle.cap_format.specs.declared.kind.CapKind.TheVariants.{Page, CapPage, Gpt, Endpoint, Entry, Process}
use Rattle.cap_format.specs.Kind.{is_counted, object_kind}
use Rattle.cap_format.specs.Capability.{Capability}
use Rattle.cap_format.specs.Weakening.{is_harmless}
use Rattle.object_store.specs.Store.{Store, page_at}
use Rattle.machine_state.specs.declared.event.Event.{Event}
use Rattle.machine_state.specs.State.{State}
use Rattle.kernel_core.specs.Event.{performer, event_of}
use Rattle.confinement.specs.Acts.{system_of}
use Rattle.confinement.specs.authority.Authority.{Authority, Grants, EachGranted, IsBounded}
use Rattle.confinement.proofs.Bounding.{bounds_law}
use Rattle.confinement.proofs.Runs.{event-idle}
use Rattle.independence.specs.Settled.{SparesPage, IsSettled, SettledLaw}

-- all objects but one page
abbrev others : ℕ → CapKind → ℕ → Bool
others n Page m = not (m == n)
others n kind m = true

-- the authority to all of them, and to look at anything
abbrev all_but : ℕ → Authority
all_but n = record { objects = others n; pages = λ m. false; looks = true; halts = true; logs = true }

module _ (n : ℕ) where
  -- what a capability of a kind names is another, or it is harmless
  named : (kind : CapKind) (object : ℕ) (h : Type 0) → (kind ≡ Page → object ≡ n → h) → is_counted kind ≡ true
      → (others n (object_kind kind) object ≡ true) ⊎ h
  named Page object h harmless counted = by (object == n) refl
    where
      by : (b : Bool) → (object == n) ≡ b → (not b ≡ true) ⊎ h
      by true is = inr (harmless refl (eqb-true object n is))
      by false is = inl refl
  named CapPage object h harmless counted = inl refl
  named Gpt object h harmless counted = inl refl
  named Endpoint object h harmless counted = inl refl
  named Entry object h harmless counted = inl refl
  named Process object h harmless counted = inl refl
  named _ object h harmless counted = absurd (false≢true counted)

  granted : (c : Capability) → SparesPage n c → Grants (all_but n) c
  granted c spares = record {
    no_range = spares.no_range;
    halting = λ is. refl;
    logging = λ is. refl;
    named = λ counted. elim (named c.kind c.object (is_harmless c ≡ true) spares.harmless counted) [
      | inl other ↦ inl other
      | inr harmless ↦ inr (inl (refl, harmless))
    ];
  }

  -- and a capability that names none but others spares it
  spared : (c : Capability) → Grants (all_but n) c → SparesPage n c
  spared c grants = record {
    no_range = grants.no_range;
    harmless = λ page at. on page at (grants.named (ap is_counted page));
  }
    where
      on : c.kind ≡ Page → c.object ≡ n
          → (others n (object_kind c.kind) c.object ≡ true)
          ⊎ (((true ≡ true) × (is_harmless c ≡ true)) ⊎ ((c.kind ≡ Page) × (false ≡ true)))
          → is_harmless c ≡ true
      on page at (inl other) =
          let is : not (c.object == n) ≡ true = ap (λ (kind : CapKind). others n (object_kind kind) c.object) (sym page) ∙ other in
          absurd (false≢true (sym (ap not (eq-eqb c.object n at)) ∙ is))
      on page at (inr (inl harmless)) = harmless.1
      on page at (inr (inr none)) = absurd (false≢true none.1)

  bounded : (s : State) → IsSettled s.store n → IsBounded (all_but n) (system_of s)
  bounded s settled = record {
    each = record {
      slots = λ g i of. granted _ (settled.slots g i);
      cappages = λ c i of. granted _ (settled.cappages c i);
      capregs = λ p i of. granted _ (settled.capregs p i);
      process_slots = λ p i of. granted _ (settled.process_slots p i);
      recipients = λ e of. granted _ (settled.recipients e);
    };
    sleepers = λ on p there. refl;
  }

  settles : (s : Store) → EachGranted (all_but n) s → IsSettled s n
  settles s each = record {
    slots = λ g i. spared _ (each.slots g i refl);
    cappages = λ c i. spared _ (each.cappages c i refl);
    capregs = λ p i. spared _ (each.capregs p i refl);
    process_slots = λ p i. spared _ (each.process_slots p i refl);
    recipients = λ e. spared _ (each.recipients e refl);
  }

  -- the page is no object that an event may change
  outside : (others n Page n || false) ≡ false
  outside = ap (λ (b : Bool). not b || false) (eq-eqb n n refl)

  stays : (s : State) (e : Event) → IsSettled s.store n → (by : Option ℕ) → performer s e ≡ by
      → IsSettled (event_of s e).state.store n × (page_at s.store n ≡ page_at (event_of s e).state.store n)
  stays s e settled None none =
      let idle = event-idle s e none in (
        subst (λ (t : Store). IsSettled t n) (sym idle.store) settled,
        ap (λ (t : Store). page_at t n) (sym idle.store),
      )
  stays s e settled (Some p) performs =
      let within = bounds_law (all_but n) s e p (bounded s settled) performs refl in
      let bounded = within.bounded in
      let same = within.objects Page n outside in (
        settles (event_of s e).state.store bounded.each,
        cc (same),
      )

pub settled_law : SettledLaw
settled_law settled s e are = record {
  stay = λ n is. (stays n s e (are n is) (performer s e) refl).0;
  bytes = λ n is. (stays n s e (are n is) (performer s e) refl).1;
}
