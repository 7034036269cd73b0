-- A page that is found to be settled is.
use Rattle.std.proofs.Common.{◌≡◌, ℕ, ◌==◌, Bool, true, false, not, ◌&&◌, ◌||◌, length, refl, sym, ◌∙◌, ap}
use Rattle.std.specs.List.{list_any}
use Rattle.std.proofs.lemmas.Bool.{and_parts, or_parts, false≢true, false_from_ne_true, not-true, not-false, eq-eqb}
use Rattle.cap_format.specs.declared.kind.CapKind.{CapKind}
use Rattle.cap_format.specs.declared.kind.CapKind.TheVariants.{Page}
use Rattle.cap_format.specs.Kind.{number_of, is_counted, object_kind}
use Rattle.cap_format.specs.Capability.{Capability, null}
use Rattle.cap_format.specs.Weakening.{is_harmless}
use Rattle.endpoint_objects.specs.declared.endpoint.Endpoint.{Endpoint as EndpointValue}
use Rattle.endpoint_objects.specs.Endpoint.{empty_endpoint}
use Rattle.page_store.specs.CapPage.{cap_at}
use Rattle.process_objects.specs.Process.{capreg_of, slot_of}
use Rattle.object_store.specs.Store.{Store, slot_at, gpt_at, cappage_at, process_at, endpoint_at}
use Rattle.independence.specs.Settled.{SparesPage}
use Rattle.quiet_runs.specs.Reaching.{caps_of, names}
use Rattle.quiet_runs.specs.Finding.{is_below, is_range, is_settled, may_write, some_cap, some_held, some_recipient}
use Rattle.quiet_runs.specs.Laws.{SettledFoundLaw}
use Rattle.quiet_runs.proofs.Below.{below-none}
use Rattle.quiet_runs.proofs.Reached.{Holds, holds-gpt, holds-cappage, holds-slot, holds-capreg, is-there}

-- ---- a test that no capability passes

module _ (test : Capability → Bool) (s : Store) (no_null : test null ≡ false) (none : some_cap test s ≡ false) where
  apart : (some_held test s ≡ false) × (some_recipient test s ≡ false)
  apart = or_parts (some_held test s) (some_recipient test s) none

  held : (is_below (λ p. list_any test (caps_of s p)) (length s.contents.processes) ≡ false)
      × ((is_below (λ c. list_any test (cappage_at s c)) (length s.contents.cappages) || is_below (λ g. list_any test (gpt_at s.items g).slots) (length s.items.gpts)) ≡ false)
  held = or_parts _ _ apart.0

  in-process : (p : ℕ) → Holds test (length s.contents.processes) p (caps_of s p) → ⊥
  in-process p holds = false≢true (sym (below-none (λ q. list_any test (caps_of s q)) (length s.contents.processes) p held.0 holds.there) ∙ holds.any)

  in-cappage : (c : ℕ) → Holds test (length s.contents.cappages) c (cappage_at s c) → ⊥
  in-cappage c holds = false≢true (sym (below-none (λ d. list_any test (cappage_at s d)) (length s.contents.cappages) c (or_parts _ _ held.1).0 holds.there) ∙ holds.any)

  in-gpt : (g : ℕ) → Holds test (length s.items.gpts) g (gpt_at s.items g).slots → ⊥
  in-gpt g holds = false≢true (sym (below-none (λ f. list_any test (gpt_at s.items f).slots) (length s.items.gpts) g (or_parts _ _ held.1).1 holds.there) ∙ holds.any)

  in-endpoint : (e : ℕ) → test (endpoint_at s e).recipient ≡ true → ⊥
  in-endpoint e is =
      let there = is-there (λ (x : EndpointValue). test x.recipient) s.contents.endpoints e empty_endpoint no_null is in
      false≢true (sym (below-none (λ d. test (endpoint_at s d).recipient) (length s.contents.endpoints) e apart.1 there) ∙ is)

  -- none that stands anywhere does
  pub record PassesNowhere : Type 0 where
    pub slots : (g i : ℕ) → test (slot_at s.items g i) ≡ false
    pub cappages : (c i : ℕ) → test (cap_at (cappage_at s c) i) ≡ false
    pub capregs : (p i : ℕ) → test (capreg_of (process_at s p) i) ≡ false
    pub process_slots : (p i : ℕ) → test (slot_of (process_at s p) i) ≡ false
    pub recipients : (e : ℕ) → test (endpoint_at s e).recipient ≡ false

  nowhere : PassesNowhere
  nowhere = record {
    slots = λ g i. false_from_ne_true _ (λ e. in-gpt g (holds-gpt test no_null s g i e));
    cappages = λ c i. false_from_ne_true _ (λ e. in-cappage c (holds-cappage test no_null s c i e));
    capregs = λ p i. false_from_ne_true _ (λ e. in-process p (holds-capreg test no_null s p i e));
    process_slots = λ p i. false_from_ne_true _ (λ e. in-process p (holds-slot test no_null s p i e));
    recipients = λ e. false_from_ne_true _ (λ is. in-endpoint e is);
  }

-- ---- settled pages

-- a capability that is no Range, and doesn't write the page, spares it
spares : (n : ℕ) (c : Capability) → is_range c.kind ≡ false → may_write n c ≡ false → SparesPage n c
spares n c range writes = record {
  no_range = λ is. false≢true (sym range ∙ ap is_range is);
  harmless = λ page at. not-false (is_harmless c) (ap (λ (b : Bool). b && not (is_harmless c)) (sym (named page at)) ∙ writes);
}
  where
    named : c.kind ≡ Page → c.object ≡ n → names c Page n ≡ true
    named page at =
        ap (λ (k : CapKind). is_counted k && ((number_of (object_kind k) == number_of Page) && (c.object == n))) page ∙ eq-eqb c.object n at

pub settled_found : SettledFoundLaw
settled_found s n settled =
    let both = and_parts (not (some_cap (λ c. is_range c.kind) s)) (not (some_cap (may_write n) s)) settled in
    let ranges = nowhere (λ c. is_range c.kind) s refl (not-true _ both.0) in
    let writes = nowhere (may_write n) s refl (not-true _ both.1) in
    record {
      slots = λ g i. spares n (slot_at s.items g i) (ranges.slots g i) (writes.slots g i);
      cappages = λ c i. spares n (cap_at (cappage_at s c) i) (ranges.cappages c i) (writes.cappages c i);
      capregs = λ p i. spares n (capreg_of (process_at s p) i) (ranges.capregs p i) (writes.capregs p i);
      process_slots = λ p i. spares n (slot_of (process_at s p) i) (ranges.process_slots p i) (writes.process_slots p i);
      recipients = λ e. spares n (endpoint_at s e).recipient (ranges.recipients e) (writes.recipients e);
    }
