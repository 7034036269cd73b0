-- An event of a process of a bounded set stays within the set, and leaves sets bounded that are apart from it.
use Rattle.std.proofs.Common.{◌≡◌, ℕ, ◌⊎◌, inl, inr, Bool, true, false, not, if◌then◌else◌, List, filter, Option, Some, None, refl, sym, ◌∙◌, ap, subst}
use mathlib.Core.Path.{fun_ext}
use Rattle.std.proofs.lemmas.Bool.{cases_Bool}
use Rattle.cap_format.specs.declared.kind.CapKind.{CapKind}
use Rattle.cap_format.specs.declared.kind.CapKind.TheVariants.{CapPage, Gpt, Endpoint, Process}
use Rattle.cap_format.specs.Capability.{Capability}
use Rattle.gpt_objects.specs.Gpt.{GptValue, slot_of as gpt_slot_of}
use Rattle.page_store.specs.CapPage.{cap_at}
use Rattle.process_objects.specs.Process.{ProcessValue, capreg_of, slot_of}
use Rattle.endpoint_objects.specs.declared.endpoint.Endpoint.{Endpoint as EndpointValue}
use Rattle.object_store.specs.Store.{gpt_at, cappage_at, process_at, endpoint_at}
use Rattle.schedules.specs.Queues.{ready_queue, sleepers_of, stands_in, hart_of}
use Rattle.machine_state.specs.State.{State}
use Rattle.confinement.specs.declared.cut_side.CutSide.TheVariants.{Left}
use Rattle.confinement.specs.Acts as acts
use Rattle.confinement.specs.Acts.{KeepsApart, system_of}
use Rattle.kernel_core.specs.Event.{event_of}
use Rattle.confinement.proofs.Plain.{plain_law}
use Rattle.confinement.proofs.Runs.{event-acts}
use Rattle.confinement.specs.authority.Authority.{Authority, Grants, IsBounded}
use Rattle.confinement.specs.authority.Within.{may_change, others_in, other_on, StaysWithin}
use Rattle.confinement.specs.authority.Laws.{BoundsLaw, AreApart, BesideLaw}
use Rattle.confinement.proofs.OneSide.{side_if, not-left, same_side-left, cut_of, is-closed, bounded-holds, holds-bounded}

module _ (a : Authority) where
  -- those that are not of the set are those on the other side
  others-left : (ps : List ℕ) → acts.others_in (cut_of a) Left ps ≡ others_in a ps
  others-left ps = ap (λ (f : ℕ → Bool). filter f ps) (fun_ext (λ p. ap not (same_side-left (a.objects Process p))))

  other-left : (on : Option ℕ) → acts.other_on (cut_of a) Left on ≡ other_on a on
  other-left None = refl
  other-left (Some p) = ap (λ (b : Bool). if b then None else Some p) (same_side-left (a.objects Process p))

  -- what stays on that side stays within the set
  acts-within : (s t : State) → KeepsApart (cut_of a) Left (system_of s) (system_of t) → StaysWithin a s t
  acts-within s t done = let places = done.places in record {
    bounded = holds-bounded a (system_of t) done.holds;
    objects = λ kind n none. done.spares kind n (not-left (may_change a kind n) none);
    ages = done.ages;
    sizes = done.sizes;
    sleepers = λ on none. done.sleepers on (not-left (a.objects Process on) none);
    ready = λ priority. sym (others-left (ready_queue s.queues priority)) ∙ (places.ready priority ∙ others-left (ready_queue t.queues priority));
    harts = λ hart. sym (other-left (hart_of s.queues hart)) ∙ (places.harts hart ∙ other-left (hart_of t.queues hart));
    size = places.size;
  }

-- the law of bounds
pub bounds_law : BoundsLaw
bounds_law a s e p bounded performs own =
    let holds = bounded-holds a (system_of s) bounded in
    let t = (event_of s e).state in
    acts-within a s t (plain_law (cut_of a) Left (system_of s) (system_of t) (is-closed a) holds (event-acts (cut_of a) Left p (ap side_if own) s e performs holds))

-- ---- another set

not-both : (x y : Bool) → (x ≡ true → y ≡ false) → y ≡ true → x ≡ false
not-both true y apart here = let none = apart refl in absurd (cc (none, here))
not-both false y apart here = refl

module _ (a b : Authority) (s t : State) (apart : AreApart a b) (within : StaysWithin a s t) (bounded : IsBounded b (system_of s)) where
  -- an object of the other set is not of this one
  not-own : (kind : CapKind) (n : ℕ) → b.objects kind n ≡ true → a.objects kind n ≡ false
  not-own kind n here = not-both (a.objects kind n) (b.objects kind n) (apart kind n) here

  same-gpt : (g : ℕ) → b.objects Gpt g ≡ true → gpt_at s.store.items g ≡ gpt_at t.store.items g
  same-gpt g here = let e = within.objects Gpt g (not-own Gpt g here) in cc (e)

  same-cappage : (n : ℕ) → b.objects CapPage n ≡ true → cappage_at s.store n ≡ cappage_at t.store n
  same-cappage n here = let e = within.objects CapPage n (not-own CapPage n here) in cc (e)

  same-process : (p : ℕ) → b.objects Process p ≡ true → process_at s.store p ≡ process_at t.store p
  same-process p here = let e = within.objects Process p (not-own Process p here) in cc (e)

  same-endpoint : (n : ℕ) → b.objects Endpoint n ≡ true → endpoint_at s.store n ≡ endpoint_at t.store n
  same-endpoint n here = let e = within.objects Endpoint n (not-own Endpoint n here) in cc (e)

  -- who sleeps on a process of the first set is of it, and so not of the other
  sleep-other : (on p : ℕ) → (a.objects Process on ≡ true) ⊎ (a.objects Process on ≡ false) → stands_in (sleepers_of t.queues on) p ≡ true → b.objects Process p ≡ b.objects Process on
  sleep-other on p (inl own) there =
      let also = within.bounded.sleepers on p there ∙ own in
      apart Process p also ∙ sym (apart Process on own)
  sleep-other on p (inr other) there =
      bounded.sleepers on p (ap (λ (xs : List ℕ). stands_in xs p) (within.sleepers on other) ∙ there)

  beside-bounded : IsBounded b (system_of t)
  beside-bounded = let each = bounded.each in record {
    each = record {
      slots = λ g i here. subst (λ (gpt : GptValue). Grants b (gpt_slot_of gpt i)) (same-gpt g here) (each.slots g i here);
      cappages = λ n i here. subst (λ (page : List Capability). Grants b (cap_at page i)) (same-cappage n here) (each.cappages n i here);
      capregs = λ p i here. subst (λ (x : ProcessValue). Grants b (capreg_of x i)) (same-process p here) (each.capregs p i here);
      process_slots = λ p i here. subst (λ (x : ProcessValue). Grants b (slot_of x i)) (same-process p here) (each.process_slots p i here);
      recipients = λ n here. subst (λ (x : EndpointValue). Grants b x.recipient) (same-endpoint n here) (each.recipients n here);
    };
    sleepers = λ on p there. sleep-other on p (cases_Bool (a.objects Process on)) there;
  }

-- the law of other sets
pub beside_law : BesideLaw
beside_law a b s t apart within bounded = beside-bounded a b s t apart within bounded
