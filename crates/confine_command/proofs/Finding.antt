-- Nothing is found of a state exactly where a cut holds of it, if nobody sleeps and its objects have their places.
use Rattle.std.proofs.Common.{◌≡◌, ℕ, ◌+◌, ◌-◌, ◌<◌, Bool, true, false, nat_lt, if◌then◌else◌, List, Option, Some, None, refl, sym, ◌∙◌, ap, subst, arith}
use Rattle.std.specs.Option.{option_or}
use Rattle.std.proofs.lemmas.Bool.{lt-ltb, ltb-true}
use Rattle.cap_format.specs.declared.kind.CapKind.{CapKind}
use Rattle.cap_format.specs.declared.kind.CapKind.TheVariants.{CapPage, Gpt, Endpoint, Process}
use Rattle.cap_format.specs.Capability.{Capability, null}
use Rattle.process_objects.specs.Process.{capreg_of, slot_of}
use Rattle.object_store.specs.Store.{Store, size_of, process_at}
use Rattle.kernel_core.specs.State.{State}
use Rattle.confinement.specs.Cut.{Cut, Sides, IsClosed, side_in, side_of, MayHold, EachMayHold, AllOn}
use Rattle.confinement.proofs.Own.{is-closed}
use Rattle.confinement.proofs.Held.{may-null}
use Rattle.run_places.specs.Places.{HasPlaces}
use Rattle.run_places.proofs.Reading.{slot-read, cap-read, capreg-read, process_slot-read, recipient-read}
use Rattle.confine_check.specs.declared.verdict.Breach.{Breach}
use Rattle.confine_check.specs.declared.verdict.Verdict.TheVariants.{Yes}
use Rattle.object_store.specs.Places.{cap_in, places_in}
use Rattle.confine_check.specs.Breach.{breach_by, found_by, sleeper_of}
use Rattle.confine_check.specs.Found.{meant_of, meant_of_kind, meant_of_object}
use Rattle.confine_check.specs.Sides.{cut_of}
use Rattle.confine_check.proofs.Decided.{may_hold-says, may_hold-passes, none_each, each_none}
use Rattle.confine_command.specs.Confine.{FindsExactly, NobodySleeps}
use Rattle.confine_command.proofs.Awake.{awake-none}

-- ---- answers that find nothing

or_none : {A : Type 0} (x y : Option A) → option_or x y ≡ None → (x ≡ None) × (y ≡ None)
or_none None y e = (refl, e)
or_none (Some a) y e = absurd (cc (e))

both_none : {A : Type 0} (x y : Option A) → x ≡ None → y ≡ None → option_or x y ≡ None
both_none None y e f = f
both_none (Some a) y e f = absurd (cc (e))

if_none : {A : Type 0} (b : Bool) (v : A) → (if b then None else Some v) ≡ None → b ≡ true
if_none true v e = refl
if_none false v e = absurd (cc (e))

if_true : {A : Type 0} (b : Bool) (v : A) → b ≡ true → (if b then None else Some v) ≡ None
if_true true v e = refl
if_true false v e = absurd (cc (e))

-- a Yes comes where no capability is found
found-none : (o : Option Breach) (p : Option ℕ) → found_by o p ≡ Yes → o ≡ None
found-none (Some found) p e = absurd (cc (e))
found-none None p e = refl

-- ---- capabilities

module _ (cut : Cut) (closed : IsClosed cut) (s : Store) where
  -- a fact of each place of the objects of a kind
  abbrev PlacesMay : CapKind → Type 0
  PlacesMay kind = (n i : ℕ) → n < size_of s.items kind → i < places_in kind → MayHold cut (side_of cut kind n) (cap_in s kind n i)

  places-none : (kind : CapKind) → PlacesMay kind → meant_of_kind cut s kind ≡ None
  places-none kind all =
      each_none (meant_of_object cut s kind) (size_of s.items kind) 0 (λ n low high.
      each_none (λ i. breach_by cut kind n i (cap_in s kind n i)) (places_in kind) 0 (λ i lower higher.
      if_true _ _ (may_hold-passes cut (side_of cut kind n) (cap_in s kind n i) closed (all n i (omega (arith, high)) (omega (arith, higher))))))

  none-places : (kind : CapKind) → meant_of_kind cut s kind ≡ None → PlacesMay kind
  none-places kind e n i there place =
      let object = none_each (meant_of_object cut s kind) (size_of s.items kind) 0 n e (omega arith) (omega (arith, there)) in
      let at = none_each (λ i. breach_by cut kind n i (cap_in s kind n i)) (places_in kind) 0 i object (omega arith) (omega (arith, place)) in
      may_hold-says cut (side_of cut kind n) (cap_in s kind n i) (if_none _ _ at)

  -- all four kinds
  record AllPlaces : Type 0 where
    pub cappages : PlacesMay CapPage
    pub gpts : PlacesMay Gpt
    pub endpoints : PlacesMay Endpoint
    pub processes : PlacesMay Process

  none-all : meant_of cut s ≡ None → AllPlaces
  none-all e =
      let first = or_none (meant_of_kind cut s CapPage) _ e in
      let second = or_none (meant_of_kind cut s Gpt) _ first.1 in
      let third = or_none (meant_of_kind cut s Endpoint) (meant_of_kind cut s Process) second.1 in
      record { cappages = none-places CapPage first.0; gpts = none-places Gpt second.0; endpoints = none-places Endpoint third.0; processes = none-places Process third.1 }

  all-none : AllPlaces → meant_of cut s ≡ None
  all-none all =
      both_none (meant_of_kind cut s CapPage) _ (places-none CapPage all.cappages)
      (both_none (meant_of_kind cut s Gpt) _ (places-none Gpt all.gpts)
      (both_none (meant_of_kind cut s Endpoint) (meant_of_kind cut s Process) (places-none Endpoint all.endpoints) (places-none Process all.processes)))

  not_below : (i : ℕ) → nat_lt (i + 3) 3 ≡ false
  not_below i = by (nat_lt (i + 3) 3) refl
    where
      by : (b : Bool) → nat_lt (i + 3) 3 ≡ b → b ≡ false
      by true e = let lt = ltb-true (i + 3) 3 e in absurd (omega (arith, lt))
      by false e = refl

  cap-capreg : (p i : ℕ) → cap_in s Process p (i + 3) ≡ capreg_of (process_at s p) i
  cap-capreg p i =
      let same : i + 3 - 3 ≡ i = omega arith in
      ap (λ (b : Bool). if b then slot_of (process_at s p) (i + 3) else capreg_of (process_at s p) (i + 3 - 3)) (not_below i) ∙ ap (λ (j : ℕ). capreg_of (process_at s p) j) same

  cap-slot : (p i : ℕ) → i < 3 → cap_in s Process p i ≡ slot_of (process_at s p) i
  cap-slot p i lt = ap (λ (b : Bool). if b then slot_of (process_at s p) i else capreg_of (process_at s p) (i - 3)) (lt-ltb i 3 lt)

  -- what may stand in an object, where Null always may
  abbrev MayStand : CapKind → ℕ → Capability → Type 0
  MayStand kind n c = MayHold cut (side_of cut kind n) c

  null-stands : (kind : CapKind) (n : ℕ) → MayStand kind n null
  null-stands kind n = may-null cut (side_of cut kind n)

  each-held : HasPlaces s → AllPlaces → EachMayHold cut s
  each-held has all = record {
    slots = slot-read s has MayStand null-stands all.gpts;
    cappages = cap-read s has MayStand null-stands all.cappages;
    capregs = capreg-read s has MayStand null-stands (λ p i there place. subst (λ (c : Capability). MayStand Process p c) (cap-capreg p i) (all.processes p (i + 3) there (omega (arith, place))));
    process_slots = process_slot-read s has MayStand null-stands (λ p i there place. subst (λ (c : Capability). MayStand Process p c) (cap-slot p i place) (all.processes p i there (omega (arith, place))));
    recipients = recipient-read s has MayStand null-stands (λ e there. all.endpoints e 0 there (omega arith));
  }

  -- and the other way round
  process-places : EachMayHold cut s → PlacesMay Process
  process-places each p i there place = by (nat_lt i 3)
    where
      by : (b : Bool) → MayHold cut (side_of cut Process p) (if b then slot_of (process_at s p) i else capreg_of (process_at s p) (i - 3))
      by true = each.process_slots p i
      by false = each.capregs p (i - 3)

  held-all : EachMayHold cut s → AllPlaces
  held-all each = record {
    cappages = λ n i there place. each.cappages n i;
    gpts = λ g i there place. each.slots g i;
    endpoints = λ e i there place. each.recipients e;
    processes = process-places each;
  }

-- ---- both

pub finds-exactly : (s : State) (sides : Sides) → NobodySleeps s.queues → HasPlaces s.store → FindsExactly s sides
finds-exactly s sides awake has = (
  λ yes. record {
    each = each-held cut closed s.store has (none-all cut closed s.store (found-none (meant_of cut s.store) (sleeper_of cut s.queues) yes));
    sleepers = λ on. subst (λ (xs : List ℕ). AllOn cut (side_of cut Process on) xs) (sym (awake on)) tt;
    closed = closed;
  },
  λ holds.
      ap (λ (o : Option Breach). found_by o (sleeper_of cut s.queues)) (all-none cut closed s.store (held-all cut closed s.store holds.each))
      ∙ ap (found_by None) (awake-none cut s.queues awake),
)
  where
    cut : Cut
    cut = cut_of sides

    closed : IsClosed cut
    closed = is-closed (side_in sides)
