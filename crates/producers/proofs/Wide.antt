-- The last producer of a walk, as far as sizes of a region or more are passed: all addresses of a region and all kinds have
-- the same, whether they reach or not.
use Rattle.std.proofs.Common.{◌≡◌, ◌≢◌, inl, inr, ℕ, zero, suc, ◌+◌, ◌/◌, ◌%◌, ◌^◌, ◌<◌, ◌≤◌, min, Bool, true, false, ◌&&◌, ◌==◌, nat_le, if◌then◌else◌, List, [], ◌∷◌, ◌++◌, length, length-append, append-nil, Option, Some, None, Result, Ok, Err, refl, sym, ap, subst, ◌∙◌, arith}
use Rattle.std.specs.Option.{option_or}
use Rattle.std.proofs.lemmas.Bool.{cases_lt}
use Rattle.std.proofs.lemmas.Bool.Decides.{nat_tests}
use Rattle.cap_format.specs.Capability.{Capability, IsCapability}
use Rattle.cap_format.specs.Kind.{is_counted, object_kind}
use Rattle.cap_format.specs.declared.fault.FaultCode.TheVariants.{MalformedSpace}
use Rattle.cap_format.specs.declared.item.Item.{Item}
use Rattle.cap_format.specs.declared.item.Item.TheVariants.{Header, Slot}
use Rattle.cap_format.specs.declared.kind.CapKind.{CapKind}
use Rattle.cap_format.specs.declared.kind.CapKind.TheVariants.{Gpt}
use Rattle.guard_math.specs.Pass.{passes}
use Rattle.object_store.specs.Store.{Items, count_of, slot_at}
use Rattle.object_store.specs.Ranges.{IsRanged}
use Rattle.object_store.proofs.Ranged.{IsCapability-slot_at}
use Rattle.walk_meaning.specs.declared.at.At.{At}
use Rattle.walk_meaning.specs.declared.kind.Kind.{Kind}
use Rattle.walk_meaning.specs.declared.noted.Noted.{Noted}
use Rattle.walk_meaning.specs.declared.place.Place.{Place}
use Rattle.walk_meaning.specs.declared.place.WalkFault.{WalkFault}
use Rattle.walk_meaning.specs.declared.step.Step.{Step}
use Rattle.walk_meaning.specs.declared.step.Step.TheVariants.{Reach, Fault, Go}
use Rattle.walk_meaning.specs.Walk.{fault, past, step, walk}
use Rattle.walk_meaning.specs.Trail.{header_noted, noted, trail_from}
use Rattle.walk_meaning.specs.Laws.{Unread}
use Rattle.walk_meaning.specs.After.{trail_after, walk_after}
use Rattle.walk_meaning.proofs.Walked.{trail_from-suc, walk-suc, walk-zero}
use Rattle.walk_meaning.proofs.Ways.{Way, gone, step-headers}
use Rattle.walk_meaning.proofs.Ways.Way.{BySlot, ByWindow, ByLocal}
use Rattle.walk_meaning.proofs.Ends.{Serves, reached}
use Rattle.walk_meaning.proofs.Alike.{Alike, alike-above, alike-mod}
use Rattle.walk_meaning.proofs.Along.{at, goes_along}
use Rattle.walk_meaning.proofs.FrameLaw.{Agree, Apart, NamesAnother, NamesItem, GoesApart, goes_apart, header_unread, null_stops}
use Rattle.producers.specs.declared.producer.Produced.{Produced}
use Rattle.producers.specs.declared.producer.Producer.{Producer}
use Rattle.producers.specs.Producer.{Point, aged, here, joins, is_gpt, last_join, produced_by, producer_at}
use Rattle.producers.specs.Meets.{Meets, PassesAt}
use Rattle.producers.proofs.Points.{Meets-suc, Meets-zero, Onward, join-ends, join-goes, last_join-zero, or-produced}
use Rattle.producers.proofs.Staying.{unread-append}
use Rattle.producers.proofs.Stripped.{step-stripped, strip, strip_at}

-- the producer of a capability that is met, if walks join there, and how many reads lie before it
abbrev pub produced_here : Items → ℕ → Capability → At → ℕ → Option Produced
produced_here o n c w m = if joins c w then Some (record { producer = producer_at o n c w; before = m }) else None

-- how many reads meeting a capability makes
abbrev pub header_count : Capability → ℕ
header_count c = if is_counted c.kind then 1 else 0

-- the last producer from here on, also of a walk that faults behind it, where m reads were made
unfoldable pub wide_from : Items → Kind → ℕ → Capability → At → ℕ → Option Produced
wide_from o kind zero c w m = None
wide_from o kind (suc n) c w m = elim (step o kind c w) [
  | Reach place ↦ produced_here o n c w m
  | Fault code handler ↦ produced_here o n c w m
  | Go next g i ↦ option_or (wide_from o kind n (slot_at o g i) next (m + header_count c + 1)) (produced_here o n c w m)
]

-- the same by the first step
abbrev pub wide_after : Items → Kind → ℕ → Capability → At → ℕ → Step → Option Produced
wide_after o kind n c w m (Reach place) = produced_here o n c w m
wide_after o kind n c w m (Fault code handler) = produced_here o n c w m
wide_after o kind n c w m (Go next g i) =
    option_or (wide_from o kind n (slot_at o g i) next (m + header_count c + 1)) (produced_here o n c w m)

pub wide-suc : (o : Items) (kind : Kind) (n : ℕ) (c : Capability) (w : At) (m : ℕ) → wide_from o kind (suc n) c w m ≡ wide_after o kind n c w m (step o kind c w)
unfolding wide_from
wide-suc o kind n c w m = on (step o kind c w)
  where
    on : (s : Step) → ◌≡◌ {A = Option Produced} (elim s [
      | Reach place ↦ produced_here o n c w m
      | Fault code handler ↦ produced_here o n c w m
      | Go next g i ↦ option_or (wide_from o kind n (slot_at o g i) next (m + header_count c + 1)) (produced_here o n c w m)
    ]) (wide_after o kind n c w m s)
    on (Reach place) = refl
    on (Fault code handler) = refl
    on (Go next g i) = refl

pub wide-zero : (o : Items) (kind : Kind) (c : Capability) (w : At) (m : ℕ) → ◌≡◌ {A = Option Produced} (wide_from o kind zero c w m) None
unfolding wide_from
wide-zero o kind c w m = refl

-- ---- where a smaller size was passed, no walks join

last_false : (a b c : Bool) → c ≡ false → (a && (b && c)) ≡ false
last_false true true c e = e
last_false true false c e = refl
last_false false b c e = refl

less_than_region : (l : ℕ) → l < 22 → nat_le 22 l ≡ false
less_than_region l less = grind (arith, nat_tests, less)

here-narrow : (o : Items) (n : ℕ) (c : Capability) (w : At) (m : ℕ) → (past c w).l2 < 22 → ◌≡◌ {A = Option Produced} (produced_here o n c w m) None
here-narrow o n c w m less =
    ap (λ (b : Bool). if b then Some (record { producer = producer_at o n c w; before = m }) else None)
    (last_false (is_gpt c.kind) (passes c.guard w.address) (nat_le 22 (past c w).l2) (less_than_region (past c w).l2 less))

-- a step that goes on does not pass a larger size than the guard
way-past : (o : Items) (c : Capability) (w next : At) (g i : ℕ) → Way o c (past c w) next g i → next.l2 ≤ (past c w).l2
way-past o c w next g i (BySlot k object index free into) = subst (λ (t : At). t.l2 ≤ (past c w).l2) into (omega arith)
way-past o c w next g i (ByWindow k back index through) = subst (λ (t : At). t.l2 ≤ (past c w).l2) through (omega arith)
way-past o c w next g i (ByLocal k hold index free through) = subst (λ (t : At). t.l2 ≤ (past c w).l2) through (omega arith)

goes-past : (o : Items) (kind : Kind) (c : Capability) (w next : At) (g i : ℕ) → step o kind c w ≡ Go next g i → next.l2 ≤ (past c w).l2
goes-past o kind c w next g i steps = way-past o c w next g i (gone o next g i c kind w steps).way

or-none : (x y : Option Produced) → x ≡ None → option_or x y ≡ y
or-none None y e = refl
or-none (Some d) y e = absurd (cc)

pub wide-narrow : (o : Items) (kind : Kind) (n : ℕ) (c : Capability) (w : At) (m : ℕ) → (past c w).l2 < 22 → ◌≡◌ {A = Option Produced} (wide_from o kind n c w m) None
wide-narrow o kind zero c w m less = wide-zero o kind c w m
wide-narrow o kind (suc n) c w m less = wide-suc o kind n c w m ∙ on (step o kind c w) refl (wide-narrow o kind n)
  where
    on : (s : Step) → step o kind c w ≡ s → ((d : Capability) (v : At) (k : ℕ) → (past d v).l2 < 22 → ◌≡◌ {A = Option Produced} (wide_from o kind n d v k) None)
        → ◌≡◌ {A = Option Produced} (wide_after o kind n c w m s) None
    on (Reach place) steps ih = here-narrow o n c w m less
    on (Fault code handler) steps ih = here-narrow o n c w m less
    on (Go next g i) steps ih =
        let smaller : (past (slot_at o g i) next).l2 < 22 = let below = goes-past o kind c w next g i steps in omega (arith, below, less) in
        or-none (wide_from o kind n (slot_at o g i) next (m + header_count c + 1)) (produced_here o n c w m) (ih (slot_at o g i) next (m + header_count c + 1) smaller)
        ∙ here-narrow o n c w m less

-- ---- another address of the region, and another kind

-- the same producer is here at an address that is alike
here-alike : (o : Items) (n : ℕ) (c : Capability) (w : At) (y m : ℕ) → 22 ≤ (past c w).l2 → Alike 22 w.address y → produced_here o n c w m ≡ produced_here o n c (at w y) m
here-alike o n c w y m wide alike = λ i. if is_gpt c.kind && (guards i && nat_le 22 (past c w).l2) then Some (record { producer = keys i; before = m }) else None
  where
    guard : 22 ≤ c.guard.l2g
    guard = omega (arith, wide)

    guards : passes c.guard w.address ≡ passes c.guard y
    guards = ap (λ (q : ℕ). q == c.guard.matches) (alike-above 22 c.guard.l2g w.address y guard alike)

    tops : (past c w).address / 2 ^ 22 ≡ (past c (at w y)).address / 2 ^ 22
    tops = alike-mod 22 c.guard.l2g w.address y guard alike

    keys : producer_at o n c w ≡ producer_at o n c (at w y)
    keys = ap (λ (t : ℕ). record { gpt = c.object; age = count_of o Gpt c.object; top = t; restr = (past c w).restr; background = aged o w.background; left = n }) tops

-- a step goes on with sizes of a region or more, or no walks join behind it
data Goes (o : Items) (kind : Kind) (n : ℕ) (c : Capability) (w : At) (m : ℕ) : Type 0 where
  Wide : (next : At) (g i : ℕ) → step o kind c w ≡ Go next g i → 22 ≤ next.l2 → Goes o kind n c w m
  Ends : wide_from o kind (suc n) c w m ≡ produced_here o n c w m → Goes o kind n c w m

goes : (o : Items) (kind : Kind) (n : ℕ) (c : Capability) (w : At) (m : ℕ) → Goes o kind n c w m
goes o kind n c w m = on (step o kind c w) refl
  where
    on : (s : Step) → step o kind c w ≡ s → Goes o kind n c w m
    on (Reach place) steps = Ends (wide-suc o kind n c w m ∙ ap (wide_after o kind n c w m) steps)
    on (Fault code handler) steps = Ends (wide-suc o kind n c w m ∙ ap (wide_after o kind n c w m) steps)
    on (Go next g i) steps = elim (cases_lt next.l2 22) [
      | inl less ↦ Ends (
          wide-suc o kind n c w m
          ∙ (ap (wide_after o kind n c w m) steps
          ∙ or-none (wide_from o kind n (slot_at o g i) next (m + header_count c + 1)) (produced_here o n c w m)
          (wide-narrow o kind n (slot_at o g i) next (m + header_count c + 1) (omega (arith, less))))
          )
      | inr more ↦ Wide next g i steps more
    ]

module _ (o : Items) (ranged : IsRanged o) (j k : Kind) where
  abbrev Rest : ℕ → Type 0
  Rest n = (c : Capability) (w : At) (y m : ℕ) → IsCapability c → Alike 22 w.address y → wide_from o j n c w m ≡ wide_from o k n c (at w y) m

  region_go : (n : ℕ) → Rest n → (c : Capability) (w next : At) (y z g i m : ℕ) → 22 ≤ (past c w).l2 → Alike 22 w.address y
      → step o j c w ≡ Go next g i → step o k c (at w y) ≡ Go (at next z) g i → Alike 22 next.address z
      → wide_from o j (suc n) c w m ≡ wide_from o k (suc n) c (at w y) m
  region_go n ih c w next y z g i m wide alike steps along further =
      let rest = ih (slot_at o g i) next z (m + header_count c + 1) (IsCapability-slot_at o ranged g i) further in
      wide-suc o j n c w m
      ∙ (ap (wide_after o j n c w m) steps
      ∙ (ap (λ (d : Option Produced). option_or d (produced_here o n c w m)) rest
      ∙ (ap (option_or (wide_from o k n (slot_at o g i) (at next z) (m + header_count c + 1))) (here-alike o n c w y m wide alike)
      ∙ (sym (ap (wide_after o k n c (at w y) m) along) ∙ sym (wide-suc o k n c (at w y) m)))))

  region_wide : (n : ℕ) → Rest n → (c : Capability) (w : At) (y m : ℕ) → IsCapability c → Alike 22 w.address y → 22 ≤ (past c w).l2
      → wide_from o j (suc n) c w m ≡ wide_from o k (suc n) c (at w y) m
  region_wide n ih c w y m is alike wide = on (goes o j n c w m) (goes o k n c (at w y) m)
    where
      on : Goes o j n c w m → Goes o k n c (at w y) m → wide_from o j (suc n) c w m ≡ wide_from o k (suc n) c (at w y) m
      on (Wide next g i steps more) second =
          let along = goes_along 22 (omega arith) o k c is w y alike j next g i steps more in
          region_go n ih c w next y along.z g i m wide alike steps along.steps along.alike
      on (Ends e) (Wide next g i steps more) =
          let back = goes_along 22 (omega arith) o j c is (at w y) w.address (sym alike) k next g i steps more in
          region_go n ih c w (at next back.z) y next.address g i m wide alike back.steps steps (sym back.alike)
      on (Ends e) (Ends f) = e ∙ (here-alike o n c w y m wide alike ∙ sym f)

  -- the last producer is the same
  pub wide-region : (n : ℕ) → Rest n
  wide-region zero c w y m is alike = wide-zero o j c w m ∙ sym (wide-zero o k c (at w y) m)
  wide-region (suc n) c w y m is alike = elim (cases_lt (past c w).l2 22) [
    | inl less ↦ wide-narrow o j (suc n) c w m less ∙ sym (wide-narrow o k (suc n) c (at w y) m less)
    | inr wide ↦ region_wide n (wide-region n) c w y m is alike wide
  ]

-- ---- another handler, and other sizes of a region or more

module _ (o : Items) (kind : Kind) where
  same_size : (a b g : ℕ) → min a 22 ≡ min b 22 → nat_le 22 (min a g) ≡ nat_le 22 (min b g)
  same_size a b g e = grind (arith, nat_tests, e)

  here-stripped : (n : ℕ) (c : Capability) (w v : At) (m : ℕ) → strip_at w ≡ strip_at v → produced_here o n c w m ≡ produced_here o n c v m
  here-stripped n c w v m same = λ i. if is_gpt c.kind && (passes c.guard (same i).address && sizes i) then Some (record {
    producer = record {
      gpt = c.object;
      age = count_of o Gpt c.object;
      top = (same i).address % 2 ^ c.guard.l2g / 2 ^ 22;
      restr = (past c (same i)).restr;
      background = aged o (same i).background;
      left = n;
    };
    before = m;
  }) else None
    where
      sizes : nat_le 22 (min w.l2 c.guard.l2g) ≡ nat_le 22 (min v.l2 c.guard.l2g)
      sizes = same_size w.l2 v.l2 c.guard.l2g (ap (λ (u : At). u.l2) same)

  abbrev Stripped : ℕ → Type 0
  Stripped n = (c : Capability) (w v : At) (m : ℕ) → strip_at w ≡ strip_at v → wide_from o kind n c w m ≡ wide_from o kind n c v m

  after-stripped : (n : ℕ) → Stripped n → (c d : Capability) (w v : At) (m : ℕ) → produced_here o n c w m ≡ produced_here o n d v m → header_count c ≡ header_count d
      → (s t : Step) → strip s ≡ strip t → wide_after o kind n c w m s ≡ wide_after o kind n d v m t
  after-stripped n ih c d w v m heres counts (Reach p) (Reach q) e = heres
  after-stripped n ih c d w v m heres counts (Reach p) (Fault y k) e = heres
  after-stripped n ih c d w v m heres counts (Fault x h) (Reach q) e = heres
  after-stripped n ih c d w v m heres counts (Fault x h) (Fault y k) e = heres
  after-stripped n ih c d w v m heres counts (Go next g i) (Go other f j) e =
      let states : strip_at next ≡ strip_at other = cc (e) in
      let gpts : g ≡ f = cc (e) in
      let slots : i ≡ j = cc (e) in
      let rest = ih (slot_at o g i) next other (m + header_count c + 1) states in
      let there : slot_at o g i ≡ slot_at o f j = ap (λ (x : ℕ). slot_at o x i) gpts ∙ ap (λ (x : ℕ). slot_at o f x) slots in
      ap (λ (x : Option Produced). option_or x (produced_here o n c w m))
      (rest ∙ (ap (λ (b : Capability). wide_from o kind n b other (m + header_count c + 1)) there ∙ ap (λ (x : ℕ). wide_from o kind n (slot_at o f j) other (m + x + 1)) counts))
      ∙ ap (option_or (wide_from o kind n (slot_at o f j) other (m + header_count d + 1))) heres
  after-stripped n ih c d w v m heres counts (Reach p) (Go other f j) e = absurd (cc (e))
  after-stripped n ih c d w v m heres counts (Fault x h) (Go other f j) e = absurd (cc (e))
  after-stripped n ih c d w v m heres counts (Go next g i) (Reach q) e = absurd (cc (e))
  after-stripped n ih c d w v m heres counts (Go next g i) (Fault y k) e = absurd (cc (e))

  pub wide-stripped : (n : ℕ) → Stripped n
  wide-stripped zero c w v m same = wide-zero o kind c w m ∙ sym (wide-zero o kind c v m)
  wide-stripped (suc n) c w v m same =
      wide-suc o kind n c w m
      ∙ (after-stripped n (wide-stripped n) c c w v m (here-stripped n c w v m same) refl (step o kind c w) (step o kind c v) (step-stripped o kind c w v same)
      ∙ sym (wide-suc o kind n c v m))

  -- two first steps that are the same
  pub wide-first : (n : ℕ) (c d : Capability) (w v : At) (m : ℕ) → produced_here o n c w m ≡ produced_here o n d v m → header_count c ≡ header_count d
      → strip (step o kind c w) ≡ strip (step o kind d v) → wide_from o kind (suc n) c w m ≡ wide_from o kind (suc n) d v m
  wide-first n c d w v m heres counts steps =
      wide-suc o kind n c w m
      ∙ (after-stripped n (wide-stripped n) c d w v m heres counts (step o kind c w) (step o kind d v) steps ∙ sym (wide-suc o kind n d v m))

-- ---- so many reads more

-- a producer behind t reads more
abbrev pub behind_more : ℕ → Option Produced → Option Produced
behind_more t None = None
behind_more t (Some d) = Some (record { producer = d.producer; before = d.before + t })

or-more : (t : ℕ) (x y : Option Produced) → behind_more t (option_or x y) ≡ option_or (behind_more t x) (behind_more t y)
or-more t None y = refl
or-more t (Some d) y = refl

here-more : (o : Items) (n : ℕ) (c : Capability) (w : At) (m t : ℕ) → produced_here o n c w (m + t) ≡ behind_more t (produced_here o n c w m)
here-more o n c w m t = on (joins c w)
  where
    on : (b : Bool) → (if b then Some (record { producer = producer_at o n c w; before = m + t }) else None) ≡ behind_more t (if b then Some (record { producer = producer_at o n c w; before = m }) else None)
    on true = refl
    on false = refl

pub wide-more : (o : Items) (kind : Kind) (n : ℕ) (c : Capability) (w : At) (m t : ℕ) → wide_from o kind n c w (m + t) ≡ behind_more t (wide_from o kind n c w m)
wide-more o kind zero c w m t = wide-zero o kind c w (m + t) ∙ sym (ap (behind_more t) (wide-zero o kind c w m))
wide-more o kind (suc n) c w m t =
    wide-suc o kind n c w (m + t) ∙ (on (step o kind c w) (wide-more o kind n) ∙ sym (ap (behind_more t) (wide-suc o kind n c w m)))
  where
    on : (s : Step) → ((d : Capability) (v : At) (m t : ℕ) → wide_from o kind n d v (m + t) ≡ behind_more t (wide_from o kind n d v m))
        → wide_after o kind n c w (m + t) s ≡ behind_more t (wide_after o kind n c w m s)
    on (Reach place) ih = here-more o n c w m t
    on (Fault code handler) ih = here-more o n c w m t
    on (Go next g i) ih =
        let order : m + t + header_count c + 1 ≡ m + header_count c + 1 + t = omega arith in
        ap (λ (x : ℕ). option_or (wide_from o kind n (slot_at o g i) next x) (produced_here o n c w (m + t))) order
        ∙ (ap (λ (x : Option Produced). option_or x (produced_here o n c w (m + t))) (ih (slot_at o g i) next (m + header_count c + 1) t)
        ∙ (ap (option_or (behind_more t (wide_from o kind n (slot_at o g i) next (m + header_count c + 1)))) (here-more o n c w m t)
        ∙ sym (or-more t (wide_from o kind n (slot_at o g i) next (m + header_count c + 1)) (produced_here o n c w m))))

-- ---- where the walk reaches, it is the last point's

or-whole : (x : Option Produced) → option_or x None ≡ x
or-whole None = refl
or-whole (Some d) = refl

module _ (o : Items) (kind : Kind) (a : ℕ) (place : Place) where
  -- a page is no producer
  ends-here : (n : ℕ) (c : Capability) (w : At) (m : ℕ) → Serves c.kind kind → ◌≡◌ {A = Option Produced} (produced_here o n c w m) None
  ends-here n c w m (inl page) = ap (λ (k : CapKind). if is_gpt k && (passes c.guard w.address && nat_le 22 (past c w).l2) then Some (record { producer = producer_at o n c w; before = m }) else None) page.0
  ends-here n c w m (inr page) = ap (λ (k : CapKind). if is_gpt k && (passes c.guard w.address && nat_le 22 (past c w).l2) then Some (record { producer = producer_at o n c w; before = m }) else None) page.0

  of-here : (n : ℕ) (c : Capability) (w : At) (reads : List Noted) → produced_by o (here n c w reads) ≡ produced_here o n c w (length reads)
  of-here n c w reads = on (joins c w)
    where
      on : (b : Bool) → produced_by o (if b then Some (record { left = n; cap = c; at = w; before = reads }) else None)
          ≡ (if b then Some (record { producer = producer_at o n c w; before = length reads }) else None)
      on true = refl
      on false = refl

  length-made : (c : Capability) (l : ℕ) (reads : List Noted) (one : Noted) → length ((reads ++ header_noted c a l) ++ one ∷ []) ≡ length reads + header_count c + 1
  length-made c l reads one = on (is_counted c.kind)
    where
      on : (b : Bool) → length ((reads ++ (if b then noted (Header (object_kind c.kind) c.object) a l ∷ [] else [])) ++ one ∷ []) ≡ length reads + (if b then 1 else 0) + 1
      on true = omega (arith, length-append (reads ++ noted (Header (object_kind c.kind) c.object) a l ∷ []) (one ∷ []), length-append reads (noted (Header (object_kind c.kind) c.object) a l ∷ []))
      on false = omega (arith, length-append (reads ++ []) (one ∷ []), ap (λ (t : List Noted). length t) (append-nil reads))

  pub wide-last : (n : ℕ) (c : Capability) (w : At) (reads : List Noted) → walk o kind n c w ≡ Ok place → wide_from o kind n c w (length reads) ≡ produced_by o (last_join o kind a n c w reads)
  wide-last zero c w reads reach = wide-zero o kind c w (length reads) ∙ sym (ap (produced_by o) (last_join-zero o kind a c w reads))
  wide-last (suc n) c w reads reach =
      wide-suc o kind n c w (length reads) ∙ on (step o kind c w) refl (sym (walk-suc o kind n c w) ∙ reach) (wide-last n)
    where
      on : (s : Step) → step o kind c w ≡ s → walk_after o kind n s ≡ Ok place
          → ((d : Capability) (v : At) (made : List Noted) → walk o kind n d v ≡ Ok place → wide_from o kind n d v (length made) ≡ produced_by o (last_join o kind a n d v made))
          → wide_after o kind n c w (length reads) s ≡ produced_by o (last_join o kind a (suc n) c w reads)
      on (Reach p) steps reach ih =
          ends-here n c w (length reads) (reached kind p o c w steps).serves
          ∙ sym (ap (produced_by o) (join-ends o kind a (suc n) n c w reads p refl steps))
      on (Fault code handler) steps reach ih = absurd (cc (reach))
      on (Go next g i) steps reach ih =
          let made : List Noted = (reads ++ header_noted c a w.l2) ++ noted (Slot g i) a next.l2 ∷ [] in
          ap (λ (x : ℕ). option_or (wide_from o kind n (slot_at o g i) next x) (produced_here o n c w (length reads))) (sym (length-made c w.l2 reads (noted (Slot g i) a next.l2)))
          ∙ (ap (λ (x : Option Produced). option_or x (produced_here o n c w (length reads))) (ih (slot_at o g i) next made reach)
          ∙ (ap (option_or (produced_by o (last_join o kind a n (slot_at o g i) next made))) (sym (of-here n c w reads) ∙ sym (or-whole (produced_by o (here n c w reads))))
          ∙ (sym (or-produced o (last_join o kind a n (slot_at o g i) next made) (here n c w reads) None)
          ∙ (or-whole (produced_by o (option_or (last_join o kind a n (slot_at o g i) next made) (here n c w reads)))
          ∙ sym (ap (produced_by o) (join-goes o kind a (suc n) n c w reads next g i refl steps))))))

-- ---- from a point on

module _ (o : Items) (kind : Kind) (a : ℕ) (p : Point) where
  -- the last producer from a point on is that of the whole walk
  pub wide-meets : (n : ℕ) (c : Capability) (w : At) (m : ℕ) (reads : List Noted) (d : Produced) → Meets o kind a n c w p reads
      → wide_from o kind (suc p.left) p.cap p.at (m + length reads) ≡ Some d → wide_from o kind n c w m ≡ Some d
  wide-meets zero c w m reads d meets last = absurd (Meets-zero o kind a p c w reads meets)
  wide-meets (suc n) c w m reads d meets last = on (Meets-suc o kind a p n c w reads meets) (wide-meets n)
    where
      on : Onward o kind a p n c w reads
          → ((b : Capability) (v : At) (k : ℕ) (rest : List Noted) (d : Produced) → Meets o kind a n b v p rest → wide_from o kind (suc p.left) p.cap p.at (k + length rest) ≡ Some d → wide_from o kind n b v k ≡ Some d)
          → wide_from o kind (suc n) c w m ≡ Some d
      on (inl is) ih =
          let none : m + length reads ≡ m = ap (λ (t : List Noted). m + length t) is.none ∙ omega arith in
          (λ i. wide_from o kind (suc (sym is.left i)) (sym is.cap i) (sym is.at i) (sym none i)) ∙ last
      on (inr go) ih =
          let first : List Noted = header_noted c a w.l2 in
          let count : length reads ≡ header_count c + 1 + length go.rest =
          ap length go.reads_are ∙ counts (is_counted c.kind) go.rest (noted (Slot go.gpt go.slot) a go.next.l2) in
          let order : m + header_count c + 1 + length go.rest ≡ m + length reads = omega (arith, count) in
          let rest = ih (slot_at o go.gpt go.slot) go.next (m + header_count c + 1) go.rest d go.further (ap (wide_from o kind (suc p.left) p.cap p.at) order ∙ last) in
          wide-suc o kind n c w m
          ∙ (ap (wide_after o kind n c w m) go.steps ∙ ap (λ (x : Option Produced). option_or x (produced_here o n c w m)) rest)
        where
          counts : (b : Bool) (rest : List Noted) (one : Noted) → length ((if b then noted (Header (object_kind c.kind) c.object) a w.l2 ∷ [] else []) ++ one ∷ rest) ≡ (if b then 1 else 0) + 1 + length rest
          counts true rest one = omega arith
          counts false rest one = omega arith

  -- from a point where walks join there is one
  pub wide-some : (m : ℕ) → joins p.cap p.at ≡ true → (d : Produced) × (wide_from o kind (suc p.left) p.cap p.at m ≡ Some d)
  wide-some m is = let at = on (step o kind p.cap p.at) in (at.0, wide-suc o kind p.left p.cap p.at m ∙ at.1)
    where
      own : Produced
      own = record { producer = producer_at o p.left p.cap p.at; before = m }

      here_is : produced_here o p.left p.cap p.at m ≡ Some own
      here_is = ap (λ (b : Bool). if b then Some (record { producer = producer_at o p.left p.cap p.at; before = m }) else None) is

      or-some : (x y : Option Produced) (e : Produced) → y ≡ Some e → (d : Produced) × (option_or x y ≡ Some d)
      or-some None y e is = (e, is)
      or-some (Some d) y e is = (d, refl)

      on : (s : Step) → (d : Produced) × (wide_after o kind p.left p.cap p.at m s ≡ Some d)
      on (Reach place) = (own, here_is)
      on (Fault code handler) = (own, here_is)
      on (Go next g i) = or-some (wide_from o kind p.left (slot_at o g i) next (m + header_count p.cap + 1)) (produced_here o p.left p.cap p.at m) own here_is

-- a GPT's capability that is passed at a size of a region or more joins
pub joins-passed : (p : Point) → PassesAt p → joins p.cap p.at ≡ true
joins-passed p there = rw there.kind (both (passes p.cap.guard p.at.address) (nat_le 22 (past p.cap p.at).l2) passed (at_least (past p.cap p.at).l2 there.wide))
  where
    both : (x y : Bool) → x ≡ true → y ≡ true → (x && y) ≡ true
    both true y e f = f
    both false y e f = e

    at_least : (l : ℕ) → 22 ≤ l → nat_le 22 l ≡ true
    at_least l wide = grind (arith, nat_tests, wide)

    second : (x y : Bool) → (x && y) ≡ true → y ≡ true
    second true y e = e
    second false y e = absurd (cc)

    passed : passes p.cap.guard p.at.address ≡ true
    passed = second _ (passes p.cap.guard p.at.address) there.passed

-- ---- two maps

module _ (x : Item) (o q : Items) (same : Agree x o q) (kind : Kind) (a : ℕ) (place : Place) where
  own_apart : (c : Capability) → c.kind ≡ Gpt → NamesAnother x c → Header Gpt c.object ≢ x
  own_apart c k another = let counted : is_counted c.kind ≡ true = rw k refl in rw k at (another counted)

  background-same : (b : Option ℕ) → Apart x b → aged q b ≡ aged o b
  background-same None apart = refl
  background-same (Some g) apart = ap (λ (n : ℕ). Some (record { gpt = g; age = n })) (sym (same.counts Gpt g apart))

  here-same : (n : ℕ) (c : Capability) (w : At) (m : ℕ) → NamesAnother x c → Apart x w.background → produced_here q n c w m ≡ produced_here o n c w m
  here-same n c w m another back = on c.kind refl
    where
      on : (k : CapKind) → c.kind ≡ k
          → ◌≡◌ {A = Option Produced} (if is_gpt k && (passes c.guard w.address && nat_le 22 (past c w).l2) then Some (record { producer = producer_at q n c w; before = m }) else None)
          (if is_gpt k && (passes c.guard w.address && nat_le 22 (past c w).l2) then Some (record { producer = producer_at o n c w; before = m }) else None)
      on Gpt is =
          let age : count_of q Gpt c.object ≡ count_of o Gpt c.object = sym (same.counts Gpt c.object (own_apart c is another)) in
          let back_is : aged q w.background ≡ aged o w.background = background-same w.background back in
          let keys : producer_at q n c w ≡ producer_at o n c w = λ i. record {
            gpt = c.object;
            age = age i;
            top = (past c w).address / 2 ^ 22;
            restr = (past c w).restr;
            background = back_is i;
            left = n;
          } in
          let with : Producer → Option Produced = λ p. if passes c.guard w.address && nat_le 22 (past c w).l2 then Some (record { producer = p; before = m }) else None in
          ap with keys
      on _ is = refl

  abbrev Framed : ℕ → Type 0
  Framed n = (c : Capability) (w : At) (m : ℕ) → Apart x w.holding → Apart x w.background → walk o kind n c w ≡ Ok place → Unread x (trail_from o kind a n c w)
      → wide_from q kind n c w m ≡ wide_from o kind n c w m

  -- a walk that reaches from a capability that names the item's object reads the item
  named_reads : (n : ℕ) (c : Capability) (w : At) → NamesItem x c → walk o kind n c w ≡ Ok place → Unread x (trail_from o kind a n c w) → ⊥
  named_reads zero c w names reach unread = let e : ◌≡◌ {A = Result Place WalkFault} (Err (fault o MalformedSpace w.handler)) (Ok place) = sym (walk-zero o kind c w) ∙ reach in cc
  named_reads (suc n) c w names reach unread =
      let parts = unread-append x (header_noted c a w.l2) (trail_after o kind a n (step o kind c w)) (subst (Unread x) (trail_from-suc o kind a n c w) unread) in
      header_unread x c a w.l2 parts.0 names.0 names.1

  framed_go : (n : ℕ) → Framed n → (c : Capability) (w next : At) (g i m : ℕ) → Apart x (Some g) → Apart x next.holding → Apart x next.background
      → walk o kind n (slot_at o g i) next ≡ Ok place → Slot g i ≢ x → Unread x (trail_from o kind a n (slot_at o g i) next)
      → wide_from q kind n (slot_at q g i) next m ≡ wide_from o kind n (slot_at o g i) next m
  framed_go n ih c w next g i m there hold back reach other unread = elim (same.slots g i there other) [
    | inl e ↦ ap (λ (d : Capability). wide_from q kind n d next m) (sym e) ∙ ih (slot_at o g i) next m hold back reach unread
    | inr e ↦ elim e [
      | inl names ↦ absurd (named_reads n (slot_at o g i) next names reach unread)
      | inr nothing ↦ absurd (null_stops o kind n next place (rw nothing at reach))
    ]
  ]

  -- a walk that reaches and reads no item in which two maps may differ has the same producer in both
  pub wide-framed : (n : ℕ) → Framed n
  wide-framed zero c w m hold back reach unread = wide-zero q kind c w m ∙ sym (wide-zero o kind c w m)
  wide-framed (suc n) c w m hold back reach unread =
      wide-suc q kind n c w m
      ∙ (ap (wide_after q kind n c w m) (sym one)
      ∙ (on (step o kind c w) (goes_apart x o kind c w another hold back (step o kind c w) refl) (sym (walk-suc o kind n c w) ∙ reach) parts.1 (wide-framed n)
      ∙ sym (wide-suc o kind n c w m)))
    where
      parts : Unread x (header_noted c a w.l2) × Unread x (trail_after o kind a n (step o kind c w))
      parts = unread-append x (header_noted c a w.l2) (trail_after o kind a n (step o kind c w)) (subst (Unread x) (trail_from-suc o kind a n c w) unread)

      another : NamesAnother x c
      another = header_unread x c a w.l2 parts.0

      one : step o kind c w ≡ step q kind c w
      one = step-headers o q kind c w (λ k. same.headers c.object (own_apart c k another)) (λ g e. same.headers g (subst (Apart x) e hold))

      here_is : produced_here q n c w m ≡ produced_here o n c w m
      here_is = here-same n c w m another back

      on : (s : Step) → GoesApart x s → walk_after o kind n s ≡ Ok place → Unread x (trail_after o kind a n s) → Framed n → wide_after q kind n c w m s ≡ wide_after o kind n c w m s
      on (Reach p) apart reach unread ih = here_is
      on (Fault code handler) apart reach unread ih = here_is
      on (Go next g i) apart reach unread ih =
          ap (λ (d : Option Produced). option_or d (produced_here q n c w m)) (framed_go n ih c w next g i (m + header_count c + 1) apart.0 apart.1 apart.2 reach unread.0 unread.1)
          ∙ ap (option_or (wide_from o kind n (slot_at o g i) next (m + header_count c + 1))) here_is
