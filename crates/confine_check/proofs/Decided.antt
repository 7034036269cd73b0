-- A verdict is Yes exactly where the cut holds.
use Rattle.std.proofs.Common.{◌≡◌, ℕ, zero, suc, ◌+◌, ◌<◌, ◌≤◌, ◌⊎◌, inl, inr, Bool, true, false, not, ◌&&◌, ◌||◌, if◌then◌else◌, List, [], ◌∷◌, length, get_or, Option, Some, None, refl, sym, ◌∙◌, ap, subst, arith}
use Rattle.std.specs.Option.{option_or}
use Rattle.std.proofs.lemmas.Bool.{cases_lt, and_from, and_parts, or_cases, or_left, or_right}
use Rattle.std.proofs.lemmas.List.{get_or_past}
use Rattle.cap_format.specs.declared.kind.CapKind.{CapKind}
use Rattle.cap_format.specs.declared.kind.CapKind.TheVariants.{Null, Page, CapPage, Gpt, Window, LocalWindow, Endpoint, Entry, Process, Schedule, Range, Discrim, KernLog, SysCtl}
use Rattle.cap_format.specs.Kind.{is_counted, object_kind}
use Rattle.cap_format.specs.Capability.{Capability, null, bare}
use Rattle.cap_format.specs.Weakening.{is_harmless}
use Rattle.confinement.specs.declared.cut_side.CutSide.{CutSide}
use Rattle.confinement.specs.Cut.{Cut, IsClosed, side_of, same_side, NamesOwn, MayCross, MayCall, MayHold, EachMayHold, AllOn, SleepApart}
use Rattle.object_store.specs.Store.{Store, Items, size_of}
use Rattle.schedules.specs.Queues.{QueuesValue, sleepers_of}
use Rattle.object_store.specs.Meaning.{is_live, live, meaning, state_map}
use Rattle.confine_check.specs.declared.verdict.Breach.{Breach}
use Rattle.confine_check.specs.declared.verdict.Verdict.TheVariants.{Yes}
use Rattle.object_store.specs.Places.{places_in, cap_in}
use Rattle.confine_check.specs.Breach.{first_from, is_range, is_sysctl, is_kernlog, may_share, may_hold, breach_at, breach_of_object, breach_of_kind, breach_of, found_by, across_at, least_on, sleeper_of}
use Rattle.confine_check.specs.Full.{AreFull}
use Rattle.confinement.proofs.Own.{uncalled}
use Rattle.confinement.proofs.Held.{may-null}
use Rattle.confinement.proofs.Sides.{same_side-tells, same_side-true}
use Rattle.confine_check.proofs.Holding.{AllHave, each-has, has-all}
use Rattle.confine_check.proofs.First.{first_zero, first_suc}
use Rattle.confine_check.proofs.Least.{least-each, each-least}
use Rattle.confine_check.specs.Laws.{VerdictLaw}

-- ---- one capability

pub is_range-kind : (k : CapKind) → is_range k ≡ true → k ≡ Range
is_range-kind Range e = refl
is_range-kind Null e = absurd (cc (e))
is_range-kind Page e = absurd (cc (e))
is_range-kind CapPage e = absurd (cc (e))
is_range-kind Gpt e = absurd (cc (e))
is_range-kind Window e = absurd (cc (e))
is_range-kind LocalWindow e = absurd (cc (e))
is_range-kind Endpoint e = absurd (cc (e))
is_range-kind Entry e = absurd (cc (e))
is_range-kind Process e = absurd (cc (e))
is_range-kind Schedule e = absurd (cc (e))
is_range-kind Discrim e = absurd (cc (e))
is_range-kind KernLog e = absurd (cc (e))
is_range-kind SysCtl e = absurd (cc (e))

-- SysCtl and KernLog are told by the tests
is_sysctl-kind : (k : CapKind) → is_sysctl k ≡ true → k ≡ SysCtl
is_sysctl-kind SysCtl e = refl
is_sysctl-kind _ e = absurd (cc (e))

is_kernlog-kind : (k : CapKind) → is_kernlog k ≡ true → k ≡ KernLog
is_kernlog-kind KernLog e = refl
is_kernlog-kind _ e = absurd (cc (e))

-- what is wanted of those for which a test says true
wanted : (may is : Bool) → (may || not is) ≡ true → is ≡ true → may ≡ true
wanted may true e h = elim (or_cases may false e) [ inl here ↦ here | inr other ↦ absurd (cc (other)) ]
wanted may false e h = absurd (cc (h))

meets : (may is : Bool) → (is ≡ true → may ≡ true) → (may || not is) ≡ true
meets may true if_so = or_left may false (if_so refl)
meets may false if_so = or_right may true refl

module _ (cut : Cut) (side : CutSide) (c : Capability) where
  -- the test, by its five answers
  abbrev tested : Bool → Bool → Bool → Bool → Bool → Bool
  tested range share counted own cross = if range then false else (if share then (if counted then own || cross else true) else false)

  -- of a kind that may be held, and naming what may be named
  held-by : is_range c.kind ≡ false → may_share cut side c.kind ≡ true → NamesOwn cut side c ⊎ (MayCross cut side c ⊎ MayCall cut side c) → MayHold cut side c
  held-by r s own =
      let both = and_parts (cut.halts side || not (is_sysctl c.kind)) (cut.logs side || not (is_kernlog c.kind)) s in
      record {
        no_range = λ k. let h = sym r ∙ ap (λ (j : CapKind). is_range j) k in cc;
        halting = λ k. wanted (cut.halts side) (is_sysctl c.kind) both.0 (ap is_sysctl k);
        logging = λ k. wanted (cut.logs side) (is_kernlog c.kind) both.1 (ap is_kernlog k);
        own = own;
      }

  says : (range share counted own cross : Bool) → is_range c.kind ≡ range → may_share cut side c.kind ≡ share → is_counted c.kind ≡ counted
      → same_side (side_of cut (object_kind c.kind) c.object) side ≡ own → (cut.weakly side && is_harmless c) ≡ cross
      → tested range share counted own cross ≡ true → MayHold cut side c
  says true share counted own cross r s n o x e = absurd (cc (e))
  says false false counted own cross r s n o x e = absurd (cc (e))
  says false true false own cross r s n o x e = held-by r s (inl (λ h. let f = sym n ∙ h in absurd (cc (f))))
  says false true true true cross r s n o x e = held-by r s (inl (λ h. same_side-tells _ _ o))
  says false true true false true r s n o x e = held-by r s (inr (inl (let p = and_parts _ _ x in (p.0, p.1))))
  says false true true false false r s n o x e = absurd (cc (e))

  -- what passes the test may be held
  pub may_hold-says : may_hold cut side c ≡ true → MayHold cut side c
  may_hold-says e = says (is_range c.kind) (may_share cut side c.kind) (is_counted c.kind) (same_side (side_of cut (object_kind c.kind) c.object) side) (cut.weakly side && is_harmless c) refl refl refl refl refl e

  both_true : (a b : Bool) → a ≡ true → b ≡ true → (a && b) ≡ true
  both_true true true e f = refl
  both_true true false e f = absurd (cc (f))
  both_true false b e f = absurd (cc (e))

  share-held : MayHold cut side c → may_share cut side c.kind ≡ true
  share-held m = and_from _ _
      (meets (cut.halts side) (is_sysctl c.kind) (λ e. m.halting (is_sysctl-kind c.kind e)))
      (meets (cut.logs side) (is_kernlog c.kind) (λ e. m.logging (is_kernlog-kind c.kind e)))

  passes : IsClosed cut → (range share counted own cross : Bool) → is_range c.kind ≡ range → may_share cut side c.kind ≡ share → is_counted c.kind ≡ counted
      → same_side (side_of cut (object_kind c.kind) c.object) side ≡ own → (cut.weakly side && is_harmless c) ≡ cross
      → MayHold cut side c → tested range share counted own cross ≡ true
  passes closed true share counted own cross r s n o x m = absurd (m.no_range (is_range-kind c.kind r))
  passes closed false false counted own cross r s n o x m = let e = sym s ∙ share-held m in absurd (cc (e))
  passes closed false true false own cross r s n o x m = refl
  passes closed false true true true cross r s n o x m = refl
  passes closed false true true false true r s n o x m = refl
  passes closed false true true false false r s n o x m = elim m.own [
    | inl own ↦ let e = sym o ∙ same_side-true _ _ (own n) in absurd (cc (e))
    | inr (inl weak) ↦ let e = sym x ∙ both_true (cut.weakly side) (is_harmless c) weak.0 weak.1 in absurd (cc (e))
    | inr (inr call) ↦ absurd (uncalled cut closed side c.object call.1)
  ]

  -- what may be held passes the test
  pub may_hold-passes : IsClosed cut → MayHold cut side c → may_hold cut side c ≡ true
  may_hold-passes closed m = passes closed (is_range c.kind) (may_share cut side c.kind) (is_counted c.kind) (same_side (side_of cut (object_kind c.kind) c.object) side) (cut.weakly side && is_harmless c) refl refl refl refl refl m

-- ---- stored capabilities and their meanings

module _ (cut : Cut) (side : CutSide) (o : Items) (c : Capability) where
  means-may : (b : Bool) → MayHold cut side (if b then c else null) → MayHold cut side (if b then bare c else null)
  means-may true m = record { no_range = m.no_range; halting = m.halting; logging = m.logging; own = m.own }
  means-may false m = m

  may-means : (b : Bool) → MayHold cut side (if b then bare c else null) → MayHold cut side (if b then c else null)
  may-means true m = record { no_range = m.no_range; halting = m.halting; logging = m.logging; own = m.own }
  may-means false m = m

  -- the count is looked at by none
  pub may-meaning : MayHold cut side (live o c) → MayHold cut side (meaning o c)
  may-meaning m = means-may (is_live o c) m

  -- nor in the other direction
  pub may-live : MayHold cut side (meaning o c) → MayHold cut side (live o c)
  may-live m = may-means (is_live o c) m

-- ---- the first of several

module _ {A : Type 0} where
  or_none : (x y : Option A) → option_or x y ≡ None → (x ≡ None) × (y ≡ None)
  or_none None y e = (refl, e)
  or_none (Some a) y e = absurd (cc (e))

  both_none : (x y : Option A) → x ≡ None → y ≡ None → option_or x y ≡ None
  both_none None y e f = f
  both_none (Some a) y e f = absurd (cc (e))

  -- where there is no first, none gives anything
  pub none_each : (f : ℕ → Option A) (n i j : ℕ) → first_from f i n ≡ None → i ≤ j → j < i + n → f j ≡ None
  none_each f zero i j e low high = absurd (omega (arith, low, high))
  none_each f (suc n) i j e low high =
      let both = or_none (f i) (first_from f (suc i) n) (sym (first_suc f i n) ∙ e) in
      by both (cases_lt i j) (λ above. none_each f n (suc i) j both.1 above (omega (arith, high)))
    where
      by : (f i ≡ None) × (first_from f (suc i) n ≡ None) → (i < j) ⊎ (j ≤ i) → (i < j → f j ≡ None) → f j ≡ None
      by both (inl above) rest = rest above
      by both (inr here) rest = let same : i ≡ j = omega (arith, low, here) in subst (λ k. f k ≡ None) same both.0

  -- and the other way round
  pub each_none : (f : ℕ → Option A) (n i : ℕ) → ((j : ℕ) → i ≤ j → j < i + n → f j ≡ None) → first_from f i n ≡ None
  each_none f zero i all = first_zero f i
  each_none f (suc n) i all =
      first_suc f i n
      ∙ both_none (f i) (first_from f (suc i) n) (all i (omega arith) (omega arith)) (each_none f n (suc i) (λ j low high. all j (omega (arith, low)) (omega (arith, high))))

  -- what holds of each of two answers holds of the one that is taken
  pub either_holds : (P : A → Type 0) (a b : Option A) → ((x : A) → a ≡ Some x → P x) → ((x : A) → b ≡ Some x → P x) → (x : A) → option_or a b ≡ Some x → P x
  either_holds P None b first second x e = second x e
  either_holds P (Some a) b first second x e = first x e

-- ---- no breach is a Yes

-- a Yes comes where neither is found
found-none : (o : Option Breach) (p : Option ℕ) → found_by o p ≡ Yes → (o ≡ None) × (p ≡ None)
found-none (Some found) p e = absurd (cc (e))
found-none None (Some p) e = absurd (cc (e))
found-none None None e = (refl, refl)

none-found : (o : Option Breach) (p : Option ℕ) → o ≡ None → p ≡ None → found_by o p ≡ Yes
none-found (Some found) p e f = absurd (cc (e))
none-found None (Some p) e f = absurd (cc (f))
none-found None None e f = refl

-- ---- capabilities

if_none : (b : Bool) (v : Breach) → (if b then None else Some v) ≡ None → b ≡ true
if_none true v e = refl
if_none false v e = absurd (cc (e))

if_true : (b : Bool) (v : Breach) → b ≡ true → (if b then None else Some v) ≡ None
if_true true v e = refl
if_true false v e = absurd (cc (e))

module _ (cut : Cut) (closed : IsClosed cut) (s : Store) where
  -- a fact of each place of the objects of a kind
  abbrev pub PlacesMay : CapKind → Type 0
  PlacesMay kind = (n i : ℕ) → n < size_of s.items kind → i < places_in kind → MayHold cut (side_of cut kind n) (meaning s.items (cap_in s kind n i))

  places-none : (kind : CapKind) → PlacesMay kind → breach_of_kind cut s kind ≡ None
  places-none kind all =
      each_none (breach_of_object cut s kind) (size_of s.items kind) 0 (λ n low high.
      each_none (breach_at cut s kind n) (places_in kind) 0 (λ i lower higher.
      if_true _ _ (may_hold-passes cut (side_of cut kind n) (live s.items (cap_in s kind n i)) closed (may-live cut (side_of cut kind n) s.items (cap_in s kind n i) (all n i (omega (arith, high)) (omega (arith, higher)))))))

  none-places : (kind : CapKind) → breach_of_kind cut s kind ≡ None → PlacesMay kind
  none-places kind e n i there place =
      let object = none_each (breach_of_object cut s kind) (size_of s.items kind) 0 n e (omega arith) (omega (arith, there)) in
      let at = none_each (breach_at cut s kind n) (places_in kind) 0 i object (omega arith) (omega (arith, place)) in
      may-meaning cut (side_of cut kind n) s.items (cap_in s kind n i) (may_hold-says cut (side_of cut kind n) (live s.items (cap_in s kind n i)) (if_none _ _ at))

  -- all four kinds
  abbrev pub AllPlaces : Type 0
  AllPlaces = AllHave (λ kind n c. MayHold cut (side_of cut kind n) c) s

  none-all : breach_of cut s ≡ None → AllPlaces
  none-all e =
      let first = or_none (breach_of_kind cut s CapPage) _ e in
      let second = or_none (breach_of_kind cut s Gpt) _ first.1 in
      let third = or_none (breach_of_kind cut s Endpoint) (breach_of_kind cut s Process) second.1 in
      record { cappages = none-places CapPage first.0; gpts = none-places Gpt second.0; endpoints = none-places Endpoint third.0; processes = none-places Process third.1 }

  all-none : AllPlaces → breach_of cut s ≡ None
  all-none all =
      both_none (breach_of_kind cut s CapPage) _ (places-none CapPage all.cappages)
      (both_none (breach_of_kind cut s Gpt) _ (places-none Gpt all.gpts)
      (both_none (breach_of_kind cut s Endpoint) (breach_of_kind cut s Process) (places-none Endpoint all.endpoints) (places-none Process all.processes)))

  -- ---- so it is of each of the map

  pub each-held : AreFull s → AllPlaces → EachMayHold cut (state_map s)
  each-held full all =
      let each = each-has (λ kind n c. MayHold cut (side_of cut kind n) c) (λ kind n. may-null cut (side_of cut kind n)) s full all in
      record { slots = each.slots; cappages = each.cappages; capregs = each.capregs; process_slots = each.process_slots; recipients = each.recipients }

  -- and the other way round
  pub held-all : EachMayHold cut (state_map s) → AllPlaces
  held-all each =
      has-all (λ kind n c. MayHold cut (side_of cut kind n) c) (λ kind n. may-null cut (side_of cut kind n)) s
      (record { slots = each.slots; cappages = each.cappages; capregs = each.capregs; process_slots = each.process_slots; recipients = each.recipients })

-- ---- sleepers

module _ (cut : Cut) where
  all_on : (side : CutSide) (xs : List ℕ) → ((i : ℕ) → i < length xs → side_of cut Process (get_or xs i 0) ≡ side) → AllOn cut side xs
  all_on side [] all = tt
  all_on side (x ∷ xs) all = (all 0 (omega arith), all_on side xs (λ i lt. all (suc i) (omega (arith, lt))))

  on_at : (side : CutSide) (xs : List ℕ) (i : ℕ) → AllOn cut side xs → i < length xs → side_of cut Process (get_or xs i 0) ≡ side
  on_at side [] i all lt = absurd (omega (arith, lt))
  on_at side (x ∷ xs) zero all lt = all.0
  on_at side (x ∷ xs) (suc i) all lt = on_at side xs i all.1 (omega (arith, lt))

  if_same : (b : Bool) (p : ℕ) → (if b then None else Some p) ≡ None → b ≡ true
  if_same true p e = refl
  if_same false p e = absurd (cc (e))

  same_if : (b : Bool) (p : ℕ) → b ≡ true → (if b then None else Some p) ≡ None
  same_if true p e = refl
  same_if false p e = absurd (cc (e))

  none-apart : (q : QueuesValue) → sleeper_of cut q ≡ None → SleepApart cut q
  none-apart q e on = elim (cases_lt on (length q.sleepers)) [
    | inl there ↦
        let none = least-each (least_on cut q) (length q.sleepers) e on there in
        all_on (side_of cut Process on) (sleepers_of q on) (λ i lt.
        same_side-tells _ _ (if_same _ _ (least-each (across_at cut q on) (length (sleepers_of q on)) none i lt)))
    | inr past ↦ subst (λ (xs : List ℕ). AllOn cut (side_of cut Process on) xs) (sym (get_or_past q.sleepers on [] past)) tt
  ]

  pub apart-none : (q : QueuesValue) → SleepApart cut q → sleeper_of cut q ≡ None
  apart-none q apart =
      each-least (least_on cut q) (length q.sleepers) (λ on there.
      each-least (across_at cut q on) (length (sleepers_of q on)) (λ i lt.
      same_if _ _ (same_side-true _ _ (on_at (side_of cut Process on) (sleepers_of q on) i (apart on) lt))))

-- ---- both

-- the law of verdicts
pub verdict_law : VerdictLaw
verdict_law cut s q closed full = (
  λ e. let none = found-none (breach_of cut s) (sleeper_of cut q) e in
      record { each = each-held cut closed s full (none-all cut closed s none.0); sleepers = none-apart cut q none.1; closed = closed },
  λ holds. none-found (breach_of cut s) (sleeper_of cut q) (all-none cut closed s (held-all cut closed s holds.each)) (apart-none cut q holds.sleepers),
)
