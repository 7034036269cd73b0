-- The capabilities of an object by their places, in the model's map.
use Rattle.std.proofs.Common.{◌≡◌, ℕ, ◌-◌, ◌*◌, ◌<◌, ◌≤◌, Bool, true, false, nat_lt, ◌==◌, ◌&&◌, if◌then◌else◌, List, length, get_or, slice_index, refl, sym, ◌∙◌, ap, arith, length-append}
use Rattle.std.specs.List.{list_any}
use Rattle.std.proofs.lemmas.Bool.{ltb-true, ltb-false, eqb-true, and_parts}
use Rattle.std.proofs.lemmas.List.{length-map, get_or_append_left, get_or-append_right}
use Rattle.cap_format.specs.declared.kind.CapKind.{CapKind}
use Rattle.cap_format.specs.declared.kind.CapKind.TheVariants.{CapPage, Gpt, Process}
use Rattle.cap_format.specs.Kind.{number_of, is_counted, object_kind}
use Rattle.cap_format.specs.Capability.{Capability, null, bare}
use Rattle.cap_format.proofs.KindNumbers.{kind_of_number}
use Rattle.gpt_objects.specs.Gpt.{GptValue, empty_gpt}
use Rattle.process_objects.specs.Process.{ProcessValue}
use Rattle.object_store.specs.Store.{Items, Store, size_of, counts_of, gpt_at, cappage_at, process_at}
use Rattle.object_store.specs.Meaning.{is_current, is_live, meaning, state_map}
use Rattle.object_store.proofs.Means.{gpt_at-items_map, cappage_at-state_map, process_at-state_map}
use Rattle.object_store.specs.Places.{cap_in, places_in, reads_in, object_reads}
use Rattle.confine_check.specs.Full.{AreFull}
use Rattle.confine_check.proofs.Found.{cap_in-state_map}
use Rattle.quiet_runs.specs.declared.reached_by.ReachedBy.{ReachedBy}
use Rattle.quiet_runs.specs.declared.reached_by.ReachedBy.TheVariants.{Nobody}
use Rattle.quiet_runs.specs.Reaching.{caps_of, names, through, joined_below}
use Rattle.quiet_runs.specs.Finding.{is_below}
use Rattle.quiet_finding.specs.Passing.{by_cap, by_places, in_places}
use Rattle.quiet_finding.proofs.Folding.{joined_below-same, is_below-same, joined_below-nobody, is_below-false, through-places, any-places}

-- the slots of a GPT are read one by one
pub all-reads : (kind : CapKind) → reads_in kind * places_in kind ≡ object_reads kind
all-reads Gpt = refl
all-reads _ = refl

-- a list of capabilities that stand in the places of an object
module _ (m : Store) (kind : CapKind) (o : ℕ) (cs : List Capability) (long : length cs ≡ places_in kind)
    (at : (i : ℕ) → i < places_in kind → cap_in m kind o i ≡ get_or cs i null) where
  pub places-through : (by : ReachedBy) (k : CapKind) (n : ℕ) → by_places m by kind o (places_in kind) k n ≡ through by cs k n
  places-through by k n =
      joined_below-same (λ i. by_cap by (cap_in m kind o i) k n) (λ i. by_cap by (get_or cs i null) k n) (places_in kind) (λ i lt. ap (λ (c : Capability). by_cap by c k n) (at i lt))
      ∙ (ap (joined_below (λ i. by_cap by (get_or cs i null) k n)) (sym long) ∙ sym (through-places by cs k n))

  pub places-any : (test : Capability → Bool) → in_places m kind o (places_in kind) test ≡ list_any test cs
  places-any test =
      is_below-same (λ i. test (cap_in m kind o i)) (λ i. test (get_or cs i null)) (places_in kind) (λ i lt. ap test (at i lt))
      ∙ (ap (is_below (λ i. test (get_or cs i null))) (sym long) ∙ sym (any-places test cs))

module _ (s : Store) (full : AreFull s) where
  abbrev M : Store
  M = state_map s

  abbrev Means : Capability → Capability
  Means c = meaning s.items c

  -- ---- processes

  process-slots : (p : ℕ) → p < size_of s.items Process → length (process_at M p).slots ≡ 3
  process-slots p lt = ap (λ (v : ProcessValue). length v.slots) (process_at-state_map s p) ∙ (length-map (process_at s p).slots Means ∙ (full.processes p lt).1)

  process-capregs : (p : ℕ) → p < size_of s.items Process → length (process_at M p).capregs ≡ 32
  process-capregs p lt = ap (λ (v : ProcessValue). length v.capregs) (process_at-state_map s p) ∙ (length-map (process_at s p).capregs Means ∙ (full.processes p lt).0)

  pub process-long : (p : ℕ) → p < size_of s.items Process → length (caps_of M p) ≡ places_in Process
  process-long p lt = omega (arith, length-append (process_at M p).slots (process_at M p).capregs, process-slots p lt, process-capregs p lt)

  pub process-at : (p i : ℕ) → p < size_of s.items Process → i < places_in Process → cap_in M Process p i ≡ get_or (caps_of M p) i null
  process-at p i lt place = by (nat_lt i 3) refl
    where
      by : (b : Bool) → nat_lt i 3 ≡ b → (if b then get_or (process_at M p).slots i null else get_or (process_at M p).capregs (i - 3) null) ≡ get_or (caps_of M p) i null
      by true e = let below : i < length (process_at M p).slots = omega (arith, ltb-true i 3 e, process-slots p lt) in sym (get_or_append_left (process_at M p).slots (process_at M p).capregs null i below)
      by false e = let above : 3 ≤ i = ltb-false i 3 e in sym (get_or-append_right (process_at M p).slots (process_at M p).capregs 3 i null (process-slots p lt) above)

  -- ---- capability pages and GPTs

  pub cappage-long : (n : ℕ) → n < size_of s.items CapPage → length (cappage_at M n) ≡ places_in CapPage
  cappage-long n lt = ap (λ (v : List Capability). length v) (cappage_at-state_map s n) ∙ (length-map (cappage_at s n) Means ∙ full.cappages n lt)

  pub gpt-long : (g : ℕ) → g < size_of s.items Gpt → length (gpt_at M.items g).slots ≡ places_in Gpt
  gpt-long g lt =
      let each = full.is_store.ranged.each in
      let inside : g < length s.items.gpts = omega (arith, each, lt) in
      let is = full.is_store.ranged.gpts g empty_gpt inside in
      ap (λ (v : GptValue). length v.slots) (gpt_at-items_map Means refl s.items g) ∙ (length-map (gpt_at s.items g).slots Means ∙ is.sixteen)

-- ---- no capability of the map names what is not there

module _ (o : Items) (kind : CapKind) (n : ℕ) (past : size_of o kind ≤ n) where
  live-names : (c : Capability) → is_live o c ≡ true → names (bare c) kind n ≡ false
  live-names c live = by (names (bare c) kind n) refl
    where
      by : (b : Bool) → names (bare c) kind n ≡ b → b ≡ false
      by false e = refl
      by true e =
          let first = and_parts (is_counted c.kind) ((number_of (object_kind c.kind) == number_of kind) && (c.object == n)) e in
          let second = and_parts (number_of (object_kind c.kind) == number_of kind) (c.object == n) first.1 in
          let same : object_kind c.kind ≡ kind = kind_of_number (object_kind c.kind) kind (eqb-true (number_of (object_kind c.kind)) (number_of kind) second.0) in
          let object : c.object ≡ n = eqb-true c.object n second.1 in
          let counts = counts_of o.counts (object_kind c.kind) in
          let current : is_current counts c.object c.count ≡ true = ap (λ (b : Bool). if b then is_current counts c.object c.count else true) (sym first.0) ∙ live in
          let parts = and_parts (nat_lt c.object (length counts)) (slice_index counts c.object == c.count) current in
          let within : c.object < length counts = ltb-true c.object (length counts) parts.0 in
          let size : size_of o (object_kind c.kind) ≡ size_of o kind = ap (size_of o) same in
          absurd (omega (arith, within, size, object, past))

  pub meant-names : (c : Capability) → names (meaning o c) kind n ≡ false
  meant-names c = by (is_live o c) refl
    where
      by : (b : Bool) → is_live o c ≡ b → names (if b then bare c else null) kind n ≡ false
      by true e = live-names c e
      by false e = refl

-- so nobody comes to it by the places of an object
module _ (s : Store) (kind : CapKind) (n : ℕ) (past : size_of s.items kind ≤ n) where
  pub names-none : (holder : CapKind) (o i : ℕ) → names (cap_in (state_map s) holder o i) kind n ≡ false
  names-none holder o i = ap (λ (c : Capability). names c kind n) (cap_in-state_map s holder o i) ∙ meant-names s.items kind n past (cap_in s holder o i)

  pub places-nobody : (by : ReachedBy) (holder : CapKind) (o count : ℕ) → by_places (state_map s) by holder o count kind n ≡ Nobody
  places-nobody by holder o count =
      joined_below-nobody (λ i. by_cap by (cap_in (state_map s) holder o i) kind n) count
      (λ i lt. ap (λ (b : Bool). if b then by else Nobody) (names-none holder o i))

  pub places-unnamed : (holder : CapKind) (o count : ℕ) → in_places (state_map s) holder o count (λ c. names c kind n) ≡ false
  places-unnamed holder o count = is_below-false (λ i. names (cap_in (state_map s) holder o i) kind n) count (λ i lt. names-none holder o i)
