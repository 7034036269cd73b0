-- Objects of a machine that an event left as they were on the desk: where no count changed, their numbers are known.
use Rattle.std.proofs.Common.{◌≡◌, ℕ, ◌<◌, ◌⊎◌, inl, inr, List, [], get_or, length, slice_get, Some, true, refl, sym, ap, ◌∙◌, subst}
use Rattle.std.proofs.lemmas.List.{ext_get_or, length-map}
use Rattle.cap_format.specs.declared.kind.CapKind.{CapKind}
use Rattle.cap_format.specs.declared.kind.CapKind.TheVariants.{Page, CapPage, Gpt, Endpoint, Process}
use Rattle.cap_format.specs.Capability.{IsCapability}
use Rattle.cap_format.proofs.Ranges.{IsCapability-null}
use Rattle.object_store.specs.declared.sizes.Sizes.{Sizes}
use Rattle.object_store.specs.Store.{CountsValue, Items, Store, counts_by_kind, count_of, sizes_of, empty_store}
use Rattle.object_store.specs.Meaning.{is_live}
use Rattle.object_store.specs.Ahead.{EachCapability}
use Rattle.object_store.specs.Object.{ObjectName, ObjectValue, object_at, SameObject, IsAmong, Stays}
use Rattle.object_store.specs.Object.ObjectValue.{OfPage, OfCapPage, OfGpt, OfProcess, OfEndpoint, OfNone}
use Rattle.object_store.proofs.Each.{EachCapability-empty_store, gpt_at-each, cappage_at-each, capregs-each, process_slots-each, recipient-each}
use Rattle.object_parts.specs.Live.{live_store, live_object, IsInRanges}
use Rattle.object_parts.proofs.Buried.{object_live}
use Rattle.object_parts.proofs.Revived.{live_itself}
use Rattle.state_parts.specs.Keys.{named_in, objects_of, Reads}
use Rattle.state_parts.specs.Looking.{no_name, AreKnown, ReadsLive}
use Rattle.state_parts.specs.Marking.{HaveCounts}
use Rattle.state_parts.proofs.Brought.{reads_at}

-- ---- no count changed

abbrev count_in : ObjectValue → ℕ
count_in (OfPage count page) = count
count_in (OfCapPage count page) = count
count_in (OfGpt count gpt) = count
count_in (OfProcess count process) = count
count_in (OfEndpoint count endpoint) = count
count_in OfNone = 0

-- counts of all objects are the same where those of the objects that may have changed are
pub counts_stay : (s t : Store) (names : List ObjectName) → sizes_of s ≡ sizes_of t → Stays names s t → HaveCounts s t names → s.items.counts ≡ t.items.counts
counts_stay s t names sizes stays have =
    whole
    (ext_get_or 0 _ _ (ap (λ (z : Sizes). z.pages) sizes) (λ n there. each Page n))
    (ext_get_or 0 _ _ (ap (λ (z : Sizes). z.cappages) sizes) (λ n there. each CapPage n))
    (ext_get_or 0 _ _ (ap (λ (z : Sizes). z.gpts) sizes) (λ n there. each Gpt n))
    (ext_get_or 0 _ _ (ap (λ (z : Sizes). z.processes) sizes) (λ n there. each Process n))
    (ext_get_or 0 _ _ (ap (λ (z : Sizes). z.endpoints) sizes) (λ n there. each Endpoint n))
  where
    by : (kind : CapKind) (n : ℕ) → IsAmong kind n names ⊎ SameObject kind n s t → (count_in (object_at s kind n) ≡ count_of s.items kind n) × (count_in (object_at t kind n) ≡ count_of t.items kind n) → count_of s.items kind n ≡ count_of t.items kind n
    by kind n (inl among) is = have.each kind n among
    by kind n (inr same) is = sym is.0 ∙ ap count_in same ∙ is.1

    counted : (kind : CapKind) (n : ℕ) → (count_in (object_at s kind n) ≡ count_of s.items kind n) × (count_in (object_at t kind n) ≡ count_of t.items kind n)
    counted Page n = (refl, refl)
    counted CapPage n = (refl, refl)
    counted Gpt n = (refl, refl)
    counted Process n = (refl, refl)
    counted Endpoint n = (refl, refl)
    counted kind n = (refl, refl)

    each : (kind : CapKind) (n : ℕ) → count_of s.items kind n ≡ count_of t.items kind n
    each kind n = by kind n (stays.same kind n) (counted kind n)

    by_kinds : CountsValue → CountsValue
    by_kinds c = counts_by_kind c.pages c.cappages c.gpts c.processes c.endpoints

    whole : s.items.counts.pages ≡ t.items.counts.pages → s.items.counts.cappages ≡ t.items.counts.cappages → s.items.counts.gpts ≡ t.items.counts.gpts → s.items.counts.processes ≡ t.items.counts.processes → s.items.counts.endpoints ≡ t.items.counts.endpoints → by_kinds s.items.counts ≡ by_kinds t.items.counts
    whole h1 h2 h3 h4 h5 = rw (h1, h2, h3, h4, h5) refl

-- the same capabilities are dead where the counts are the same
live_counts : (o p : Items) (x : ObjectValue) → o.counts ≡ p.counts → live_object o x ≡ live_object p x
live_counts o p x same = here o x ∙ ap (λ (counts : CountsValue). live_object (items_by counts) x) same ∙ sym (here p x)
  where
    items_by : CountsValue → Items
    items_by counts = record { counts = counts; gpts = [] }

    here : (q : Items) (x : ObjectValue) → live_object q x ≡ live_object (items_by q.counts) x
    here q (OfPage count page) = refl
    here q (OfCapPage count page) = refl
    here q (OfGpt count gpt) = refl
    here q (OfProcess count process) = refl
    here q (OfEndpoint count endpoint) = refl
    here q OfNone = refl

-- ---- an object that stayed

-- an object of live capabilities stands live in a store of the same counts
pub stayed : (desk m : Store) (kind : CapKind) (n : ℕ) → live_store desk ≡ desk → desk.items.counts ≡ m.items.counts → SameObject kind n desk m → object_at desk kind n ≡ object_at (live_store m) kind n
stayed desk m kind n all counts same =
    ap (λ (s : Store). object_at s kind n) (sym all)
    ∙ object_live desk kind n
    ∙ live_counts desk.items m.items (object_at desk kind n) counts
    ∙ ap (live_object m.items) same
    ∙ sym (object_live m kind n)

-- its capabilities are in their ranges, as all are
pub in_ranges : (s : Store) (kind : CapKind) (n : ℕ) → EachCapability IsCapability s → IsInRanges (object_at s kind n)
in_ranges s Page n each = record { each = tt }
in_ranges s CapPage n each = record { each = cappage_at-each IsCapability IsCapability-null s each n }
in_ranges s Gpt n each = record { each = gpt_at-each IsCapability IsCapability-null s each n }
in_ranges s Process n each = record { each = (capregs-each IsCapability IsCapability-null s each n, process_slots-each IsCapability IsCapability-null s each n) }
in_ranges s Endpoint n each = record { each = recipient-each IsCapability IsCapability-null s each n }
in_ranges s kind n each = record { each = tt }

-- there are as many numbers as names
pub numbers_many : (T : List ObjectValue) (numbers : List ℕ) (names : List ObjectName) (s : Store) → Reads T numbers (objects_of names s) → length numbers ≡ length names
numbers_many T numbers names s reads =
    sym (length-map numbers (slice_get T)) ∙ ap length reads.each ∙ length-map (objects_of names s) Some ∙ length-map names (named_in s)

-- the numbers of all objects are known but of those that may have changed
pub known_but : (T : List ObjectValue) (numbers : List ℕ) (names changed : List ObjectName) (desk m : Store) → Reads T numbers (objects_of names desk) → live_store desk ≡ desk → EachCapability IsCapability desk
    → desk.items.counts ≡ m.items.counts → Stays changed desk m → AreKnown T (live_store m) changed names numbers
known_but T numbers names changed desk m reads alive ranges counts stays = record { each = λ k within. record { known = by k within (stays.same (get_or names k no_name).kind (get_or names k no_name).number) } }
  where
    by : (k : ℕ) → k < length names → IsAmong (get_or names k no_name).kind (get_or names k no_name).number changed ⊎ SameObject (get_or names k no_name).kind (get_or names k no_name).number desk m
        → IsAmong (get_or names k no_name).kind (get_or names k no_name).number changed ⊎ ReadsLive T (live_store m) (get_or names k no_name) (get_or numbers k 0)
    by k within (inl among) = inl among
    by k within (inr same) =
        let name = get_or names k no_name in
        let is : object_at desk name.kind name.number ≡ object_at (live_store m) name.kind name.number = stayed desk m name.kind name.number alive counts same in
        inr (record {
          value = reads_at T numbers names desk k within reads ∙ ap Some is;
          ranges = subst IsInRanges is (in_ranges desk name.kind name.number ranges);
        })

-- ---- the first desk

-- no capability of empty objects is dead
pub live_empty : (z : Sizes) → live_store (empty_store z) ≡ empty_store z
live_empty z = live_itself (empty_store z) (EachCapability-empty_store (λ c. is_live (empty_store z).items c ≡ true) refl z)

-- each is in its ranges
pub ranges_empty : (z : Sizes) → EachCapability IsCapability (empty_store z)
ranges_empty z = EachCapability-empty_store IsCapability IsCapability-null z
