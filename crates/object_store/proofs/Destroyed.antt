-- Laws of destruction: what is stored after it means the model's destruction, and no capability is ahead.
use Rattle.std.proofs.Common.{◌≡◌, ℕ, ◌<◌, ◌≤◌, ◌+◌, ◌&&◌, inl, inr, true≢false, Bool, true, false, if◌then◌else◌, ◌==◌, refl, sym, ap, subst, ◌∙◌, arith}
use Rattle.std.proofs.lemmas.Bool.{and_parts, and_from, eqb-true, eq-eqb, cond_both, cases_Bool}
use Rattle.cap_format.specs.declared.kind.CapKind.{CapKind}
use Rattle.cap_format.proofs.KindNumbers.{kind_of_number}
use Rattle.cap_format.specs.Kind.{is_counted, number_of, object_kind}
use Rattle.cap_format.specs.Capability.{Capability, null, bare}
use Rattle.object_store.specs.Store.{Items, Store, size_of, count_of, emptied_items, emptied}
use Rattle.object_store.specs.Meaning.{is_live, meaning, store_map, state_map}
use Rattle.object_store.specs.Differ.{Names}
use Rattle.object_store.specs.Ahead.{IsBehind, EachCapability, NoneAhead}
use Rattle.object_store.specs.Destruction.{names, forget, destruction}
use Rattle.object_store.proofs.Live.{meaning_dead, live_names, IsBehind-null}
use Rattle.object_store.proofs.Counted.{size_of-recounted, count_of-recounted, count_of-recounted_here, is_live-recounted}
use Rattle.object_store.proofs.Each.{EachCapability-map, EachCapability-all, EachCapability-store_map, EachCapability-emptied, store_map-same, store_map-store_map, store_map-emptied}

-- ---- the test and the fact that a capability names an object

-- the test finds each capability that names the object
pub names_from : (kind : CapKind) (n : ℕ) (c : Capability) → Names kind n c → names kind n c ≡ true
names_from kind n c named =
    and_from _ _ (and_from _ _ named.counted (eq-eqb _ _ (ap number_of named.kind_is))) (eq-eqb _ _ named.object)

-- ---- counts that only rise leave no capability ahead

-- a capability that was not ahead is not ahead after a destruction
pub IsBehind-emptied : (kind : CapKind) (n : ℕ) (o : Items) (c : Capability) → IsBehind o c → IsBehind (emptied_items kind n o) c
IsBehind-emptied kind n o c behind there =
    let within : c.object < size_of o (object_kind c.kind) = subst (λ (m : ℕ). c.object < m) (size_of-recounted o.counts kind n _ (object_kind c.kind)) there in
    let was = behind within in
    elim (count_of-recounted o.counts kind n (count_of o kind n + 1) (object_kind c.kind) c.object) [
      | inl here ↦ risen here.0 here.1 here.2 was
      | inr same ↦ rw same was
    ]
  where
    risen : object_kind c.kind ≡ kind → c.object ≡ n → count_of (emptied_items kind n o) (object_kind c.kind) c.object ≡ count_of o kind n + 1
        → c.count ≤ count_of o (object_kind c.kind) c.object → c.count ≤ count_of (emptied_items kind n o) (object_kind c.kind) c.object
    risen is_kind is_n new was =
        let old : count_of o (object_kind c.kind) c.object ≡ count_of o kind n = rw (is_kind, is_n) refl in
        omega (arith, new, old, was)

-- where no capability was ahead, none is after a destruction
pub NoneAhead-emptied : (kind : CapKind) (n : ℕ) (s : Store) → NoneAhead s → NoneAhead (emptied kind n s)
NoneAhead-emptied kind n s none =
    EachCapability-emptied (IsBehind (emptied_items kind n s.items)) (IsBehind-null (emptied_items kind n s.items)) kind n s
    (EachCapability-map (IsBehind s.items) (IsBehind (emptied_items kind n s.items)) (IsBehind-emptied kind n s.items) s none)

-- ---- what a destruction means

-- a capability that names the object and is not ahead of it is not live any more
dead : (kind : CapKind) (n : ℕ) (o : Items) (c : Capability) → n < size_of o kind → Names kind n c → IsBehind o c → is_live (emptied_items kind n o) c ≡ false
dead kind n o c there named behind = elim (cases_Bool (is_live (emptied_items kind n o) c)) [
  | inr dies ↦ dies
  | inl lives ↦ absurd (ahead (live_names (emptied_items kind n o) c named.counted lives).count)
]
  where
    old : count_of o (object_kind c.kind) c.object ≡ count_of o kind n
    old = rw (named.kind_is, named.object) refl

    within : c.object < size_of o (object_kind c.kind)
    within = rw (named.kind_is, named.object) there

    new : count_of (emptied_items kind n o) (object_kind c.kind) c.object ≡ count_of o kind n + 1
    new = rw (named.kind_is, named.object) (count_of-recounted_here o.counts kind n (count_of o kind n + 1) there)

    ahead : count_of (emptied_items kind n o) (object_kind c.kind) c.object ≡ c.count → ⊥
    ahead now = omega (arith, now, new, old, behind within)

-- the test finds no other capability
names_parts : (kind : CapKind) (n : ℕ) (c : Capability) → names kind n c ≡ true → Names kind n c
names_parts kind n c is =
    let parts = and_parts (is_counted c.kind && (number_of (object_kind c.kind) == number_of kind)) (c.object == n) is in
    let kinds = and_parts (is_counted c.kind) (number_of (object_kind c.kind) == number_of kind) parts.0 in
    record { counted = kinds.0; kind_is = kind_of_number _ _ (eqb-true _ _ kinds.1); object = eqb-true _ _ parts.1 }

-- A capability that is not ahead means after the destruction what it meant before, but for one that named the object:
-- that one means Null.
pub meaning-emptied : (kind : CapKind) (n : ℕ) (o : Items) (c : Capability) → n < size_of o kind → IsBehind o c → meaning (emptied_items kind n o) c ≡ forget kind n (meaning o c)
meaning-emptied kind n o c there behind = by (names kind n c) refl
  where
    -- what is forgotten of the meaning, by cases on the two tests
    forgets : (live named : Bool) → names kind n c ≡ named → forget kind n (if live then bare c else null) ≡ (if live then (if named then null else bare c) else null)
    forgets true named e = ap (λ b. if b then null else bare c) e
    forgets false named e = refl

    both_null : (live : Bool) → null ≡ (if live then (if true then null else bare c) else null)
    both_null true = refl
    both_null false = refl

    by : (named : Bool) → names kind n c ≡ named → meaning (emptied_items kind n o) c ≡ forget kind n (meaning o c)
    by true e =
        meaning_dead (emptied_items kind n o) c (dead kind n o c there (names_parts kind n c e) behind)
        ∙ both_null (is_live o c) ∙ sym (forgets (is_live o c) true e)
    by false e = elim (is_live-recounted o.counts kind n (count_of o kind n + 1) o (emptied_items kind n o) refl refl c) [
      | inl named ↦ absurd (true≢false (sym (names_from kind n c named) ∙ e))
      | inr same ↦ ap (λ b. if b then bare c else null) same ∙ sym (forgets (is_live o c) false e)
    ]

-- What is stored after a destruction means the destruction of what was meant before, where no capability is ahead.
pub state_map-emptied : (kind : CapKind) (n : ℕ) (s : Store) → n < size_of s.items kind → NoneAhead s → state_map (emptied kind n s) ≡ destruction kind n (state_map s)
state_map-emptied kind n s there none =
    store_map-same (meaning (emptied_items kind n s.items)) (λ c. forget kind n (meaning s.items c)) (emptied kind n s) after
    ∙ sym (store_map-store_map (forget kind n) (meaning s.items) (emptied kind n s))
    ∙ ap (store_map (forget kind n)) (store_map-emptied (meaning s.items) refl kind n s)
  where
    after : EachCapability (λ c. meaning (emptied_items kind n s.items) c ≡ forget kind n (meaning s.items c)) (emptied kind n s)
    after = EachCapability-emptied (λ c. meaning (emptied_items kind n s.items) c ≡ forget kind n (meaning s.items c)) refl kind n s
        (EachCapability-map (IsBehind s.items) (λ c. meaning (emptied_items kind n s.items) c ≡ forget kind n (meaning s.items c)) (λ c behind. meaning-emptied kind n s.items c there behind) s none)

-- after a destruction no capability names the object
pub destruction-forgets : (kind : CapKind) (n : ℕ) (s : Store) → EachCapability (λ c. Names kind n c → ⊥) (destruction kind n s)
destruction-forgets kind n s =
    EachCapability-store_map (λ c. Names kind n c → ⊥) (forget kind n) (emptied kind n s)
    (EachCapability-all (λ c. Names kind n (forget kind n c) → ⊥) unnamed (emptied kind n s))
  where
    unnamed : (c : Capability) → Names kind n (forget kind n c) → ⊥
    unnamed c = cond_both (names kind n c) null c (λ d. Names kind n d → ⊥)
        (λ is. λ named. true≢false (sym named.counted))
        (λ not_named. λ named. true≢false (sym (names_from kind n c named) ∙ not_named))
