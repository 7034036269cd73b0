-- Live capabilities: what they name is there, and they are not ahead of it.
use Rattle.std.proofs.Common.{◌≡◌, ◌<◌, ◌≤◌, [], length, Bool, true, false, if◌then◌else◌, ◌⊎◌, inl, inr, refl, sym, ap, subst, ◌∙◌, arith}
use Rattle.std.proofs.lemmas.Bool.{and_parts, ltb-true, eqb-true, cond_both}
use Rattle.cap_format.specs.declared.kind.CapKind.{CapKind}
use Rattle.cap_format.specs.declared.kind.CapKind.TheVariants.{Null, Page, CapPage, Gpt, Window, LocalWindow, Endpoint, Entry, Process, Schedule, Range, Discrim, KernLog, SysCtl}
use Rattle.cap_format.specs.Kind.{is_counted, object_kind}
use Rattle.cap_format.specs.Capability.{Capability, IsCapability, null, bare}
use Rattle.cap_format.specs.Weakening.{weakened, weakened_kind}
use Rattle.cap_format.proofs.Ranges.{IsCapability-null, IsCapability-bare, weakened-bare}
use Rattle.object_store.specs.Store.{CountsValue, Items, counts_of, size_of, count_of}
use Rattle.object_store.specs.Meaning.{is_current, is_live, live, meaning}
use Rattle.object_store.specs.Ahead.{IsBehind}

-- a live capability that names an object names one that is there, and has its count
pub record NamesLive (o : Items) (c : Capability) : Type 0 where
  pub there : c.object < size_of o (object_kind c.kind)
  pub count : count_of o (object_kind c.kind) c.object ≡ c.count

-- a capability that is counted and live names such an object
pub live_names : (o : Items) (c : Capability) → is_counted c.kind ≡ true → is_live o c ≡ true → NamesLive o c
live_names o c counted is =
    let current : is_current (counts_of o.counts (object_kind c.kind)) c.object c.count ≡ true = rw counted at is in
    let parts = and_parts _ _ current in
    record { there = ltb-true _ _ parts.0; count = eqb-true _ _ parts.1 }

-- a live capability of a counted kind has the number of an object that is there
pub live_kind : (kind : CapKind) → is_counted kind ≡ true → (o : Items) (c : Capability) → c.kind ≡ kind → is_live o c ≡ true → c.object < size_of o (object_kind kind)
live_kind kind counted o c is_kind is =
    subst (λ (k : CapKind). c.object < size_of o (object_kind k)) is_kind (live_names o c (ap is_counted is_kind ∙ counted) is).there

-- a live capability to a page has the number of a page
pub live_page : (o : Items) (c : Capability) → c.kind ≡ Page → is_live o c ≡ true → c.object < size_of o Page
live_page = live_kind Page refl

-- a live capability to a capability page has the number of a capability page
pub live_cappage : (o : Items) (c : Capability) → c.kind ≡ CapPage → is_live o c ≡ true → c.object < size_of o CapPage
live_cappage = live_kind CapPage refl

-- a live capability to a GPT has the number of a GPT
pub live_gpt : (o : Items) (c : Capability) → c.kind ≡ Gpt → is_live o c ≡ true → c.object < size_of o Gpt
live_gpt = live_kind Gpt refl

-- a live capability to an endpoint has the number of an endpoint
pub live_endpoint : (o : Items) (c : Capability) → c.kind ≡ Endpoint → is_live o c ≡ true → c.object < size_of o Endpoint
live_endpoint = live_kind Endpoint refl

-- a live capability to a process has the number of a process
pub live_process : (o : Items) (c : Capability) → c.kind ≡ Process → is_live o c ≡ true → c.object < size_of o Process
live_process = live_kind Process refl

-- a live capability means itself
pub meaning_live : (o : Items) (c : Capability) → is_live o c ≡ true → meaning o c ≡ bare c
meaning_live o c is = ap (λ b. if b then bare c else null) is

-- a capability that is not live means Null
pub meaning_dead : (o : Items) (c : Capability) → is_live o c ≡ false → meaning o c ≡ null
meaning_dead o c is = ap (λ b. if b then bare c else null) is

-- what `live` gives is live
pub is_live-live : (o : Items) (c : Capability) → is_live o (live o c) ≡ true
is_live-live o c = cond_both (is_live o c) c null (λ d. is_live o d ≡ true) (λ is. is) (λ _. refl)

-- what `live` gives has, without its count, the meaning of what it was asked for
pub bare-live : (o : Items) (c : Capability) → bare (live o c) ≡ meaning o c
bare-live o c = by (is_live o c)
  where
    by : (b : Bool) → bare (if b then c else null) ≡ (if b then bare c else null)
    by true = refl
    by false = refl

-- two capabilities of one kind to one object with one count
record IsTo (c d : Capability) : Type 0 where
  kind_is : d.kind ≡ c.kind
  object_is : d.object ≡ c.object
  count_is : d.count ≡ c.count

-- weakening makes Null, or keeps the object and the count
weakened_is_to : (c : Capability) → (weakened c ≡ null) ⊎ IsTo c (weakened c)
weakened_is_to c = on c.kind
  where
    on : (kind : CapKind) → (weakened_kind kind c ≡ null) ⊎ IsTo c (weakened_kind kind c)
    on Null = inr (record { kind_is = refl; object_is = refl; count_is = refl })
    on Discrim = inr (record { kind_is = refl; object_is = refl; count_is = refl })
    on Page = inr (record { kind_is = refl; object_is = refl; count_is = refl })
    on CapPage = inr (record { kind_is = refl; object_is = refl; count_is = refl })
    on Gpt = inr (record { kind_is = refl; object_is = refl; count_is = refl })
    on Window = inr (record { kind_is = refl; object_is = refl; count_is = refl })
    on LocalWindow = inr (record { kind_is = refl; object_is = refl; count_is = refl })
    on kind = inl refl

-- weakening a capability weakens its meaning
pub meaning-weakened : (o : Items) (c : Capability) → meaning o (weakened c) ≡ weakened (meaning o c)
meaning-weakened o c = elim (weakened_is_to c) [
  | inl nothing ↦ ap (meaning o) nothing ∙ from_null nothing (is_live o c)
  | inr same ↦ ap (λ b. if b then bare (weakened c) else null) (live_same same) ∙ from_same (is_live o c)
]
  where
    from_null : weakened c ≡ null → (b : Bool) → null ≡ weakened (if b then bare c else null)
    from_null nothing true = sym (weakened-bare c ∙ ap bare nothing)
    from_null nothing false = refl

    live_same : IsTo c (weakened c) → is_live o (weakened c) ≡ is_live o c
    live_same same = rw (same.kind_is, same.object_is, same.count_is) refl

    from_same : (b : Bool) → (if b then bare (weakened c) else null) ≡ weakened (if b then bare c else null)
    from_same true = sym (weakened-bare c)
    from_same false = refl

-- the meaning keeps the ranges
pub IsCapability-meaning : (o : Items) (c : Capability) → IsCapability c → IsCapability (meaning o c)
IsCapability-meaning o c is = cond_both (is_live o c) (bare c) null IsCapability (λ _. IsCapability-bare c is) (λ _. IsCapability-null)

-- ---- not ahead

-- objects of a kind that is not counted do not exist
no_objects : (counts : CountsValue) (kind : CapKind) → is_counted kind ≡ false → counts_of counts (object_kind kind) ≡ []
no_objects counts Null e = refl
no_objects counts Window e = refl
no_objects counts LocalWindow e = refl
no_objects counts Schedule e = refl
no_objects counts Range e = refl
no_objects counts Discrim e = refl
no_objects counts KernLog e = refl
no_objects counts SysCtl e = refl
no_objects counts Page e = cc
no_objects counts CapPage e = cc
no_objects counts Gpt e = cc
no_objects counts Endpoint e = cc
no_objects counts Entry e = cc
no_objects counts Process e = cc

-- a capability without a count is not ahead, Null and those of the model among them
pub IsBehind-zero : (o : Items) (c : Capability) → c.count ≡ 0 → IsBehind o c
IsBehind-zero o c zero there = omega arith

-- Null is not ahead
pub IsBehind-null : (o : Items) → IsBehind o null
IsBehind-null o there = omega arith

-- a live capability is not ahead
pub IsBehind-is_live : (o : Items) (c : Capability) → is_live o c ≡ true → IsBehind o c
IsBehind-is_live o c is there = by (is_counted c.kind) refl
  where
    by : (counted : Bool) → is_counted c.kind ≡ counted → c.count ≤ count_of o (object_kind c.kind) c.object
    by true e = omega (arith, (live_names o c e is).count)
    by false e =
        let none : size_of o (object_kind c.kind) ≡ 0 = ap length (no_objects o.counts c.kind e) in
        absurd (omega arith)

-- the capability that a call makes of one is not ahead
pub IsBehind-live : (o : Items) (c : Capability) → IsBehind o (live o c)
IsBehind-live o c = cond_both (is_live o c) c null (IsBehind o) (λ is. IsBehind-is_live o c is) (λ _. IsBehind-null o)

-- weakening puts no capability ahead
pub IsBehind-weakened : (o : Items) (c : Capability) → IsBehind o c → IsBehind o (weakened c)
IsBehind-weakened o c behind = elim (weakened_is_to c) [
  | inl nothing ↦ subst (IsBehind o) (sym nothing) (IsBehind-null o)
  | inr same ↦ rw (same.kind_is, same.object_is, same.count_is) behind
]
