-- What another count for one object changes: that count, and the meaning of capabilities that name the object.
use Rattle.std.proofs.Common.{◌≡◌, ℕ, ◌<◌, ◌⊎◌, inl, inr, length, length-set, get_or-set_same, slice_index, slice_set, Bool, true, false, if◌then◌else◌, refl, sym, ap, ◌∙◌, arith}
use Rattle.cap_format.specs.declared.kind.CapKind.{CapKind}
use Rattle.cap_format.specs.declared.kind.CapKind.TheVariants.{Page, CapPage, Gpt, Endpoint, Process}
use Rattle.cap_format.specs.Kind.{is_counted, object_kind}
use Rattle.cap_format.specs.Capability.{Capability, null, bare}
use Rattle.object_store.specs.Store.{CountsValue, Items, counts_of, recounted}
use Rattle.object_store.specs.Meaning.{is_current, is_live, meaning}
use Rattle.object_store.specs.Differ.{Names, Forgets}
use Rattle.object_store.proofs.Lists.{get_or-set}

-- after a write of one count the counts of a kind are those before with it written, or the same
pub recounted-of : (counts : CountsValue) (kind : CapKind) (n count : ℕ) (k : CapKind) →
    ((k ≡ kind) × (counts_of (recounted counts kind n count) k ≡ slice_set (counts_of counts k) n count))
    ⊎ (counts_of (recounted counts kind n count) k ≡ counts_of counts k)
recounted-of counts Page n count Page = inl (refl, refl)
recounted-of counts Page n count k = inr refl
recounted-of counts CapPage n count CapPage = inl (refl, refl)
recounted-of counts CapPage n count k = inr refl
recounted-of counts Gpt n count Gpt = inl (refl, refl)
recounted-of counts Gpt n count k = inr refl
recounted-of counts Process n count Process = inl (refl, refl)
recounted-of counts Process n count k = inr refl
recounted-of counts Endpoint n count Endpoint = inl (refl, refl)
recounted-of counts Endpoint n count k = inr refl
recounted-of counts kind n count k = inr refl

-- no object comes or goes
pub size_of-recounted : (counts : CountsValue) (kind : CapKind) (n count : ℕ) (k : CapKind) → length (counts_of (recounted counts kind n count) k) ≡ length (counts_of counts k)
size_of-recounted counts kind n count k = elim (recounted-of counts kind n count k) [
  | inl written ↦ ap length written.1 ∙ length-set (counts_of counts k) n count
  | inr same ↦ ap length same
]

-- after a write of one count each count is the one that was written, or the same
pub count_of-recounted : (counts : CountsValue) (kind : CapKind) (n count : ℕ) (k : CapKind) (m : ℕ) →
    ((k ≡ kind) × (m ≡ n) × (slice_index (counts_of (recounted counts kind n count) k) m ≡ count))
    ⊎ (slice_index (counts_of (recounted counts kind n count) k) m ≡ slice_index (counts_of counts k) m)
count_of-recounted counts kind n count k m = elim (recounted-of counts kind n count k) [
  | inl written ↦ at_kind written.0 written.1 (get_or-set (counts_of counts k) n m count 0)
  | inr same ↦ inr (ap (λ xs. slice_index xs m) same)
]
  where
    at_kind : k ≡ kind → counts_of (recounted counts kind n count) k ≡ slice_set (counts_of counts k) n count
        → ((m ≡ n) × (slice_index (slice_set (counts_of counts k) n count) m ≡ count)) ⊎ (slice_index (slice_set (counts_of counts k) n count) m ≡ slice_index (counts_of counts k) m)
        → ((k ≡ kind) × (m ≡ n) × (slice_index (counts_of (recounted counts kind n count) k) m ≡ count))
        ⊎ (slice_index (counts_of (recounted counts kind n count) k) m ≡ slice_index (counts_of counts k) m)
    at_kind is_kind e (inl here) = inl (is_kind, here.0, ap (λ xs. slice_index xs m) e ∙ here.1)
    at_kind is_kind e (inr other) = inr (ap (λ xs. slice_index xs m) e ∙ other)

-- a count that is written for an object that is there is read again
pub count_of-recounted_here : (counts : CountsValue) (kind : CapKind) (n count : ℕ) → n < length (counts_of counts kind) → slice_index (counts_of (recounted counts kind n count) kind) n ≡ count
count_of-recounted_here counts Page n count there = get_or-set_same counts.pages n count 0 there
count_of-recounted_here counts CapPage n count there = get_or-set_same counts.cappages n count 0 there
count_of-recounted_here counts Gpt n count there = get_or-set_same counts.gpts n count 0 there
count_of-recounted_here counts Process n count there = get_or-set_same counts.processes n count 0 there
count_of-recounted_here counts Endpoint n count there = get_or-set_same counts.endpoints n count 0 there
count_of-recounted_here counts kind n count there = absurd (omega arith)

-- ---- the meaning

-- `o` and `p` are items before and after a write of one count
module _ (counts : CountsValue) (kind : CapKind) (n count : ℕ) where
  -- a capability is live as before, or it names the object
  pub is_live-recounted : (o p : Items) → o.counts ≡ counts → p.counts ≡ recounted counts kind n count → (c : Capability) → Names kind n c ⊎ (is_live p c ≡ is_live o c)
  is_live-recounted o p old new c = by (is_counted c.kind) refl
    where
      by : (counted : Bool) → is_counted c.kind ≡ counted → Names kind n c ⊎ (is_live p c ≡ is_live o c)
      by false e = inr (rw e refl)
      by true e = elim (count_of-recounted counts kind n count (object_kind c.kind) c.object) [
        | inl named ↦ inl (record { counted = e; kind_is = named.0; object = named.1 })
        | inr same ↦ inr (ap (λ b. if is_counted c.kind then b else true) (current same))
      ]
        where
          current : slice_index (counts_of (recounted counts kind n count) (object_kind c.kind)) c.object ≡ slice_index (counts_of counts (object_kind c.kind)) c.object
              → is_current (counts_of p.counts (object_kind c.kind)) c.object c.count ≡ is_current (counts_of o.counts (object_kind c.kind)) c.object c.count
          current same = rw (old, new, size_of-recounted counts kind n count (object_kind c.kind), same) refl

  -- it means the same, or it names the object and means Null in one of the two
  pub meaning-recounted : (o p : Items) → o.counts ≡ counts → p.counts ≡ recounted counts kind n count → (c : Capability) → (meaning o c ≡ meaning p c) ⊎ Forgets kind n (meaning o c) (meaning p c)
  meaning-recounted o p old new c = elim (is_live-recounted o p old new c) [
    | inl named ↦ by_cases named (is_live o c) (is_live p c)
    | inr same ↦ inl (ap (λ b. if b then bare c else null) (sym same))
  ]
    where
      by_cases : Names kind n c → (b d : Bool) → ((if b then bare c else null) ≡ (if d then bare c else null)) ⊎ Forgets kind n (if b then bare c else null) (if d then bare c else null)
      by_cases named true true = inl refl
      by_cases named false false = inl refl
      by_cases named true false = inr (inl (record { counted = named.counted; kind_is = named.kind_is; object = named.object }, refl))
      by_cases named false true = inr (inr (record { counted = named.counted; kind_is = named.kind_is; object = named.object }, refl))
