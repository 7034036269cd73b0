-- A destruction of the model changes the items in the header of its object alone.
use Rattle.std.proofs.Common.{◌≡◌, ℕ, ◌+◌, ◌⊎◌, inl, inr, Bool, true, false, if◌then◌else◌, ◌==◌, ◌&&◌, refl, sym, ap, ◌∙◌}
use Rattle.std.proofs.lemmas.Bool.{and_parts, eqb-true}
use Rattle.cap_format.specs.declared.kind.CapKind.{CapKind}
use Rattle.cap_format.specs.declared.kind.CapKind.TheVariants.{Gpt}
use Rattle.cap_format.specs.declared.item.Item.TheVariants.{Header}
use Rattle.cap_format.specs.Kind.{is_counted, number_of, object_kind}
use Rattle.cap_format.specs.Capability.{Capability, null}
use Rattle.cap_format.proofs.KindNumbers.{kind_of_number}
use Rattle.gpt_objects.specs.Gpt.{GptValue, slot_of, empty_gpt}
use Rattle.object_store.specs.Store.{Items, Store, gpt_at, header_at, slot_at, count_of, emptied_items}
use Rattle.object_store.specs.Meaning.{items_map}
use Rattle.object_store.specs.Differ.{Names, Forgets, DifferIn}
use Rattle.object_store.specs.Destruction.{names, forget, destruction}
use Rattle.object_store.proofs.Lists.{get_or-set}
use Rattle.object_store.proofs.Means.{header_at-items_map, slot_at-items_map}
use Rattle.object_store.proofs.Counted.{size_of-recounted, count_of-recounted}

-- what the test finds names the object
names-parts : (kind : CapKind) (n : ℕ) (c : Capability) → names kind n c ≡ true → Names kind n c
names-parts kind n c is =
    let parts = and_parts (is_counted c.kind && (number_of (object_kind c.kind) == number_of kind)) (c.object == n) is in
    let kinds = and_parts (is_counted c.kind) (number_of (object_kind c.kind) == number_of kind) parts.0 in
    record { counted = kinds.0; kind_is = kind_of_number _ _ (eqb-true _ _ kinds.1); object = eqb-true _ _ parts.1 }

-- a capability stays, or named the object and becomes Null
forget-slot : (kind : CapKind) (n : ℕ) (c : Capability) → (c ≡ forget kind n c) ⊎ Forgets kind n c (forget kind n c)
forget-slot kind n c = by (names kind n c) refl
  where
    by : (b : Bool) → names kind n c ≡ b → (c ≡ (if b then null else c)) ⊎ Forgets kind n c (if b then null else c)
    by true e = inr (inl (names-parts kind n c e, refl))
    by false e = inl refl

-- each other GPT stays
emptied_gpts-other : (o : Items) (kind : CapKind) (n g : ℕ) → ((Gpt ≡ kind) × (g ≡ n)) ⊎ (gpt_at o g ≡ gpt_at (emptied_items kind n o) g)
emptied_gpts-other o Gpt n g = elim (get_or-set o.gpts n g empty_gpt empty_gpt) [
  | inl here ↦ inl (refl, here.0)
  | inr same ↦ inr (sym same)
]
emptied_gpts-other o kind n g = inr refl

module _ (s : Store) (kind : CapKind) (n : ℕ) where
  abbrev o : Items
  o = s.items

  -- the items with the object empty, and those in which it is forgotten as well
  abbrev p : Items
  p = emptied_items kind n s.items

  abbrev q : Items
  q = items_map (forget kind n) p

  count-is : (k : CapKind) (m : ℕ) → ((k ≡ kind) × (m ≡ n)) ⊎ (count_of o k m ≡ count_of q k m)
  count-is k m = elim (count_of-recounted o.counts kind n (count_of o kind n + 1) k m) [
    | inl here ↦ inl (here.0, here.1)
    | inr same ↦ inr (sym same)
  ]

  header-is : (g : ℕ) → ((Gpt ≡ kind) × (g ≡ n)) ⊎ (header_at o g ≡ header_at q g)
  header-is g = elim (emptied_gpts-other o kind n g) [
    | inl here ↦ inl here
    | inr same ↦ inr (ap (λ (gpt : GptValue). gpt.header) same ∙ sym (header_at-items_map (forget kind n) refl p g))
  ]

  slot-is : (g i : ℕ) → ((Gpt ≡ kind) × (g ≡ n)) ⊎ ((slot_at o g i ≡ slot_at q g i) ⊎ Forgets kind n (slot_at o g i) (slot_at q g i))
  slot-is g i = elim (emptied_gpts-other o kind n g) [
    | inl here ↦ inl here
    | inr same ↦ inr (rw (slot_at-items_map (forget kind n) refl p g i, ← ap (λ gpt. slot_of gpt i) same) (forget-slot kind n (slot_at o g i)))
  ]

  -- the law
  pub differ-destruction : DifferIn (Header kind n) s.items (destruction kind n s).items
  differ-destruction = record {
    sizes = λ k. sym (size_of-recounted o.counts kind n _ k);
    counts = count-is;
    headers = header-is;
    slots = slot-is;
  }
