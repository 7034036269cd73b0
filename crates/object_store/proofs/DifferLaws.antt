-- Laws of one-item difference: which writes make it, and that it has no direction.
use Rattle.std.proofs.Common.{◌≡◌, ℕ, ◌⊎◌, inl, inr, get_or, refl, sym, ap, ◌∙◌}
use Rattle.cap_format.specs.declared.kind.CapKind.{CapKind}
use Rattle.cap_format.specs.declared.kind.CapKind.TheVariants.{Gpt}
use Rattle.cap_format.specs.declared.item.Item.{Item}
use Rattle.cap_format.specs.declared.item.Item.TheVariants.{Header, Slot}
use Rattle.cap_format.specs.Capability.{Capability, null}
use Rattle.gpt_objects.specs.Header.{HeaderValue}
use Rattle.gpt_objects.specs.Gpt.{GptValue, slot_of, with_slot, with_header, empty_gpt}
use Rattle.object_store.specs.Store.{Items, gpt_at, header_at, slot_at, count_of, set_slot, set_header, set_count, recounted, emptied_gpts, emptied_items}
use Rattle.object_store.specs.Meaning.{meaning, map_of}
use Rattle.object_store.specs.Differ.{Forgets, DifferIn}
use Rattle.object_store.proofs.Lists.{get_or-set}
use Rattle.object_store.proofs.Means.{header_at-map_of, slot_at-map_of, map_of-set_slot, map_of-set_header}
use Rattle.object_store.proofs.Counted.{size_of-recounted, count_of-recounted, meaning-recounted}

-- ---- both directions

-- an equation under an exception, from the other side
turn : {A : Type 0} {P : Type 0} {x y : A} → P ⊎ (x ≡ y) → P ⊎ (y ≡ x)
turn (inl here) = inl here
turn (inr same) = inr (sym same)

-- what differs in one item in one direction does in the other
pub DifferIn-symmetric : (item : Item) (o p : Items) → DifferIn item o p → DifferIn item p o
DifferIn-symmetric (Slot g i) o p differ = record {
  sizes = λ kind. sym (differ.sizes kind);
  counts = λ kind n. sym (differ.counts kind n);
  headers = λ h. sym (differ.headers h);
  slots = λ h j. turn (differ.slots h j);
}
DifferIn-symmetric (Header kind n) o p differ = record {
  sizes = λ k. sym (differ.sizes k);
  counts = λ k m. turn (differ.counts k m);
  headers = λ g. turn (differ.headers g);
  slots = λ g i. turn_slot g i (differ.slots g i);
}
  where
    turn_slot : (g i : ℕ) → ((Gpt ≡ kind) × (g ≡ n)) ⊎ ((slot_at o g i ≡ slot_at p g i) ⊎ Forgets kind n (slot_at o g i) (slot_at p g i))
        → ((Gpt ≡ kind) × (g ≡ n)) ⊎ ((slot_at p g i ≡ slot_at o g i) ⊎ Forgets kind n (slot_at p g i) (slot_at o g i))
    turn_slot g i (inl here) = inl here
    turn_slot g i (inr (inl same)) = inr (inl (sym same))
    turn_slot g i (inr (inr (inl forgot))) = inr (inr (inr forgot))
    turn_slot g i (inr (inr (inr forgot))) = inr (inr (inl forgot))

-- ---- a slot, a header

-- another slot of a GPT changes the items in that slot alone
pub DifferIn-set_slot : (o : Items) (g i : ℕ) (c : Capability) → DifferIn (Slot g i) o (set_slot o g i c)
DifferIn-set_slot o g i c = record {
  sizes = λ kind. refl;
  counts = λ kind n. refl;
  headers = λ h. header_is h (get_or-set o.gpts g h (with_slot (gpt_at o g) i c) empty_gpt);
  slots = λ h j. slot_is h j (get_or-set o.gpts g h (with_slot (gpt_at o g) i c) empty_gpt);
}
  where
    header_is : (h : ℕ) → ((h ≡ g) × (gpt_at (set_slot o g i c) h ≡ with_slot (gpt_at o g) i c)) ⊎ (gpt_at (set_slot o g i c) h ≡ gpt_at o h)
        → header_at o h ≡ header_at (set_slot o g i c) h
    header_is h (inl written) = ap (header_at o) written.0 ∙ sym (ap (λ (gpt : GptValue). gpt.header) written.1)
    header_is h (inr same) = sym (ap (λ (gpt : GptValue). gpt.header) same)

    slot_is : (h j : ℕ) → ((h ≡ g) × (gpt_at (set_slot o g i c) h ≡ with_slot (gpt_at o g) i c)) ⊎ (gpt_at (set_slot o g i c) h ≡ gpt_at o h)
        → ((h ≡ g) × (j ≡ i)) ⊎ (slot_at o h j ≡ slot_at (set_slot o g i c) h j)
    slot_is h j (inr same) = inr (sym (ap (λ gpt. slot_of gpt j) same))
    slot_is h j (inl written) = elim (get_or-set (gpt_at o g).slots i j c null) [
      | inl here ↦ inl (written.0, here.0)
      | inr other ↦ inr (ap (λ k. slot_at o k j) written.0 ∙ sym other ∙ sym (ap (λ gpt. slot_of gpt j) written.1))
    ]

-- another header of a GPT changes the items in that header alone
pub DifferIn-set_header : (o : Items) (g : ℕ) (header : HeaderValue) → DifferIn (Header Gpt g) o (set_header o g header)
DifferIn-set_header o g header = record {
  sizes = λ k. refl;
  counts = λ k m. inr refl;
  headers = λ h. at h (λ (gpt : GptValue). gpt.header) (get_or-set o.gpts g h (with_header (gpt_at o g) header) empty_gpt);
  slots = λ h i. slot_is h i (get_or-set o.gpts g h (with_header (gpt_at o g) header) empty_gpt);
}
  where
    at : {A : Type 0} (h : ℕ) (part : GptValue → A) → ((h ≡ g) × (gpt_at (set_header o g header) h ≡ with_header (gpt_at o g) header)) ⊎ (gpt_at (set_header o g header) h ≡ gpt_at o h)
        → ((Gpt ≡ Gpt) × (h ≡ g)) ⊎ (part (gpt_at o h) ≡ part (gpt_at (set_header o g header) h))
    at h part (inl written) = inl (refl, written.0)
    at h part (inr same) = inr (sym (ap part same))

    slot_is : (h i : ℕ) → ((h ≡ g) × (gpt_at (set_header o g header) h ≡ with_header (gpt_at o g) header)) ⊎ (gpt_at (set_header o g header) h ≡ gpt_at o h)
        → ((Gpt ≡ Gpt) × (h ≡ g)) ⊎ ((slot_at o h i ≡ slot_at (set_header o g header) h i) ⊎ Forgets Gpt g (slot_at o h i) (slot_at (set_header o g header) h i))
    slot_is h i (inl written) = inl (refl, written.0)
    slot_is h i (inr same) = inr (inl (sym (ap (λ gpt. slot_of gpt i) same)))

-- another slot of a GPT changes the map in that slot alone
pub DifferIn-slot_meaning : (o : Items) (g i : ℕ) (c : Capability) → DifferIn (Slot g i) (map_of o) (map_of (set_slot o g i c))
DifferIn-slot_meaning o g i c = rw (map_of-set_slot o g i c) (DifferIn-set_slot (map_of o) g i (meaning o c))

-- another header of a GPT changes the map in that header alone
pub DifferIn-header_meaning : (o : Items) (g : ℕ) (header : HeaderValue) → DifferIn (Header Gpt g) (map_of o) (map_of (set_header o g header))
DifferIn-header_meaning o g header = rw (map_of-set_header o g header) (DifferIn-set_header (map_of o) g header)

-- ---- a count, a destruction

-- Another count for one object, whose header and slots may have changed where it is a GPT, changes the map in that
-- object's header item alone. It does not matter whether a capability is ahead.
pub DifferIn-recounted : (o p : Items) (kind : CapKind) (n count : ℕ) → p.counts ≡ recounted o.counts kind n count
    → ((g : ℕ) → ((Gpt ≡ kind) × (g ≡ n)) ⊎ (gpt_at o g ≡ gpt_at p g))
    → DifferIn (Header kind n) (map_of o) (map_of p)
DifferIn-recounted o p kind n count new gpts = record {
  sizes = λ k. rw new (sym (size_of-recounted o.counts kind n count k));
  counts = λ k m. count_is k m (count_of-recounted o.counts kind n count k m);
  headers = λ g. header_is g (gpts g);
  slots = λ g i. slot_is g i (gpts g);
}
  where
    count_is : (k : CapKind) (m : ℕ) → ((k ≡ kind) × (m ≡ n) × (count_of (record { counts = recounted o.counts kind n count; gpts = o.gpts }) k m ≡ count)) ⊎ (count_of (record { counts = recounted o.counts kind n count; gpts = o.gpts }) k m ≡ count_of o k m)
        → ((k ≡ kind) × (m ≡ n)) ⊎ (count_of o k m ≡ count_of p k m)
    count_is k m (inl here) = inl (here.0, here.1)
    count_is k m (inr same) = inr (rw new (sym same))

    header_is : (g : ℕ) → ((Gpt ≡ kind) × (g ≡ n)) ⊎ (gpt_at o g ≡ gpt_at p g) → ((Gpt ≡ kind) × (g ≡ n)) ⊎ (header_at (map_of o) g ≡ header_at (map_of p) g)
    header_is g (inl here) = inl here
    header_is g (inr same) = inr (header_at-map_of o g ∙ ap (λ (gpt : GptValue). gpt.header) same ∙ sym (header_at-map_of p g))

    slot_is : (g i : ℕ) → ((Gpt ≡ kind) × (g ≡ n)) ⊎ (gpt_at o g ≡ gpt_at p g)
        → ((Gpt ≡ kind) × (g ≡ n)) ⊎ ((slot_at (map_of o) g i ≡ slot_at (map_of p) g i) ⊎ Forgets kind n (slot_at (map_of o) g i) (slot_at (map_of p) g i))
    slot_is g i (inl here) = inl here
    slot_is g i (inr same) = inr (rw (slot_at-map_of o g i, slot_at-map_of p g i, ← ap (λ gpt. slot_of gpt i) same) (meaning-recounted o.counts kind n count o p refl new (slot_at o g i)))

-- another count changes the map in the object's header item alone
pub DifferIn-set_count : (o : Items) (kind : CapKind) (n count : ℕ) → DifferIn (Header kind n) (map_of o) (map_of (set_count o kind n count))
DifferIn-set_count o kind n count = DifferIn-recounted o (set_count o kind n count) kind n count refl (λ g. inr refl)

-- when one object becomes empty, each other GPT stays
emptied_gpts-at : (o : Items) (kind : CapKind) (n g : ℕ) → ((Gpt ≡ kind) × (g ≡ n)) ⊎ (gpt_at o g ≡ get_or (emptied_gpts kind n o.gpts) g empty_gpt)
emptied_gpts-at o Gpt n g = elim (get_or-set o.gpts n g empty_gpt empty_gpt) [
  | inl here ↦ inl (refl, here.0)
  | inr same ↦ inr (sym same)
]
emptied_gpts-at o kind n g = inr refl

-- a destruction changes the map in the object's header item alone
pub DifferIn-emptied : (o : Items) (kind : CapKind) (n : ℕ) → DifferIn (Header kind n) (map_of o) (map_of (emptied_items kind n o))
DifferIn-emptied o kind n = DifferIn-recounted o (emptied_items kind n o) kind n _ refl (emptied_gpts-at o kind n)
