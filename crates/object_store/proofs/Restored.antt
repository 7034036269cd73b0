-- Saved objects that are put back: which objects they leave, and that the store is the one that was saved where no other
-- object differs.
use Rattle.std.proofs.Common.{◌≡◌, ◌≢◌, ℕ, ◌<◌, ◌⊎◌, inl, inr, List, [], ◌∷◌, map, get_or, refl, sym, ap, ◌∙◌, subst, arith}
use Rattle.std.proofs.lemmas.Bool.{cases_eq}
use Rattle.std.proofs.lemmas.List.{get_or-set_other}
use Rattle.std.proofs.lemmas.List.Elements.{All-tail}
use Rattle.cap_format.specs.declared.kind.CapKind.{CapKind}
use Rattle.cap_format.specs.declared.kind.CapKind.TheVariants.{Page, CapPage, Gpt, Endpoint, Process}
use Rattle.cap_format.specs.declared.item.Item.TheVariants.{Header}
use Rattle.gpt_objects.specs.Gpt.{empty_gpt}
use Rattle.object_store.specs.declared.sizes.Sizes.{Sizes}
use Rattle.object_store.specs.Store.{Store, size_of, count_of, gpt_at, sizes_of, set_count, set_gpt}
use Rattle.object_store.specs.Sizes.{size_in}
use Rattle.object_store.specs.Meaning.{map_of}
use Rattle.object_store.specs.Differ.{DifferIn}
use Rattle.object_store.specs.Object.{ObjectName, object_at, with_object, SameObject, IsAmong, Stays, IsEven}
use Rattle.object_store.specs.Saved.{Saved, saved_of, restored, AreThere}
use Rattle.object_store.proofs.DifferLaws.{DifferIn-recounted, DifferIn-set_count}
use Rattle.object_store.proofs.Same.{same_stores, size_in_store, sizes_with_object, even_with_object, object_at_with_object, object_at_with_object_here}

-- ---- one object

-- with stores of the same sizes there are as many objects of each kind
pub size_of_same : (s t : Store) → sizes_of s ≡ sizes_of t → (kind : CapKind) → size_of s.items kind ≡ size_of t.items kind
size_of_same s t same kind = sym (size_in_store s kind) ∙ ap (λ (z : Sizes). size_in z kind) same ∙ size_in_store t kind

-- an object put in another's place changes that object's header item alone: its count, header and slots are one item
pub DifferIn-with_object : (s t : Store) (kind : CapKind) (n m : ℕ) → n < size_of s.items kind → DifferIn (Header kind n) (map_of s.items) (map_of (with_object s n (object_at t kind m)).items)
DifferIn-with_object s t Page n m there = DifferIn-set_count s.items Page n (count_of t.items Page m)
DifferIn-with_object s t CapPage n m there = DifferIn-set_count s.items CapPage n (count_of t.items CapPage m)
DifferIn-with_object s t Process n m there = DifferIn-set_count s.items Process n (count_of t.items Process m)
DifferIn-with_object s t Endpoint n m there = DifferIn-set_count s.items Endpoint n (count_of t.items Endpoint m)
DifferIn-with_object s t Gpt n m there = DifferIn-recounted s.items (set_gpt (set_count s.items Gpt n (count_of t.items Gpt m)) n (gpt_at t.items m)) Gpt n (count_of t.items Gpt m) refl (λ g. by g (cases_eq g n))
  where
    by : (g : ℕ) → (g ≡ n) ⊎ (g ≢ n) → ((Gpt ≡ Gpt) × (g ≡ n)) ⊎ (gpt_at s.items g ≡ gpt_at (set_gpt (set_count s.items Gpt n (count_of t.items Gpt m)) n (gpt_at t.items m)) g)
    by g (inl here) = inl (refl, here)
    by g (inr other) = inr (sym (get_or-set_other s.items.gpts n g (gpt_at t.items m) empty_gpt other))
DifferIn-with_object s t kind n m there = absurd (omega (arith, there))

-- ---- all that were saved

-- no object comes or goes
pub sizes_restored : (saved : List Saved) (s : Store) → sizes_of (restored saved s) ≡ sizes_of s
unfolding restored
sizes_restored [] s = refl
sizes_restored (x ∷ xs) s = sizes_restored xs (with_object s x.name.number x.object) ∙ sizes_with_object s x.name.number x.object

-- there are still as many objects as counts
pub even_restored : (saved : List Saved) (s : Store) → IsEven s → IsEven (restored saved s)
unfolding restored
even_restored [] s even = even
even_restored (x ∷ xs) s even = even_restored xs (with_object s x.name.number x.object) (even_with_object s x.name.number x.object even)

-- names of objects of one store are those of objects of another of the same sizes
pub there_same : (s t : Store) (names : List ObjectName) → sizes_of s ≡ sizes_of t → AreThere t names → AreThere s names
there_same s t names same there = λ i d within. subst (λ (k : ℕ). (get_or names i d).number < k) (sym (size_of_same s t same (get_or names i d).kind)) (there i d within)

-- the other names are still those of objects that are there
there_more : (s : Store) (name : ObjectName) (names : List ObjectName) (t : Store) → AreThere t (name ∷ names) → AreThere (with_object t name.number (object_at s name.kind name.number)) names
there_more s name names t there =
    there_same (with_object t name.number (object_at s name.kind name.number)) t names (sizes_with_object t name.number (object_at s name.kind name.number)) (All-tail (λ (x : ObjectName). x.number < size_of t.items x.kind) name names there)

-- an object that is as in the store that was saved stays so, whatever is put back
pub same_restored : (s : Store) (names : List ObjectName) (t : Store) (kind : CapKind) (n : ℕ) → IsEven t → AreThere t names → SameObject kind n t s → SameObject kind n (restored (map (saved_of s) names) t) s
unfolding restored
same_restored s [] t kind n even there same = same
same_restored s (name ∷ names) t kind n even there same =
    same_restored s names (with_object t name.number (object_at s name.kind name.number)) kind n
    (even_with_object t name.number (object_at s name.kind name.number) even)
    (there_more s name names t there)
    (by (object_at_with_object t s name.kind name.number name.number kind n))
  where
    by : ((kind ≡ name.kind) × (n ≡ name.number)) ⊎ (object_at (with_object t name.number (object_at s name.kind name.number)) kind n ≡ object_at t kind n) → SameObject kind n (with_object t name.number (object_at s name.kind name.number)) s
    by (inr other) = other ∙ same
    by (inl here) = rw (here.0, here.1) (object_at_with_object_here t s name.kind name.number name.number even (there 0 name (omega arith)))

-- each object that is named is that of the store that was saved
pub among_restored : (s : Store) (names : List ObjectName) (t : Store) (kind : CapKind) (n : ℕ) → IsEven t → AreThere t names → IsAmong kind n names → SameObject kind n (restored (map (saved_of s) names) t) s
unfolding restored
among_restored s [] t kind n even there among = elim among [ ]
among_restored s (name ∷ names) t kind n even there (inl here) =
    same_restored s names (with_object t name.number (object_at s name.kind name.number)) kind n
    (even_with_object t name.number (object_at s name.kind name.number) even)
    (there_more s name names t there)
    (rw (here.0, here.1) (object_at_with_object_here t s name.kind name.number name.number even (there 0 name (omega arith))))
among_restored s (name ∷ names) t kind n even there (inr later) =
    among_restored s names (with_object t name.number (object_at s name.kind name.number)) kind n
    (even_with_object t name.number (object_at s name.kind name.number) even)
    (there_more s name names t there) later

-- Where all objects but the named ones are stored as in `s`, the store is `s` once those that were saved there are back.
pub restored_same : (s t : Store) (names : List ObjectName) → IsEven s → IsEven t → sizes_of t ≡ sizes_of s → AreThere t names → Stays names s t → restored (map (saved_of s) names) t ≡ s
restored_same s t names even_too even sizes there stays =
    same_stores (restored (map (saved_of s) names) t) s
    (even_restored (map (saved_of s) names) t even) even_too
    (sizes_restored (map (saved_of s) names) t ∙ sizes)
    (λ kind n. by kind n (stays.same kind n))
  where
    by : (kind : CapKind) (n : ℕ) → IsAmong kind n names ⊎ SameObject kind n s t → SameObject kind n (restored (map (saved_of s) names) t) s
    by kind n (inl among) = among_restored s names t kind n even there among
    by kind n (inr same) = same_restored s names t kind n even there (sym same)
