-- Copies of objects: each has a place of its own, and is that of its object while others are added.
use Rattle.std.proofs.Common.{◌≡◌, ℕ, ◌+◌, ◌<◌, ◌≤◌, eqb, ◌⊎◌, inl, inr, List, [], ◌∷◌, ◌++◌, map, drop, get_or, length, refl, sym, ap, ◌∙◌, subst, arith}
use Rattle.std.proofs.lemmas.List.{length-map}
use Rattle.std.specs.List.{All}
use Rattle.std.proofs.lemmas.Bool.{eq-eqb}
use Rattle.std.proofs.lemmas.List.{drop_more, drop_all, get_or-map}
use Rattle.std.proofs.lemmas.List.Elements.{All-push}
use Rattle.std.proofs.lemmas.List.Sums.{sum_by-drop_more}
use Rattle.cap_format.specs.Capability.{Capability}
use Rattle.cap_format.specs.declared.item.Item.{Item}
use Rattle.cap_format.specs.declared.item.Item.TheVariants.{Header}
use Rattle.cap_format.specs.declared.kind.CapKind.{CapKind}
use Rattle.cap_format.specs.declared.kind.CapKind.TheVariants.{Process}
use Rattle.cap_format.specs.Kind.{number_of}
use Rattle.object_store.specs.Store.{Store, Items, size_of}
use Rattle.object_store.specs.Object.{ObjectName, object_at, with_object, IsEven}
use Rattle.object_store.specs.Saved.{saved_of, restored, AreThere, slots_copied}
use Rattle.object_store.proofs.Lists.{map-map, map-same}
use Rattle.object_store.proofs.Same.{object_at_with_object, object_at_with_object_here}
use Rattle.walk_meaning.specs.declared.kind.Kind.{Kind}
use Rattle.machine_state.specs.declared.places.Place.{Place}
use Rattle.machine_state.specs.Outcome.{kept_after}
use Rattle.machine_state.specs.Past.{PastValue, name_at, names_in, saved_at, saved_in, same_kind, used, slots_back, touches_back, next_place, IsOwnPlace, IsPlaced, Holds}

-- a place by its parts
abbrev pub place_of : CapKind → ℕ → ℕ → Place
place_of kind number place = record { kind = kind; number = number; place = place }

-- ---- how many there are of a kind

-- a kind is the same as itself
pub same_kind_here : (kind : CapKind) → same_kind kind kind ≡ 1
same_kind_here kind = rw (eq-eqb (number_of kind) (number_of kind) refl) refl

-- one more
pub used_push : (kind : CapKind) (places : List Place) (p : Place) → used kind (places ++ p ∷ []) ≡ used kind places + same_kind p.kind kind
used_push kind [] p = omega arith
used_push kind (x ∷ xs) p = let rest = used_push kind xs p in omega (arith, rest)

-- ---- each has its own

-- a place stays an object's own where more are taken
own_more : (places more : List Place) (kind : CapKind) (number place : ℕ) → used kind places ≤ used kind more → IsOwnPlace places kind number place → IsOwnPlace more kind number place
own_more places more Process number place le own = own
own_more places more kind number place le own = omega (arith, own, le)

-- the next place is the new object's own
own_next : (places : List Place) (kind : CapKind) (number : ℕ) → IsOwnPlace (places ++ place_of kind number (next_place kind number places) ∷ []) kind number (next_place kind number places)
own_next places Process number = refl
own_next places kind number =
    let more = used_push kind places (place_of kind number (next_place kind number places)) in
    let one = same_kind_here kind in
    omega (arith, more, one)

-- two objects of a kind with one place are the same
same_number : (places : List Place) (kind : CapKind) (n m place : ℕ) → IsOwnPlace places kind n place → place ≡ next_place kind m places → n ≡ m
same_number places Process n m place own next = sym own ∙ next
same_number places kind n m place own next = absurd (omega (arith, own, next))

-- what is kept of every copy is kept where one more is made
pub placed_push : (copies more : Store) (places : List Place) (kind : CapKind) (number place : ℕ) → ((k : CapKind) → size_of more.items k ≡ size_of copies.items k) → place ≡ next_place kind number places → place < size_of copies.items kind → IsPlaced copies places → IsPlaced more (places ++ place_of kind number place ∷ [])
placed_push copies more places kind number place sizes next there placed = record {
  there = All-push (λ (p : Place). p.place < size_of more.items p.kind) places (place_of kind number place)
      (λ i d within. subst (λ (n : ℕ). (get_or places i d).place < n) (sym (sizes (get_or places i d).kind)) (placed.there i d within))
      (subst (λ (n : ℕ). place < n) (sym (sizes kind)) there);
  own = All-push (λ (p : Place). IsOwnPlace (places ++ place_of kind number place ∷ []) p.kind p.number p.place) places (place_of kind number place)
      (λ i d within. older (get_or places i d) (placed.own i d within))
      (rw next (own_next places kind number));
}
  where
    older : (p : Place) → IsOwnPlace places p.kind p.number p.place → IsOwnPlace (places ++ place_of kind number place ∷ []) p.kind p.number p.place
    older p own = own_more places (places ++ place_of kind number place ∷ []) p.kind p.number p.place (let more = used_push p.kind places (place_of kind number place) in omega (arith, more)) own

-- ---- what they hold

-- each copy is still that of its object where one more is made
pub holds_push : (copies s : Store) (places : List Place) (kind : CapKind) (number place : ℕ) → IsEven copies → IsPlaced copies places → place ≡ next_place kind number places → place < size_of copies.items kind
    → All (λ p. object_at copies p.kind p.place ≡ object_at s p.kind p.number) places
    → All (λ p. object_at (with_object copies place (object_at s kind number)) p.kind p.place ≡ object_at s p.kind p.number) (places ++ place_of kind number place ∷ [])
holds_push copies s places kind number place even placed next there each =
    All-push (λ (p : Place). object_at (with_object copies place (object_at s kind number)) p.kind p.place ≡ object_at s p.kind p.number) places (place_of kind number place)
    (λ i d within. older (get_or places i d) (placed.own i d within) (each i d within))
    (object_at_with_object_here copies s kind place number even there)
  where
    older : (p : Place) → IsOwnPlace places p.kind p.number p.place → object_at copies p.kind p.place ≡ object_at s p.kind p.number → object_at (with_object copies place (object_at s kind number)) p.kind p.place ≡ object_at s p.kind p.number
    older p own held = by (object_at_with_object copies s kind place number p.kind p.place)
      where
        by : ((p.kind ≡ kind) × (p.place ≡ place)) ⊎ (object_at (with_object copies place (object_at s kind number)) p.kind p.place ≡ object_at copies p.kind p.place) → object_at (with_object copies place (object_at s kind number)) p.kind p.place ≡ object_at s p.kind p.number
        by (inr other) = other ∙ held
        by (inl here) =
            let OfKind : CapKind → Type 0 = λ k. IsOwnPlace places k p.number p.place in
            let At : ℕ → Type 0 = λ n. IsOwnPlace places kind p.number n in
            let here_own : IsOwnPlace places kind p.number place = subst At here.1 (subst OfKind here.0 own) in
            let number_is : p.number ≡ number = same_number places kind p.number number place here_own next in
            rw (here.0, here.1, number_is) (object_at_with_object_here copies s kind place number even there)

-- copies that are those of their objects are what was saved of these
pub saved_holds : (past : PastValue) (s : Store) → Holds past s → saved_in past ≡ map (saved_of s) (names_in past)
saved_holds past s holds =
    map-same (saved_at past.copies) (λ p. saved_of s (name_at p)) past.places
    (λ i d within. ap (λ object. record { name = name_at (get_or past.places i d); object = object }) (holds.each i d within))
    ∙ sym (map-map (saved_of s) name_at past.places)

-- ---- one after the other

-- the object in a place is there, where all that are named are
pub there_at : (s : Store) (places : List Place) (i : ℕ) (d : Place) → i < length places → AreThere s (map name_at places) → (get_or places i d).number < size_of s.items (get_or places i d).kind
there_at s places i d within there =
    let e = get_or-map name_at places i d (name_at d) within in
    let There : ObjectName → Type 0 = λ name. name.number < size_of s.items name.kind in
    subst There e (there i (name_at d) (rw (length-map places name_at) within))

-- the next of the rest is put back
pub restored_next : (copies : Store) (places : List Place) (i : ℕ) (d : Place) (o : Store) → i < length places
    → restored (map (saved_at copies) (drop i places)) o ≡ restored (map (saved_at copies) (drop (i + 1) places)) (with_object o (get_or places i d).number (object_at copies (get_or places i d).kind (get_or places i d).place))
unfolding restored
restored_next copies places i d o within = ap (λ rest. restored (map (saved_at copies) rest) o) (drop_more places i d within)

-- how many slots the next of the rest and all behind it read
pub slots_next : (places : List Place) (i : ℕ) (d : Place) → i < length places → slots_back (drop i places) ≡ slots_copied (get_or places i d).kind + slots_back (drop (i + 1) places)
slots_next places i d within = sum_by-drop_more (λ (p : Place). slots_copied p.kind) places i d within

-- none is left
pub restored_end : (copies : Store) (places : List Place) (i : ℕ) (o : Store) → length places ≤ i → restored (map (saved_at copies) (drop i places)) o ≡ o
unfolding restored
restored_end copies places i o past = ap (λ rest. restored (map (saved_at copies) rest) o) (drop_all i places past)

-- and none is read
pub slots_end : (places : List Place) (i : ℕ) → length places ≤ i → slots_back (drop i places) ≡ 0
slots_end places i past = ap slots_back (drop_all i places past)

-- what a translator keeps after the next of the rest and all behind it, and after none
module _ {K : Type 0} (cost : K → Items → Capability → ℕ → Kind → ℕ) (after : K → Items → Capability → ℕ → Kind → K) (without : K → Item → K) (k : K) where
  pub kept_next : (places : List Place) (i : ℕ) (d : Place) → i < length places
      → kept_after cost after without k (touches_back (drop i places))
      ≡ kept_after cost after without (without k (Header (get_or places i d).kind (get_or places i d).number)) (touches_back (drop (i + 1) places))
  kept_next places i d within = ap (λ rest. kept_after cost after without k (touches_back rest)) (drop_more places i d within)

  pub kept_end : (places : List Place) (i : ℕ) → length places ≤ i → kept_after cost after without k (touches_back (drop i places)) ≡ k
  kept_end places i past = ap (λ rest. kept_after cost after without k (touches_back rest)) (drop_all i places past)
