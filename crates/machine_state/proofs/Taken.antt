-- Objects that are taken over from another store, one after the other: of those that are left to take each may differ, and
-- no other.
use Rattle.std.proofs.Common.{◌≡◌, ℕ, ◌+◌, ◌<◌, ◌≤◌, ◌⊎◌, inl, inr, List, [], ◌∷◌, map, drop, get_or, length, sym, ap, ◌∙◌, subst}
use Rattle.std.proofs.lemmas.List.{drop_more, drop_all, get_or-map, length-map}
use Rattle.std.proofs.lemmas.List.Sums.{sum_by-cons}
use Rattle.cap_format.specs.declared.kind.CapKind.{CapKind}
use Rattle.object_store.specs.Store.{Store, size_of, sizes_of}
use Rattle.object_store.specs.Object.{ObjectName, object_name, object_at, with_object, SameObject, IsAmong, Stays, IsEven}
use Rattle.object_store.specs.Saved.{AreThere, slots_copied}
use Rattle.object_store.proofs.Same.{same_stores, object_at_with_object, object_at_with_object_here}
use Rattle.machine_state.specs.declared.taking.Name.{Name}
use Rattle.machine_state.specs.Taking.{name_of, names_of, slots_taken}

-- an object that is taken over is no longer among those that may differ
pub stays_taken : (s t : Store) (kind : CapKind) (number : ℕ) (names : List ObjectName) → IsEven t → number < size_of t.items kind → Stays (object_name kind number ∷ names) s t → Stays names s (with_object t number (object_at s kind number))
stays_taken s t kind number names even there stays = record { same = λ k n. by k n (stays.same k n) (object_at_with_object t s kind number number k n) }
  where
    here : (k : CapKind) (n : ℕ) → k ≡ kind → n ≡ number → SameObject k n s (with_object t number (object_at s kind number))
    here k n same_kind same_number = rw (same_kind, same_number) (sym (object_at_with_object_here t s kind number number even there))

    by : (k : CapKind) (n : ℕ) → IsAmong k n (object_name kind number ∷ names) ⊎ SameObject k n s t → ((k ≡ kind) × (n ≡ number)) ⊎ SameObject k n (with_object t number (object_at s kind number)) t → IsAmong k n names ⊎ SameObject k n s (with_object t number (object_at s kind number))
    by k n stays (inl taken) = inr (here k n taken.0 taken.1)
    by k n (inl (inl named)) (inr other) = inr (here k n named.0 named.1)
    by k n (inl (inr later)) (inr other) = inl later
    by k n (inr same) (inr other) = inr (same ∙ sym other)

-- stores in which no object may differ are one
pub stays_none : (s t : Store) → IsEven s → IsEven t → sizes_of t ≡ sizes_of s → Stays [] s t → t ≡ s
stays_none s t even even_too sizes stays = same_stores t s even_too even sizes (λ kind n. by kind n (stays.same kind n))
  where
    by : (kind : CapKind) (n : ℕ) → IsAmong kind n [] ⊎ SameObject kind n s t → SameObject kind n t s
    by kind n (inl none) = elim none [ ]
    by kind n (inr same) = sym same

-- ---- one after the other

-- a name by its parts
abbrev pub name_by : CapKind → ℕ → Name
name_by kind number = record { kind = kind; number = number }

-- the next of the rest
pub names_next : (names : List Name) (i : ℕ) (d : Name) → i < length names → names_of (drop i names) ≡ name_of (get_or names i d) ∷ names_of (drop (i + 1) names)
names_next names i d within = ap names_of (drop_more names i d within)

-- how many slots the next of the rest and all behind it read
pub slots_next : (names : List Name) (i : ℕ) (d : Name) → i < length names → slots_taken (names_of (drop i names)) ≡ slots_copied (get_or names i d).kind + slots_taken (names_of (drop (i + 1) names))
slots_next names i d within =
    ap slots_taken (names_next names i d within)
    ∙ sum_by-cons (λ (name : ObjectName). slots_copied name.kind) (name_of (get_or names i d)) (names_of (drop (i + 1) names))

-- none is left
pub names_end : (names : List Name) (i : ℕ) → length names ≤ i → names_of (drop i names) ≡ []
names_end names i past = ap names_of (drop_all i names past)

-- the object in a place is there, where all that are named are
pub name_there : (s : Store) (names : List Name) (i : ℕ) (d : Name) → i < length names → AreThere s (names_of names) → (get_or names i d).number < size_of s.items (get_or names i d).kind
name_there s names i d within there =
    let e = get_or-map name_of names i d (name_of d) within in
    let There : ObjectName → Type 0 = λ name. name.number < size_of s.items name.kind in
    subst There e (there i (name_of d) (rw (length-map names name_of) within))
