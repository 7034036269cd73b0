-- That what is found by the index is what stands among the namings.
use Rattle.std.proofs.Common.{ℕ, ◌≡◌, ◌==◌, refl, sym, ap, ◌∙◌, subst, take-append-drop, true, false, is_eq, nat_cmp, List, [], ◌∷◌, take, drop, find, Vec, Option, Some, None, is_some, option_map, bytes_eq, BTreeMap}
use Rattle.std.specs.Option.{option_or}
use Rattle.std.specs.Cmp.{eq_by_cmp_equiv}
use Rattle.std.specs.Cmp.Lexicographic.{slice_cmp, nat_list_cmp_total}
use Rattle.std.specs.Map.{KeepsOthers}
use Rattle.std.specs.BTreeMap.{is_at, Updates}
use Rattle.std.proofs.lemmas.Bool.{or_parts, and_left, cond-false, cond_both, both_ways, false_from_ne_true}
use Rattle.std.proofs.lemmas.List.Folds.{find-append}
use Rattle.std.proofs.lemmas.Map.Text.{is_eq-slice_cmp}
use Rattle.std.proofs.lemmas.Slice.Eq.{bytes_eq-Decides}
use Rattle.cap_format.specs.declared.kind.CapKind.{CapKind}
use Rattle.cap_format.specs.Kind.{number_of}
use Rattle.listing_read.specs.declared.names.Naming.{Naming}
use Rattle.listing_read.specs.Names.{gives, stands_for, is_taken, number_called}
use Rattle.listing_read.specs.NameIndex.{IsFirst, IsFound, place_in, Notes}

-- a name that isn't given stands for nothing
find-untaken : (kind : CapKind) (name : List ℕ) (namings : List Naming) → is_taken name namings ≡ false → find (stands_for kind name) namings ≡ None
find-untaken kind name [] free = refl
find-untaken kind name (naming ∷ namings) free =
    let parts = or_parts (gives name naming) (is_taken name namings) free in
    let apart = and_left (gives name naming) (number_of naming.kind == number_of kind) parts.0 in
    cond-false (stands_for kind name naming) (Some naming) (find (stands_for kind name) namings) apart
    ∙ find-untaken kind name namings parts.1

-- so does one that isn't found
pub number_called-unfound : (kind : CapKind) (name : List ℕ) (namings : List Naming) → IsFound name namings None → number_called kind name namings ≡ None
unfolding number_called
number_called-unfound kind name namings free = ap (option_map (λ naming. naming.number)) (find-untaken kind name namings free)

-- and one that is found stands for what it does from its place on
pub number_called-drop : (kind : CapKind) (name : List ℕ) (namings : List Naming) (place : ℕ) → IsFirst name namings place → number_called kind name (drop place namings) ≡ number_called kind name namings
unfolding number_called
number_called-drop kind name namings place first =
    let rest = find (stands_for kind name) (drop place namings) in
    let whole =
    ap (find (stands_for kind name)) (sym (take-append-drop place namings))
    ∙ find-append (stands_for kind name) (take place namings) (drop place namings)
    ∙ ap (λ found. option_or found rest) (find-untaken kind name (take place namings) first.not_before) in
    ap (option_map (λ naming. naming.number)) (sym whole)

-- no place
pub none_from_not_some : (place : Option ℕ) → is_some place ≡ false → place ≡ None
none_from_not_some None not = refl
none_from_not_some (Some place) not = absurd (both_ways true not refl)

-- and so with nothing to note
option_or-none : (place : Option ℕ) → place ≡ option_or place None
option_or-none None = refl
option_or-none (Some place) = refl

-- a key that is one name is no other
apart : (name other key : List ℕ) → bytes_eq name other ≡ false → is_eq (slice_cmp nat_cmp name key) ≡ true → is_eq (slice_cmp nat_cmp other key) ≡ false
apart name other key differ here =
    let same : name ≡ key = (bytes_eq-Decides name key).0 (sym (is_eq-slice_cmp name key) ∙ here) in
    is_eq-slice_cmp other key
    ∙ false_from_ne_true (bytes_eq other key) (λ too. both_ways (bytes_eq name other) differ ((bytes_eq-Decides name other).1 (same ∙ sym ((bytes_eq-Decides other key).0 too))))

module _ {Z : Type 0} where
  module _ (old new : BTreeMap (Vec ℕ Z) ℕ) (key : Vec ℕ Z) (place : ℕ) where
    -- the name that is inserted
    inserted_here : Updates (λ x y. slice_cmp nat_cmp x.items y.items) old new key (Some place) → place_in new key.items ≡ Some place
    inserted_here updates = updates.1

    -- another name
    inserted_elsewhere : (name : List ℕ) → Updates (λ x y. slice_cmp nat_cmp x.items y.items) old new key (Some place) → bytes_eq key.items name ≡ false → place_in new name ≡ place_in old name
    unfolding KeepsOthers
    inserted_elsewhere name updates differ =
        updates.3 (is_at (λ k. slice_cmp nat_cmp name k.items)) (λ x y. (eq_by_cmp_equiv nat_list_cmp_total).congr name x.items y.items) (λ k. apart key.items name k.items differ)

    -- a name that has no place gets this one
    pub notes_inserted : Updates (λ x y. slice_cmp nat_cmp x.items y.items) old new key (Some place) → place_in old key.items ≡ None → Notes old new key.items place
    notes_inserted updates absent name =
        cond_both (bytes_eq key.items name) (Some place) None (λ note. place_in new name ≡ option_or (place_in old name) note)
        (λ same.
        let is = (bytes_eq-Decides key.items name).0 same in
        subst (λ n. place_in new n ≡ Some place) is (inserted_here updates) ∙ ap (λ found. option_or found (Some place)) (sym (subst (λ n. place_in old n ≡ None) is absent)))
        (λ differ. inserted_elsewhere name updates differ ∙ option_or-none (place_in old name))
