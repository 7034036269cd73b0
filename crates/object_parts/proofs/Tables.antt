-- Tables: what stands for the same has one number, and numbers keep what they stand for.
use Rattle.std.proofs.Common.{◌≡◌, ℕ, ◌<◌, ◌≤◌, zero, suc, ◌⊎◌, inl, inr, Bool, true, List, [], ◌∷◌, ◌++◌, map, get_or, slice_get, Option, Some, None, refl, sym, ap, ◌∙◌, append_assoc, append-nil, arith}
use Rattle.std.specs.Bool.{Decides}
use Rattle.std.specs.List.{IsDistinct, position}
use Rattle.std.specs.Option.{option_map}
use Rattle.std.proofs.lemmas.Bool.{cases_lt}
use Rattle.std.proofs.lemmas.Option.{slice_get-map, slice_get_within, get_or_from_slice_get}
use Rattle.std.proofs.lemmas.List.Quantifiers.{position-Some}
use Rattle.std.proofs.lemmas.Map.Keys.{apart_from_distinct}
use Rattle.object_parts.specs.Table.{AreApart, Grows}

-- what has a number that stands for something
pub named : {K V : Type 0} (content : K → V) (o : Option K) (x : V) → option_map content o ≡ Some x → (a : K) × (o ≡ Some a) × (content a ≡ x)
named content None x e = cc
named content (Some a) x e = (a, refl, cc)

module _ {K V : Type 0} (content : K → V) (eq : K → K → Bool) (decides : (a b : K) → Decides (eq a b) (content a ≡ content b)) where
  before : (ks : List K) (i j : ℕ) (a b : K) → IsDistinct eq ks → i < j → slice_get ks i ≡ Some a → slice_get ks j ≡ Some b → content a ≡ content b → ⊥
  before ks i j a b distinct earlier first second same =
      let here : get_or ks i a ≡ a = get_or_from_slice_get ks i a a first in
      let there : get_or ks j a ≡ b = get_or_from_slice_get ks j b a second in
      let none = apart_from_distinct eq ks i j a distinct earlier (slice_get_within ks j b second) in
      let both : eq (get_or ks i a) (get_or ks j a) ≡ true = rw (here, there) ((decides a b).1 same) in
      cc

  -- keys that are told apart stand for different things
  pub apart : (ks : List K) → IsDistinct eq ks → AreApart (map content ks)
  apart ks distinct = record { each = λ i j x first second. by i j x (named content (slice_get ks i) x (sym (slice_get-map content ks i) ∙ first)) (named content (slice_get ks j) x (sym (slice_get-map content ks j) ∙ second)) (cases_lt i j) (cases_lt j i) }
    where
      by : (i j : ℕ) (x : V) → (a : K) × (slice_get ks i ≡ Some a) × (content a ≡ x) → (b : K) × (slice_get ks j ≡ Some b) × (content b ≡ x) → (i < j) ⊎ (j ≤ i) → (j < i) ⊎ (i ≤ j) → i ≡ j
      by i j x first second (inl earlier) other = absurd (before ks i j first.0 second.0 distinct earlier first.1 second.1 (first.2 ∙ sym second.2))
      by i j x first second (inr past) (inl later) = absurd (before ks j i second.0 first.0 distinct later second.1 first.1 (second.2 ∙ sym first.2))
      by i j x first second (inr past) (inr most) = omega (arith, past, most)

  -- the number of a key that is equal stands for the same
  pub stored : (ks : List K) (i : ℕ) (value k : K) → slice_get ks i ≡ Some k → eq value k ≡ true → slice_get (map content ks) i ≡ Some (content value)
  stored ks i value k there same = slice_get-map content ks i ∙ ap (option_map content) there ∙ ap Some (sym ((decides value k).0 same))

-- a number keeps what it stands for
pub grown_get : {V : Type 0} (old new : List V) (i : ℕ) (x : V) → Grows old new → slice_get old i ≡ Some x → slice_get new i ≡ Some x
grown_get old new i x grows there = rw grows.behind (front old grows.added i x there)
  where
    front : {V : Type 0} (old added : List V) (i : ℕ) (x : V) → slice_get old i ≡ Some x → slice_get (old ++ added) i ≡ Some x
    front [] added i x there = cc
    front (y ∷ ys) added zero x there = there
    front (y ∷ ys) added (suc i) x there = front ys added i x there

-- a table that grew, and grew again
pub grown_twice : {V : Type 0} (a b c : List V) → Grows a b → Grows b c → Grows a c
grown_twice a b c first second = record { added = first.added ++ second.added; behind = second.behind ∙ ap (λ xs. xs ++ second.added) first.behind ∙ append_assoc a first.added second.added }

-- a table that stays
pub grown_none : {V : Type 0} (a : List V) → Grows a a
grown_none a = record { added = []; behind = sym (append-nil a) }

-- what stands at the first place that passes passes
pub passes_at : {K : Type 0} (p : K → Bool) (ks : List K) (i : ℕ) (k : K) → Some i ≡ position p ks → slice_get ks i ≡ Some k → p k ≡ true
passes_at p ks i k first there = ap p (sym (get_or_from_slice_get ks i k k there)) ∙ (position-Some p ks i k (sym first)).1
