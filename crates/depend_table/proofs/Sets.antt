-- Finite sets: what a test of some element tells, what one more adds, and how many a set within another has.
use Rattle.std.proofs.Common.{◌≡◌, ◌⊎◌, inl, inr, ℕ, zero, suc, ◌+◌, ◌-◌, ◌<◌, ◌≤◌, Bool, true, false, not, cond, List, [], ◌∷◌, refl, sym, ap, ◌∙◌, arith}
use Rattle.std.specs.List.{list_any}
use Rattle.std.specs.declared.cmp.Ordering.{Ordering}
use Rattle.std.specs.Cmp.{Equal-is, IsTotalOrder, tied_itself}
use Rattle.std.specs.Ordering.{eq_by_cmp, is_eq}
use Rattle.std.specs.FinMap.{IsAntisymmetric}
use Rattle.std.specs.FinSet.{FinSet, contains, contains-empty, contains-insert, contains-items, contains-remove, empty, empty_of_len, insert, items, len, len-empty, len-insert, len-remove, remove, same_set}
use Rattle.depend_table.proofs.Tests.{both, either, or_left, or_right}

-- each of one set is one of the other
abbrev pub Within : {A : Type 0} {R : A → A → Ordering} → FinSet R → FinSet R → Type 0
Within {A} s t = (n : A) → contains s n ≡ true → contains t n ≡ true

module _ {A : Type 0} {R : A → A → Ordering} (total : IsTotalOrder R) (apart : IsAntisymmetric R) where
  pub tells : (m n : A) → eq_by_cmp R m n ≡ true → m ≡ n
  tells m n holds = apart m n ((Equal-is (R m n)).0 holds)

  pub itself : (n : A) → eq_by_cmp R n n ≡ true
  itself n = ap is_eq (tied_itself total n)

  -- where one of a list passes, it is found
  pub found : (p : A → Bool) (xs : List A) → list_any p xs ≡ true → (n : A) × ((list_any (eq_by_cmp R n) xs ≡ true) × (p n ≡ true))
  found p [] holds = absurd (cc)
  found p (x ∷ xs) holds = on (either (p x) (list_any p xs) holds) (found p xs)
    where
      on : (p x ≡ true) ⊎ (list_any p xs ≡ true)
          → (list_any p xs ≡ true → (n : A) × ((list_any (eq_by_cmp R n) xs ≡ true) × (p n ≡ true)))
          → (n : A) × ((list_any (eq_by_cmp R n) (x ∷ xs) ≡ true) × (p n ≡ true))
      on (inl here) later = (x, (or_left (eq_by_cmp R x x) (list_any (eq_by_cmp R x) xs) (itself x), here))
      on (inr there) later =
          let next = later there in
          (next.0, (or_right (eq_by_cmp R next.0 x) (list_any (eq_by_cmp R next.0) xs) next.1.0, next.1.1))

  -- and where one that passes is in the list, some pass
  pub passes : (p : A → Bool) (xs : List A) (n : A) → list_any (eq_by_cmp R n) xs ≡ true → p n ≡ true → list_any p xs ≡ true
  passes p [] n there holds = absurd (cc)
  passes p (x ∷ xs) n there holds = on (either (eq_by_cmp R n x) (list_any (eq_by_cmp R n) xs) there) (λ later. passes p xs n later holds)
    where
      on : (eq_by_cmp R n x ≡ true) ⊎ (list_any (eq_by_cmp R n) xs ≡ true)
          → (list_any (eq_by_cmp R n) xs ≡ true → list_any p xs ≡ true) → list_any p (x ∷ xs) ≡ true
      on (inl here) later = or_left (p x) (list_any p xs) (ap p (sym (tells n x here)) ∙ holds)
      on (inr more) later = or_right (p x) (list_any p xs) (later more)

  -- one of a set that passes a test
  pub any-note : (p : A → Bool) (s : FinSet R) → list_any p (items s) ≡ true → (n : A) × ((contains s n ≡ true) × (p n ≡ true))
  any-note p s holds = let at = found p (items s) holds in (at.0, (contains-items s at.0 ∙ at.1.0, at.1.1))

  -- some of a set passes where this one does
  pub note-any : (p : A → Bool) (s : FinSet R) (n : A) → contains s n ≡ true → p n ≡ true → list_any p (items s) ≡ true
  note-any p s n there holds = passes p (items s) n (sym (contains-items s n) ∙ there) holds

  -- where some of a set pass, some of a wider set do
  pub any-within : (p : A → Bool) (s t : FinSet R) → Within s t → list_any p (items s) ≡ true → list_any p (items t) ≡ true
  any-within p s t within holds = let at = any-note p s holds in note-any p t at.0 (within at.0 at.1.0) at.1.1

  -- ---- one more

  pub insert-there : (s : FinSet R) (k : A) → contains (insert s k) k ≡ true
  insert-there s k = contains-insert total s k k ∙ or_left (eq_by_cmp R k k) (contains s k) (itself k)

  pub insert-more : (s : FinSet R) (k n : A) → contains s n ≡ true → contains (insert s k) n ≡ true
  insert-more s k n there = contains-insert total s k n ∙ or_right (eq_by_cmp R n k) (contains s n) there

  pub insert-tells : (s : FinSet R) (k n : A) → contains (insert s k) n ≡ true → (n ≡ k) ⊎ (contains s n ≡ true)
  insert-tells s k n there = elim (either (eq_by_cmp R n k) (contains s n) (sym (contains-insert total s k n) ∙ there)) [
    | inl here ↦ inl (tells n k here)
    | inr more ↦ inr more
  ]

  -- a set grows by at most one
  pub insert-grows : (s : FinSet R) (k : A) → (len s ≤ len (insert s k)) × (len (insert s k) ≤ len s + 1)
  insert-grows s k = on (contains s k) (len-insert total s k)
    where
      on : (b : Bool) → len (insert s k) ≡ cond b (len s) (len s + 1) → (len s ≤ len (insert s k)) × (len (insert s k) ≤ len s + 1)
      on true is = (omega (arith, is), omega (arith, is))
      on false is = (omega (arith, is), omega (arith, is))

  -- ---- how many

  some-len : (t : FinSet R) (n : A) → contains t n ≡ true → 0 < len t
  some-len t n there = on (len t) refl
    where
      on : (m : ℕ) → len t ≡ m → 0 < m
      on zero is =
          let none : contains t n ≡ false = ap (λ (s : FinSet R). contains s n) (empty_of_len t is) ∙ contains-empty R n in
          absurd (cc)
      on (suc m) is = omega arith

  pub none-len : (s : FinSet R) → ((n : A) → contains s n ≡ false) → len s ≡ 0
  none-len s none = ap len (same_set total apart s empty (λ n. none n ∙ sym (contains-empty R n))) ∙ len-empty R

  pub remove-len : (s : FinSet R) (n : A) → contains s n ≡ true → (len (remove s n) ≡ len s - 1) × (0 < len s)
  remove-len s n there = (len-remove total s n ∙ ap (λ (b : Bool). cond b (len s - 1) (len s)) there, some-len s n there)

  within-remove : (s t : FinSet R) (n : A) → Within s t → Within (remove s n) (remove t n)
  within-remove s t n within q there =
      let parts = both (not (eq_by_cmp R q n)) (contains s q) (sym (contains-remove total s n q) ∙ there) in
      contains-remove total t n q ∙ rw (parts.0, within q parts.1) refl

  -- a set is empty, or one of it can be removed
  pub first-of : (s : FinSet R) → (len s ≡ 0) ⊎ ((n : A) × (contains s n ≡ true))
  first-of s = on (items s) refl
    where
      on : (xs : List A) → items s ≡ xs → (len s ≡ 0) ⊎ ((n : A) × (contains s n ≡ true))
      on [] is = inl (none-len s (λ n. contains-items s n ∙ ap (list_any (eq_by_cmp R n)) is))
      on (x ∷ xs) is = inr (x, contains-items s x ∙ (ap (list_any (eq_by_cmp R x)) is ∙ or_left (eq_by_cmp R x x) (list_any (eq_by_cmp R x) xs) (itself x)))

  within-len_up_to : (m : ℕ) (s t : FinSet R) → len s ≤ m → Within s t → len s ≤ len t
  within-len_up_to zero s t most within = omega (arith, most)
  within-len_up_to (suc m) s t most within = on (first-of s) (within-len_up_to m)
    where
      on : (len s ≡ 0) ⊎ ((n : A) × (contains s n ≡ true)) → ((s t : FinSet R) → len s ≤ m → Within s t → len s ≤ len t) → len s ≤ len t
      on (inl none) shorter = omega (arith, none)
      on (inr some) shorter =
          let of_s = remove-len s some.0 some.1 in
          let of_t = remove-len t some.0 (within some.0 some.1) in
          let less = shorter (remove s some.0) (remove t some.0) (omega (arith, most, of_s.0, of_s.1)) (within-remove s t some.0 within) in
          omega (arith, of_s.0, of_s.1, of_t.0, of_t.1, less)

  -- a set within another has no more
  pub within-len : (s t : FinSet R) → Within s t → len s ≤ len t
  within-len s t within = within-len_up_to (len s) s t (omega arith) within
