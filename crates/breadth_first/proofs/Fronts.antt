-- Lists that others begin with, and what stands in a list.
use Rattle.std.proofs.Common.{◌≡◌, ℕ, zero, suc, ◌<◌, ◌≤◌, Bool, true, ◌||◌, List, [], ◌∷◌, ◌++◌, length, take, slice_get, Some, refl, sym, ap, ◌∙◌, subst, arith, append_assoc, length-append}
use Rattle.std.proofs.lemmas.List.{take_at, append-nil}
use Rattle.std.proofs.lemmas.List.Folds.{list_any-append}
use Rattle.std.specs.List.{list_any}
use Rattle.breadth_first.specs.Front.{Front}

module _ {X : Type 0} where
  pub front-refl : (xs : List X) → Front xs xs
  front-refl xs = record { rest = []; is = sym (append-nil xs) }

  pub front-push : (xs : List X) (x : X) → Front xs (xs ++ x ∷ [])
  front-push xs x = record { rest = x ∷ []; is = refl }

  pub front-trans : {xs ys zs : List X} → Front xs ys → Front ys zs → Front xs zs
  front-trans {xs} {ys} {zs} a b = record {
    rest = a.rest ++ b.rest;
    is = b.is ∙ ap (λ l. l ++ b.rest) a.is ∙ append_assoc xs a.rest b.rest;
  }

  pub front-length : {xs ys : List X} → Front xs ys → length xs ≤ length ys
  front-length {xs} {ys} a = omega (arith, ap length a.is, length-append xs a.rest)

  -- an element of the front is the whole list's
  slice_get-left : (xs ys : List X) (i : ℕ) (x : X) → slice_get xs i ≡ Some x → slice_get (xs ++ ys) i ≡ Some x
  slice_get-left [] ys i x h = cc
  slice_get-left (y ∷ xs) ys zero x h = h
  slice_get-left (y ∷ xs) ys (suc i) x h = slice_get-left xs ys i x h

  slice_get-back : (xs ys : List X) (i : ℕ) (x : X) → i < length xs → slice_get (xs ++ ys) i ≡ Some x → slice_get xs i ≡ Some x
  slice_get-back [] ys i x l h = absurd (omega arith)
  slice_get-back (y ∷ xs) ys zero x l h = h
  slice_get-back (y ∷ xs) ys (suc i) x l h = slice_get-back xs ys i x (omega arith) h

  pub front-get : {xs ys : List X} → Front xs ys → (i : ℕ) (x : X) → slice_get xs i ≡ Some x → slice_get ys i ≡ Some x
  front-get {xs} {ys} a i x h = subst (λ l. slice_get l i ≡ Some x) (sym a.is) (slice_get-left xs a.rest i x h)

  pub front-back : {xs ys : List X} → Front xs ys → (i : ℕ) (x : X) → i < length xs → slice_get ys i ≡ Some x → slice_get xs i ≡ Some x
  front-back {xs} {ys} a i x l h = slice_get-back xs a.rest i x l (subst (λ l. slice_get l i ≡ Some x) a.is h)

  -- a front that is as long is the list
  no_rest : (xs rest : List X) → length (xs ++ rest) ≤ length xs → xs ++ rest ≡ xs
  no_rest [] [] l = refl
  no_rest [] (y ∷ rest) l = absurd (omega arith)
  no_rest (x ∷ xs) rest l = ap (λ t. x ∷ t) (no_rest xs rest (omega arith))

  pub front-full : {xs ys : List X} → Front xs ys → length ys ≤ length xs → ys ≡ xs
  front-full {xs} {ys} a l = a.is ∙ no_rest xs a.rest (subst (λ t. length t ≤ length xs) a.is l)

  pub front-take : {xs ys : List X} → Front xs ys → take (length xs) ys ≡ xs
  front-take {xs} {ys} a = ap (λ t. take (length xs) t) a.is ∙ take_at xs a.rest (length xs) refl

  -- of two fronts of one list the shorter one is the other's
  compared : (xs ys r s : List X) → xs ++ r ≡ ys ++ s → length xs ≤ length ys → Front xs ys
  compared [] ys r s e l = record { rest = ys; is = refl }
  compared (x ∷ xs) [] r s e l = absurd (omega arith)
  compared (x ∷ xs) (y ∷ ys) r s e l =
      let tails : xs ++ r ≡ ys ++ s = cc in
      let heads : x ≡ y = cc in
      let f = compared xs ys r s tails (omega arith) in
      record { rest = f.rest; is = ap (λ t. y ∷ t) f.is ∙ ap (λ z. z ∷ (xs ++ f.rest)) (sym heads) }

  pub front-compare : {xs ys zs : List X} → Front xs zs → Front ys zs → length xs ≤ length ys → Front xs ys
  front-compare {xs} {ys} {zs} a b l = compared xs ys a.rest b.rest (sym a.is ∙ b.is) l

  -- what passes in the front passes in the list
  pub front-any : (test : X → Bool) {xs ys : List X} → Front xs ys → list_any test xs ≡ true → list_any test ys ≡ true
  front-any test {xs} {ys} a h = ap (list_any test) a.is ∙ list_any-append test xs a.rest ∙ ap (λ b. b || list_any test a.rest) h

  -- the last of a list that one was pushed to
  pub slice_get-last : (xs : List X) (x : X) → slice_get (xs ++ x ∷ []) (length xs) ≡ Some x
  slice_get-last [] x = refl
  slice_get-last (y ∷ xs) x = slice_get-last xs x

  -- each place of a list has an element
  pub slice_get-some : (xs : List X) (i : ℕ) → i < length xs → (x : X) × (slice_get xs i ≡ Some x)
  slice_get-some [] i l = absurd (omega arith)
  slice_get-some (y ∷ xs) zero l = (y, refl)
  slice_get-some (y ∷ xs) (suc i) l = slice_get-some xs i (omega arith)
