-- Items of lists by their places.
use Rattle.std.proofs.Common.{◌≡◌, ℕ, zero, suc, ◌<◌, ◌⊎◌, inl, inr, List, [], ◌∷◌, ◌++◌, length, get_or, take, drop, map, Some, slice_get, refl, sym, ap, ◌∙◌, ◌+◌, ◌≤◌, arith}
use Rattle.std.proofs.lemmas.Option.{none-some, same_Some}
use Rattle.std.proofs.lemmas.List.{take_more, take_all, map-append, append_assoc}
use Rattle.std.proofs.Math.Seq.{take-append_seam}

-- an item stays where it is when others come behind it
pub get-old : {X : Type 0} (xs ys : List X) (i : ℕ) (a : X) → slice_get xs i ≡ Some a → slice_get (xs ++ ys) i ≡ Some a
get-old [] ys i a h = absurd (none-some a h)
get-old (x ∷ xs) ys zero a h = h
get-old (x ∷ xs) ys (suc i) a h = get-old xs ys i a h

-- an item before those behind is one of the front
pub get-front : {X : Type 0} (xs ys : List X) (i : ℕ) (a : X) → i < length xs → slice_get (xs ++ ys) i ≡ Some a → slice_get xs i ≡ Some a
get-front [] ys i a l h = absurd (omega (arith, l))
get-front (x ∷ xs) ys zero a l h = h
get-front (x ∷ xs) ys (suc i) a l h = get-front xs ys i a (omega (arith, l)) h

-- the last item
pub get-new : {X : Type 0} (xs : List X) (x : X) → slice_get (xs ++ x ∷ []) (length xs) ≡ Some x
get-new [] x = refl
get-new (y ∷ xs) x = get-new xs x

-- an item is an old one or the last
pub get-push : {X : Type 0} (xs : List X) (x : X) (i : ℕ) (a : X) → slice_get (xs ++ x ∷ []) i ≡ Some a → (slice_get xs i ≡ Some a) ⊎ ((i ≡ length xs) × (a ≡ x))
get-push [] x zero a h = inr (refl, same_Some a x (sym h))
get-push [] x (suc i) a h = absurd (none-some a h)
get-push (y ∷ xs) x zero a h = inl h
get-push (y ∷ xs) x (suc i) a h = elim (get-push xs x i a h) [ inl e ↦ inl e | inr e ↦ inr (ap suc e.0, e.1) ]

-- an item at each place
pub some-at : {X : Type 0} (xs : List X) (i : ℕ) → i < length xs → (x : X) × (slice_get xs i ≡ Some x)
some-at [] i l = absurd (omega arith)
some-at (x ∷ xs) zero l = (x, refl)
some-at (x ∷ xs) (suc i) l = some-at xs i (omega arith)

-- a vector that was lent and came back
pub came-back : {X : Type 0} (len : ℕ) (new old : List X) → length new ≡ len → take len (new ++ drop (length new) old) ≡ new
came-back len new old e = ap (λ n. take n (new ++ drop (length new) old)) (sym e) ∙ take-append_seam new (drop (length new) old)

-- one image more behind a list
pub push-mapped : (f : ℕ → ℕ) (xs old now before : List ℕ) (i x : ℕ) → i < length xs → before ≡ old ++ map f (take i xs) → x ≡ f (get_or xs i 0) → now ≡ before ++ x ∷ []
    → now ≡ old ++ map f (take (i + 1) xs)
push-mapped f xs old now before i x l b e h =
    let more : map f (take (i + 1) xs) ≡ map f (take i xs) ++ f (get_or xs i 0) ∷ [] = ap (map f) (take_more xs i 0 l) ∙ map-append f (take i xs) (get_or xs i 0 ∷ []) in
    h ∙ ap (λ l. l ++ x ∷ []) b ∙ append_assoc old (map f (take i xs)) (x ∷ []) ∙ ap (λ l. old ++ l) (ap (λ y. map f (take i xs) ++ y ∷ []) e ∙ sym more)

-- all images
pub all-mapped : (f : ℕ → ℕ) (xs old now : List ℕ) (i : ℕ) → length xs ≤ i → now ≡ old ++ map f (take i xs) → now ≡ old ++ map f xs
all-mapped f xs old now i l h = h ∙ ap (λ ys. old ++ map f ys) (take_all i xs l)
