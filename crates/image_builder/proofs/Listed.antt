-- Lists of things by number: what a write makes of them, and which are the last that are given.
use Rattle.std.proofs.Common.{◌≡◌, ◌≢◌, ◌⊎◌, inl, inr, ℕ, ◌+◌, ◌-◌, ◌<◌, ◌≤◌, ◌==◌, eqb, leb, true, false, if◌then◌else◌, List, [], ◌∷◌, ◌++◌, length, get_or, set, take, drop, replicate, Option, Some, None, refl, sym, ap, subst, ◌∙◌, arith, slice_get, append-nil}
use Rattle.std.specs.Prelude.{unwrap_or}
use Rattle.std.specs.List.{All, filter_map, cons_option, last_or}
use Rattle.std.proofs.Math.ListN.{length-set}
use Rattle.std.proofs.lemmas.List.{get_or-set_same, get_or-set_other, get_or-replicate, length-replicate, length-append, length-take-le, length-drop, get_or_append_left, get_or-append_right, get_or-take, get_or-drop}
use Rattle.std.proofs.lemmas.List.Elements.{filter_map-append}
use Rattle.std.proofs.lemmas.List.FromFn.{length-map-range_with_len, get_or-map-range_with_len, fill_by_all}
use Rattle.std.proofs.lemmas.Option.{slice_get-get_or, slice_get_past}
use Rattle.std.proofs.lemmas.Bool.Decides.{eqb_tells, leb_tells}
use Rattle.std.proofs.lemmas.Bool.{cases_lt}
use Rattle.page_store.specs.Page.{with_bytes}
use Rattle.listing_read.specs.declared.statement.Statement.{Statement}
use Rattle.image_builder.specs.Given.{last_given, listed, byte_in}

-- ---- the last that is given

last_or-snoc : {A : Type 0} (o : Option A) (xs : List A) (x : A) → last_or o (xs ++ x ∷ []) ≡ Some x
last_or-snoc o [] x = refl
last_or-snoc o (y ∷ ys) x = last_or-snoc (Some y) ys x

pub last_given-nil : {A : Type 0} (given : Statement → Option A) (empty : A) → last_given given empty [] ≡ empty
unfolding last_given
last_given-nil given empty = refl

-- one statement more: what it gives, and else what was given before
pub last_given-snoc : {A : Type 0} (given : Statement → Option A) (empty : A) (xs : List Statement) (x : Statement) → last_given given empty (xs ++ x ∷ []) ≡ unwrap_or (given x) (last_given given empty xs)
unfolding last_given
last_given-snoc {A} given empty xs x = ap (λ ys. unwrap_or (last_or None ys) empty) (filter_map-append given xs (x ∷ [])) ∙ on (given x)
  where
    on : (o : Option A) → unwrap_or (last_or None (filter_map given xs ++ cons_option o [])) empty ≡ unwrap_or o (unwrap_or (last_or None (filter_map given xs)) empty)
    on None = ap (λ ys. unwrap_or (last_or None ys) empty) (append-nil (filter_map given xs))
    on (Some y) = ap (λ o. unwrap_or o empty) (last_or-snoc None (filter_map given xs) y)

-- ---- lists by number

pub length-listed : {A : Type 0} (n : ℕ) (f : ℕ → A) → length (listed n f) ≡ n
unfolding listed
length-listed n f = length-map-range_with_len f 0 n

pub get_or-listed : {A : Type 0} (n : ℕ) (f : ℕ → A) (i : ℕ) (d : A) → i < n → get_or (listed n f) i d ≡ f i
unfolding listed
get_or-listed n f i d h = get_or-map-range_with_len f 0 n i i d h (omega arith)

pub All-listed : {A : Type 0} (P : A → Type 0) (n : ℕ) (f : ℕ → A) → ((k : ℕ) → P (f k)) → All P (listed n f)
All-listed P n f each k d there =
    let long = length-listed n f in
    subst P (sym (get_or-listed n f k d (omega arith))) (each k)

-- a list with these elements
listed_is : {A : Type 0} (n : ℕ) (f : ℕ → A) (xs : List A) (d : A) → length xs ≡ n → ((k : ℕ) → k < n → get_or xs k d ≡ f k) → xs ≡ listed n f
unfolding listed
listed_is n f xs d long each = fill_by_all f xs n d long each

-- two lists with the same elements
pub listed-same : {A : Type 0} (n : ℕ) (f g : ℕ → A) → ((k : ℕ) → k < n → f k ≡ g k) → listed n f ≡ listed n g
listed-same n f g same = listed_is n g (listed n f) (f 0) (length-listed n f) (λ k there. get_or-listed n f k (f 0) there ∙ same k there)

pub replicate-listed : {A : Type 0} (n : ℕ) (x : A) → replicate n x ≡ listed n (λ k. x)
replicate-listed n x = listed_is n (λ k. x) (replicate n x) x (length-replicate n x) (λ k h. get_or-replicate n k x x h)

-- one thing that is changed, and all others as they were
pub changed : {A : Type 0} (n : ℕ) (f g : ℕ → A) (m : ℕ) (d : A) (change : A → A)
    → (eqb m m ≡ true → change (f m) ≡ g m) → ((k : ℕ) → eqb m k ≡ false → f k ≡ g k) → set (listed n f) m (change (get_or (listed n f) m d)) ≡ listed n g
changed {A} n f g m d change here elsewhere = listed_is n g (set (listed n f) m v) v (length-set (listed n f) m v ∙ long) (λ k h. at k h (eqb_tells m k))
  where
    v : A
    v = change (get_or (listed n f) m d)

    long : length (listed n f) ≡ n
    long = length-listed n f

    at : (k : ℕ) → k < n → ((eqb m k ≡ true) × (m ≡ k)) ⊎ ((eqb m k ≡ false) × (m ≢ k)) → get_or (set (listed n f) m v) k v ≡ g k
    at k h (inl (t, same)) = subst (λ j. eqb m j ≡ true → get_or (set (listed n f) m v) j v ≡ g j) same
        (λ yes. get_or-set_same (listed n f) m v v (omega (arith, same, h, long)) ∙ (ap change (get_or-listed n f m d (omega (arith, same, h))) ∙ here yes)) t
    at k h (inr (t, other)) = get_or-set_other (listed n f) m k v v (λ e. other (sym e)) ∙ (get_or-listed n f k v h ∙ elsewhere k t)

-- one thing that is given
pub put-listed : {A B : Type 0} (h : A → B) (n : ℕ) (f : ℕ → A) (m : ℕ) (v : A) → set (listed n (λ k. h (f k))) m (h v) ≡ listed n (λ k. h (unwrap_or (if m == k then Some v else None) (f k)))
put-listed h n f m v = changed n (λ k. h (f k)) _ m (h v) (λ _. h v) (λ same. rw same refl) (λ k other. rw other refl)

-- bytes that are written within a page
pub bytes-listed : (w at : ℕ) (f : ℕ → ℕ) (bytes : List ℕ) → at + length bytes ≤ w → with_bytes (listed w f) at bytes ≡ listed w (λ i. unwrap_or (byte_in at bytes i) (f i))
bytes-listed w at f bytes within = listed_is w (λ i. unwrap_or (byte_in at bytes i) (f i)) (with_bytes (listed w f) at bytes) 0 long (λ k h. by k h (cases_lt k (at + length bytes)) (leb_tells at k))
  where
    whole : length (listed w f) ≡ w
    whole = length-listed w f

    first : length (take at (listed w f)) ≡ at
    first = length-take-le at (listed w f) (omega (arith, whole, within))

    joined : length (take at (listed w f) ++ bytes) ≡ at + length bytes
    joined =
        let a = length-append (take at (listed w f)) bytes in
        omega (arith, a, first)

    long : length (take at (listed w f) ++ bytes ++ drop (at + length bytes) (listed w f)) ≡ w
    long =
        let b = length-append (take at (listed w f) ++ bytes) (drop (at + length bytes) (listed w f)) in
        let c = length-drop (at + length bytes) (listed w f) in
        omega (arith, b, c, joined, whole, within)

    by : (k : ℕ) → k < w → (k < at + length bytes) ⊎ (at + length bytes ≤ k) → ((leb at k ≡ true) × (at ≤ k)) ⊎ ((leb at k ≡ false) × (k < at)) → get_or (with_bytes (listed w f) at bytes) k 0 ≡ unwrap_or (byte_in at bytes k) (f k)
    by k h (inl below) (inl (t, from)) =
        get_or_append_left (take at (listed w f) ++ bytes) (drop (at + length bytes) (listed w f)) 0 k (omega (arith, joined, below))
        ∙ (get_or-append_right (take at (listed w f)) bytes at k 0 first from
        ∙ (ap (λ o. unwrap_or o (f k)) (sym (slice_get-get_or bytes (k - at) 0 (omega (arith, from, below))))
        ∙ ap (λ b. unwrap_or (if b then slice_get bytes (k - at) else None) (f k)) (sym t)))
    by k h (inl below) (inr (t, before)) =
        get_or_append_left (take at (listed w f) ++ bytes) (drop (at + length bytes) (listed w f)) 0 k (omega (arith, joined, below))
        ∙ (get_or_append_left (take at (listed w f)) bytes 0 k (omega (arith, first, before))
        ∙ (get_or-take at (listed w f) k 0 before
        ∙ (get_or-listed w f k 0 h ∙ ap (λ b. unwrap_or (if b then slice_get bytes (k - at) else None) (f k)) (sym t))))
    by k h (inr past) (inl (t, from)) =
        let same : at + length bytes + (k - (at + length bytes)) ≡ k = omega (arith, past) in
        get_or-append_right (take at (listed w f) ++ bytes) (drop (at + length bytes) (listed w f)) (at + length bytes) k 0 joined past
        ∙ (get_or-drop (at + length bytes) (listed w f) (k - (at + length bytes)) 0
        ∙ (ap (λ j. get_or (listed w f) j 0) same
        ∙ (get_or-listed w f k 0 h
        ∙ (ap (λ o. unwrap_or o (f k)) (sym (slice_get_past bytes (k - at) (omega (arith, past))))
        ∙ ap (λ b. unwrap_or (if b then slice_get bytes (k - at) else None) (f k)) (sym t)))))
    by k h (inr past) (inr (t, before)) = absurd (omega (arith, past, before))
