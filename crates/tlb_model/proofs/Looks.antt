-- What looking finds in entries that were kept, pushed or left, and which lists of entries are single.
use Rattle.std.proofs.Common.{◌≡◌, ◌⊎◌, inl, inr, ℕ, zero, suc, Bool, true, false, cond, if◌then◌else◌, List, [], ◌∷◌, ◌++◌, filter, Option, Some, None, refl, ap, ◌∙◌, arith}
use Rattle.std.specs.Prelude.{slice_get}
use Rattle.std.proofs.lemmas.Bool.Decides.{nat_tests}
use Rattle.sv32_tables.specs.declared.leaf.Leaf.{Leaf}
use Rattle.tlb_model.specs.declared.entry.Entry.{Entry}
use Rattle.tlb_model.specs.Entry.{is_of}
use Rattle.tlb_model.specs.Tlb.{IsSingle, look}

-- an entry of a page of a root has that root and that page
pub of_tells : (root page : ℕ) (e : Entry) → is_of root page e ≡ true → (e.root ≡ root) × (e.page ≡ page)
of_tells root page e is = (grind (arith, nat_tests, is), grind (arith, nat_tests, is))

-- an entry is of its own root and page
pub is_of_itself : (e : Entry) → is_of e.root e.page e ≡ true
is_of_itself e = grind (arith, nat_tests)

-- an entry in front that may be kept
look-cond : (k t m : Bool) (e : Entry) (kept : List Entry) (found : Option Leaf) (r p : ℕ) → is_of r p e ≡ t → (t ≡ true → k ≡ m) → look kept r p ≡ (if m then found else None) → look (cond k (e ∷ kept) kept) r p ≡ (if m then (if t then Some e.leaf else found) else None)
look-cond true true true e kept found r p is same rest = rw is refl
look-cond true true false e kept found r p is same rest = absurd (let other = same refl in cc)
look-cond true false m e kept found r p is same rest = rw is rest
look-cond false true true e kept found r p is same rest = absurd (let other = same refl in cc)
look-cond false true false e kept found r p is same rest = rest
look-cond false false m e kept found r p is same rest = rest

-- entries that are kept by their root and page are found, and the others are not
pub look-filter : (keep : ℕ → ℕ → Bool) (es : List Entry) (r p : ℕ) → look (filter (λ e. keep e.root e.page) es) r p ≡ (if keep r p then look es r p else None)
look-filter keep [] r p = on None (keep r p)
  where
    on : (found : Option Leaf) (b : Bool) → found ≡ (if b then found else found)
    on found true = refl
    on found false = refl
look-filter keep (e ∷ es) r p =
    look-cond (keep e.root e.page) (is_of r p e) (keep r p) e (filter (λ e. keep e.root e.page) es) (look es r p) r p refl same (look-filter keep es r p)
  where
    same : is_of r p e ≡ true → keep e.root e.page ≡ keep r p
    same is = let both = of_tells r p e is in rw (both.0, both.1) refl

-- what is not found with an entry in front isn't found without it
pub look-behind_none : (e : Entry) (es : List Entry) (r p : ℕ) → look (e ∷ es) r p ≡ None → look es r p ≡ None
look-behind_none e es r p none = on (is_of r p e) none
  where
    on : (b : Bool) → (if b then Some e.leaf else look es r p) ≡ None → look es r p ≡ None
    on true none = absurd (cc)
    on false none = none

-- among single entries what is found behind the first is found with it
pub look-behind : (e : Entry) (es : List Entry) (r p : ℕ) (l : Leaf) → IsSingle (e ∷ es) → look es r p ≡ Some l → look (e ∷ es) r p ≡ Some l
look-behind e es r p l single found = on (is_of r p e) refl
  where
    on : (b : Bool) → is_of r p e ≡ b → (if b then Some e.leaf else look es r p) ≡ Some l
    on true is = let both = of_tells r p e is in
        let none : look es r p ≡ None = rw (both.0, both.1) at single.0 in
        absurd (cc)
    on false is = found

-- an entry at the end is found where none is before it
pub look_push_new : (es : List Entry) (e : Entry) (r p : ℕ) → look es r p ≡ None → look (es ++ e ∷ []) r p ≡ (if is_of r p e then Some e.leaf else None)
look_push_new [] e r p none = refl
look_push_new (x ∷ es) e r p none = on (is_of r p x) none (look_push_new es e r p)
  where
    on : (b : Bool) → (if b then Some x.leaf else look es r p) ≡ None → (look es r p ≡ None → look (es ++ e ∷ []) r p ≡ (if is_of r p e then Some e.leaf else None)) → (if b then Some x.leaf else look (es ++ e ∷ []) r p) ≡ (if is_of r p e then Some e.leaf else None)
    on true none later = absurd (cc)
    on false none later = later none

-- what is found with an entry at the end is that entry's leaf or was found before
pub look_push_cases : (es : List Entry) (e : Entry) (r p : ℕ) (l : Leaf) → look (es ++ e ∷ []) r p ≡ Some l → (look es r p ≡ Some l) ⊎ ((is_of r p e ≡ true) × (l ≡ e.leaf))
look_push_cases [] e r p l found = on (is_of r p e) refl found
  where
    on : (b : Bool) → is_of r p e ≡ b → (if b then Some e.leaf else None) ≡ Some l → (None ≡ Some l) ⊎ ((is_of r p e ≡ true) × (l ≡ e.leaf))
    on true is same = inr (is, cc)
    on false is same = inl same
look_push_cases (x ∷ es) e r p l found = on (is_of r p x) found (look_push_cases es e r p l)
  where
    on : (b : Bool) → (if b then Some x.leaf else look (es ++ e ∷ []) r p) ≡ Some l → (look (es ++ e ∷ []) r p ≡ Some l → (look es r p ≡ Some l) ⊎ ((is_of r p e ≡ true) × (l ≡ e.leaf))) → ((if b then Some x.leaf else look es r p) ≡ Some l) ⊎ ((is_of r p e ≡ true) × (l ≡ e.leaf))
    on true same later = inl same
    on false same later = later same

-- single entries that are kept by their root and page are single
pub IsSingle-filter : (keep : ℕ → ℕ → Bool) (es : List Entry) → IsSingle es → IsSingle (filter (λ e. keep e.root e.page) es)
IsSingle-filter keep [] single = tt
IsSingle-filter keep (e ∷ es) single = on (keep e.root e.page) refl (IsSingle-filter keep es single.1)
  where
    on : (b : Bool) → keep e.root e.page ≡ b → IsSingle (filter (λ e. keep e.root e.page) es) → IsSingle (cond b (e ∷ filter (λ e. keep e.root e.page) es) (filter (λ e. keep e.root e.page) es))
    on true is rest = (look-filter keep es e.root e.page ∙ rw (is, single.0) refl, rest)
    on false is rest = rest

-- an entry that was not found, at the end of single ones
pub IsSingle_push : (es : List Entry) (e : Entry) → IsSingle es → look es e.root e.page ≡ None → IsSingle (es ++ e ∷ [])
IsSingle_push [] e single none = (refl, tt)
IsSingle_push (x ∷ es) e single none =
    (look_push_new es e x.root x.page single.0 ∙ other (is_of x.root x.page e) refl, IsSingle_push es e single.1 (look-behind_none x es e.root e.page none))
  where
    other : (b : Bool) → is_of x.root x.page e ≡ b → (if b then Some e.leaf else None) ≡ None
    other true is =
        let both = of_tells x.root x.page e is in
        let itself : is_of e.root e.page x ≡ true = rw (both.0, both.1) (is_of_itself x) in
        let found : (if true then Some x.leaf else look es e.root e.page) ≡ None = rw itself at none in
        absurd (cc)
    other false is = refl

-- among single entries one that stands at a place is found
pub look-placed : (es : List Entry) (i r p : ℕ) (e : Entry) → IsSingle es → slice_get es i ≡ Some e → is_of r p e ≡ true → look es r p ≡ Some e.leaf
look-placed [] i r p e single at is = absurd (cc)
look-placed (x ∷ es) zero r p e single at is =
    let here : x ≡ e = cc in
    let own : is_of r p x ≡ true = ap (is_of r p) here ∙ is in
    ap (λ (b : Bool). if b then Some x.leaf else look es r p) own ∙ ap (λ (y : Entry). Some y.leaf) here
look-placed (x ∷ es) (suc i) r p e single at is = look-behind x es r p e.leaf single (look-placed es i r p e single.1 at is)
