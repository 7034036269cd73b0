-- Keys in lists: which are there with one more, and that a list of distinct keys within another is no longer.
use Rattle.std.proofs.Common.{◌≡◌, ◌≢◌, ◌⊎◌, inl, inr, ◌+◌, ◌≤◌, Bool, true, false, ◌||◌, if◌then◌else◌, List, [], ◌∷◌, ◌++◌, length, refl, sym, ap, ◌∙◌, arith}
use Rattle.std.proofs.lemmas.List.Folds.{list_any-append}
use Rattle.shared_leaves.specs.declared.key.Key.{Key}
use Rattle.shared_leaves.specs.Key.{has_key, same_key, with_key}
use Rattle.depend_table.proofs.Coded.{key_cases, key_itself, key_tells}
use Rattle.depend_table.proofs.Tests.{either, not_true, or_left, or_right}
use Rattle.shared_leaves.proofs.Codes.{key_coding}

-- ---- a key more

-- a key that is there is not added
pub with_key-there : (keys : List Key) (k : Key) → has_key keys k ≡ true → with_key keys k ≡ keys
with_key-there keys k there = ap (λ (b : Bool). if b then keys else keys ++ k ∷ []) there

-- a key stays
pub has_key-more : (keys : List Key) (j k : Key) → has_key keys j ≡ true → has_key (with_key keys k) j ≡ true
has_key-more keys j k there = on (has_key keys k)
  where
    on : (b : Bool) → has_key (if b then keys else keys ++ k ∷ []) j ≡ true
    on true = there
    on false = list_any-append (same_key j) keys (k ∷ []) ∙ or_left (has_key keys j) (has_key (k ∷ []) j) there

-- an added key is there
pub has_key-added : (keys : List Key) (k : Key) → has_key (with_key keys k) k ≡ true
has_key-added keys k = on (has_key keys k) refl
  where
    on : (b : Bool) → has_key keys k ≡ b → has_key (if b then keys else keys ++ k ∷ []) k ≡ true
    on true there = there
    on false new =
        list_any-append (same_key k) keys (k ∷ [])
        ∙ or_right (has_key keys k) (has_key (k ∷ []) k) (or_left (same_key k k) (has_key [] k) (key_itself key_coding k))

-- a key that is there was there, or is the added one
has_key-with : (keys : List Key) (j k : Key) → has_key (with_key keys k) j ≡ true → (has_key keys j ≡ true) ⊎ (j ≡ k)
has_key-with keys j k = on (has_key keys k)
  where
    last : (has_key (k ∷ []) j ≡ true) → j ≡ k
    last there = elim (either (same_key j k) (has_key [] j) there) [ inl here ↦ key_tells key_coding j k here | inr none ↦ absurd (cc) ]

    on : (b : Bool) → has_key (if b then keys else keys ++ k ∷ []) j ≡ true → (has_key keys j ≡ true) ⊎ (j ≡ k)
    on true there = inl there
    on false there = elim (either (has_key keys j) (has_key (k ∷ []) j) (sym (list_any-append (same_key j) keys (k ∷ [])) ∙ there)) [
      | inl before ↦ inl before
      | inr here ↦ inr (last here)
    ]

-- ---- distinct keys

-- no key comes twice
abbrev pub Distinct : List Key → Type 0
Distinct [] = Unit {0}
Distinct (k ∷ keys) = (has_key keys k ≡ false) × Distinct keys

-- each key of one list is one of the other
abbrev pub Among : List Key → List Key → Type 0
Among keys others = (k : Key) → has_key keys k ≡ true → has_key others k ≡ true

left_false : (a b : Bool) → (a || b) ≡ false → (a ≡ false) × (b ≡ false)
left_false true b none = absurd (cc)
left_false false b none = (refl, none)

-- a key that was not there comes last
distinct-last : (keys : List Key) (k : Key) → Distinct keys → has_key keys k ≡ false → Distinct (keys ++ k ∷ [])
distinct-last [] k distinct new = (refl, tt)
distinct-last (x ∷ keys) k distinct new = (not_true (has_key (keys ++ k ∷ []) x) first, distinct-last keys k distinct.1 parts.1)
  where
    parts : (same_key k x ≡ false) × (has_key keys k ≡ false)
    parts = left_false (same_key k x) (has_key keys k) new

    first : has_key (keys ++ k ∷ []) x ≢ true
    first there = elim (either (has_key keys x) (has_key (k ∷ []) x) (sym (list_any-append (same_key x) keys (k ∷ [])) ∙ there)) [
      | inl before ↦ let no : has_key keys x ≡ false = distinct.0 in cc
      | inr here ↦ elim (either (same_key x k) (has_key [] x) here) [
        | inl same ↦
            let one : same_key k x ≡ true = ap (same_key k) (key_tells key_coding x k same) ∙ key_itself key_coding k in
            let no : same_key k x ≡ false = parts.0 in
            cc
        | inr none ↦ cc
      ]
    ]

pub distinct-with : (keys : List Key) (k : Key) → Distinct keys → Distinct (with_key keys k)
distinct-with keys k distinct = on (has_key keys k) refl
  where
    on : (b : Bool) → has_key keys k ≡ b → Distinct (if b then keys else keys ++ k ∷ [])
    on true there = distinct
    on false new = distinct-last keys k distinct new

pub among-with : (keys others : List Key) (k : Key) → Among keys others → Among (with_key keys k) (with_key others k)
among-with keys others k among j there = elim (has_key-with keys j k there) [
  | inl before ↦ has_key-more others j k (among j before)
  | inr same ↦ ap (has_key (with_key others k)) same ∙ has_key-added others k
]

-- what was there is among what is there with a key more
pub among-more : (keys others : List Key) (k : Key) → Among keys others → Among keys (with_key others k)
among-more keys others k among j there = has_key-more others j k (among j there)

-- ---- how many

-- the keys without one
without : List Key → Key → List Key
without [] k = []
without (x ∷ keys) k = if same_key k x then keys else x ∷ without keys k

length-without : (keys : List Key) (k : Key) → has_key keys k ≡ true → length keys ≡ length (without keys k) + 1
unfolding without
length-without [] k there = absurd (cc)
length-without (x ∷ keys) k there = on (same_key k x) there (length-without keys k)
  where
    on : (b : Bool) → (b || has_key keys k) ≡ true → (has_key keys k ≡ true → length keys ≡ length (without keys k) + 1)
        → length (x ∷ keys) ≡ length (if b then keys else x ∷ without keys k) + 1
    on true there ih = omega arith
    on false there ih = omega (arith, ih there)

has_key-without : (keys : List Key) (j k : Key) → has_key keys j ≡ true → j ≢ k → has_key (without keys k) j ≡ true
unfolding without
has_key-without [] j k there other = absurd (cc)
has_key-without (x ∷ keys) j k there other = on (key_cases key_coding k x) (λ later. has_key-without keys j k later other)
  where
    on : ((same_key k x ≡ true) × (k ≡ x)) ⊎ ((same_key k x ≡ false) × (k ≢ x)) → (has_key keys j ≡ true → has_key (without keys k) j ≡ true)
        → has_key (if same_key k x then keys else x ∷ without keys k) j ≡ true
    on (inl same) ih =
        ap (λ (b : Bool). has_key (if b then keys else x ∷ without keys k) j) same.0
        ∙ elim (either (same_key j x) (has_key keys j) there) [
          | inl here ↦ absurd (other (key_tells key_coding j x here ∙ sym same.1))
          | inr later ↦ later
        ]
    on (inr differ) ih =
        ap (λ (b : Bool). has_key (if b then keys else x ∷ without keys k) j) differ.0
        ∙ elim (either (same_key j x) (has_key keys j) there) [
          | inl here ↦ or_left (same_key j x) (has_key (without keys k) j) here
          | inr later ↦ or_right (same_key j x) (has_key (without keys k) j) (ih later)
        ]

-- distinct keys among others are no more than these
pub length-among : (keys others : List Key) → Distinct keys → Among keys others → length keys ≤ length others
length-among [] others distinct among = omega arith
length-among (k ∷ keys) others distinct among =
    omega (arith, length-without others k first, length-among keys (without others k) distinct.1 rest)
  where
    first : has_key others k ≡ true
    first = among k (or_left (same_key k k) (has_key keys k) (key_itself key_coding k))

    rest : Among keys (without others k)
    rest j there = has_key-without others j k (among j (or_right (same_key j k) (has_key keys j) there)) (λ same.
        let no : has_key keys k ≡ false = distinct.0 in
        let yes : has_key keys k ≡ true = ap (has_key keys) (sym same) ∙ there in
        cc)
