-- Keys told apart by their numbers: what the tests tell, and where a key stands among others.
use Rattle.std.proofs.Common.{◌≡◌, ◌≢◌, ◌⊎◌, inl, inr, ℕ, zero, suc, ◌+◌, ◌<◌, ◌≤◌, Bool, true, false, cond, if◌then◌else◌, nat_lt, List, [], ◌∷◌, ◌++◌, length, length-append, get_or, Option, Some, None, refl, sym, ap, ◌∙◌, arith}
use Rattle.std.specs.Prelude.{slice_get}
use Rattle.std.specs.Cmp.Lexicographic.{bytes_decides}
use Rattle.std.specs.List.{position_or_len}
use Rattle.std.proofs.lemmas.Bool.{lt-ltb}
use Rattle.std.proofs.lemmas.List.Quantifiers.{position-Some}
use Rattle.std.proofs.lemmas.List.Sums.{position_or_len_is}
use Rattle.std.proofs.lemmas.Option.{get_or_from_slice_get, none-some, slice_get-get_or, slice_get_within}
use Rattle.sv32_tables.proofs.Uses.{slice_get-more, slice_get-push, slice_get-push_new}
use Rattle.depend_table.specs.Keyed.{AreApart, frame_by, has_by, same_by, with_by}
use Rattle.depend_table.proofs.Tests.{either, not_true, or_left, or_right}

-- keys that their numbers tell apart, and the one that stands in a place that is not used
pub record Coding (K : Type 0) : Type 0 where
  pub code : K → List ℕ
  pub apart : (j k : K) → code j ≡ code k → j ≡ k
  pub blank : K

-- what stands at one place is one key
pub one_key : {K : Type 0} (keys : List K) (f : ℕ) (j k : K) → slice_get keys f ≡ Some j → slice_get keys f ≡ Some k → j ≡ k
one_key keys f j k atj atk = let same : Some j ≡ Some k = sym atj ∙ atk in cc

-- the places before the last keep apart
pub apart-less : {K : Type 0} (keys : List K) (k : K) → AreApart (keys ++ k ∷ []) → AreApart keys
apart-less keys k apart f g j atf atg = apart f g j (slice_get-more keys k f j atf) (slice_get-more keys k g j atg)

module _ {K : Type 0} (c : Coding K) where
  -- keys that pass the test are one
  pub key_tells : (j k : K) → same_by c.code j k ≡ true → j ≡ k
  key_tells j k holds = c.apart j k ((bytes_decides (c.code j) (c.code k)).0 holds)

  -- a key passes the test with itself
  pub key_itself : (k : K) → same_by c.code k k ≡ true
  key_itself k = (bytes_decides (c.code k) (c.code k)).1 refl

  -- two keys are one or not
  pub key_cases : (j k : K) → ((same_by c.code j k ≡ true) × (j ≡ k)) ⊎ ((same_by c.code j k ≡ false) × (j ≢ k))
  key_cases j k = on (same_by c.code j k) refl
    where
      on : (b : Bool) → same_by c.code j k ≡ b → ((same_by c.code j k ≡ true) × (j ≡ k)) ⊎ ((same_by c.code j k ≡ false) × (j ≢ k))
      on true is = inl (is, key_tells j k is)
      on false is = inr (is, λ e. let own : same_by c.code j k ≡ true = ap (same_by c.code j) (sym e) ∙ key_itself j in absurd (cc))

  -- a key that stands somewhere is among the keys
  pub has-at : (keys : List K) (f : ℕ) (k : K) → slice_get keys f ≡ Some k → has_by c.code keys k ≡ true
  has-at [] f k at = absurd (none-some k at)
  has-at (x ∷ keys) zero k at = or_left (same_by c.code k x) (has_by c.code keys k) (let here : x ≡ k = cc in ap (same_by c.code k) here ∙ key_itself k)
  has-at (x ∷ keys) (suc f) k at = or_right (same_by c.code k x) (has_by c.code keys k) (has-at keys f k at)

  -- and a key that is among them stands somewhere
  pub at-has : (keys : List K) (k : K) → has_by c.code keys k ≡ true → (f : ℕ) × (slice_get keys f ≡ Some k)
  at-has [] k holds = absurd (cc)
  at-has (x ∷ keys) k holds = on (either (same_by c.code k x) (has_by c.code keys k) holds) (at-has keys k)
    where
      on : (same_by c.code k x ≡ true) ⊎ (has_by c.code keys k ≡ true) → (has_by c.code keys k ≡ true → (f : ℕ) × (slice_get keys f ≡ Some k)) → (f : ℕ) × (slice_get (x ∷ keys) f ≡ Some k)
      on (inl here) later = (0, ap (λ (y : K). Some y) (sym (key_tells k x here)))
      on (inr there) later = let next = later there in (suc next.0, next.1)

  -- a key's frame is where it stands
  pub frame_of-is : (keys : List K) (k : K) (f : ℕ) → AreApart keys → slice_get keys f ≡ Some k → frame_by c.code keys k ≡ Some f
  frame_of-is keys x f apart at =
      ap (λ (n : ℕ). cond (nat_lt n (length keys)) (Some n) None) first ∙ ap (λ (b : Bool). cond b (Some f) None) (lt-ltb f (length keys) within)
    where
      within : f < length keys
      within = slice_get_within keys f x at

      other : (k : ℕ) → k < f → same_by c.code x (get_or keys k c.blank) ≢ true
      other k less holds =
          let here = slice_get-get_or keys k c.blank (omega (arith, less, within)) in
          let one = apart k f x (here ∙ ap (λ (y : K). Some y) (sym (key_tells x (get_or keys k c.blank) holds))) at in
          omega (arith, less, one)

      first : position_or_len (same_by c.code x) keys ≡ f
      first = position_or_len_is (same_by c.code x) keys f c.blank (omega (arith, within))
          (λ k less. not_true (same_by c.code x (get_or keys k c.blank)) (other k less))
          (λ less. ap (same_by c.code x) (get_or_from_slice_get keys f x c.blank at) ∙ key_itself x)

  -- and there it stands
  pub frame_of-some : (keys : List K) (k : K) (f : ℕ) → frame_by c.code keys k ≡ Some f → slice_get keys f ≡ Some k
  frame_of-some keys k f is =
      let found = position-Some (same_by c.code k) keys f c.blank is in
      slice_get-get_or keys f c.blank found.0 ∙ ap (λ (x : K). Some x) (sym (key_tells k (get_or keys f c.blank) found.1))

  -- a key that stands nowhere has no frame
  pub frame_of-none : (keys : List K) (k : K) → ((f : ℕ) → slice_get keys f ≢ Some k) → frame_by c.code keys k ≡ None
  frame_of-none keys k none = on (frame_by c.code keys k) refl
    where
      on : (r : Option ℕ) → frame_by c.code keys k ≡ r → r ≡ None
      on None is = refl
      on (Some f) is = absurd (none f (frame_of-some keys k f is))

  -- a key without a frame is not among the keys
  pub none-frame_of : (keys : List K) (k : K) → AreApart keys → frame_by c.code keys k ≡ None → has_by c.code keys k ≡ false
  none-frame_of keys k apart none = not_true (has_by c.code keys k) (λ holds.
      let found = at-has keys k holds in
      let is = frame_of-is keys k found.0 apart found.1 in
      none-some found.0 (sym none ∙ is))

  -- a new key stands apart
  pub apart-more : (keys : List K) (k : K) → AreApart keys → has_by c.code keys k ≡ false → AreApart (keys ++ k ∷ [])
  apart-more keys k apart new f g j atf atg = elim (slice_get-push keys k f j atf) [
    | inl oldf ↦ elim (slice_get-push keys k g j atg) [
      | inl oldg ↦ apart f g j oldf oldg
      | inr newg ↦ absurd (differs f oldf newg.1)
    ]
    | inr newf ↦ elim (slice_get-push keys k g j atg) [
      | inl oldg ↦ absurd (differs g oldg newf.1)
      | inr newg ↦ newf.0 ∙ sym newg.0
    ]
  ]
    where
      differs : (h : ℕ) → slice_get keys h ≡ Some j → k ≢ j
      differs h at same = let there : has_by c.code keys k ≡ true = ap (has_by c.code keys) same ∙ has-at keys h j at in absurd (cc)

  -- another key changes no key's frame
  pub frame_of-other : (keys : List K) (k x : K) → AreApart (keys ++ k ∷ []) → k ≢ x → frame_by c.code (keys ++ k ∷ []) x ≡ frame_by c.code keys x
  frame_of-other keys k x more differs = on (frame_by c.code keys x) refl
    where
      on : (r : Option ℕ) → frame_by c.code keys x ≡ r → frame_by c.code (keys ++ k ∷ []) x ≡ r
      on (Some f) is = frame_of-is (keys ++ k ∷ []) x f more (slice_get-more keys k f x (frame_of-some keys x f is))
      on None is = frame_of-none (keys ++ k ∷ []) x (λ f at. elim (slice_get-push keys k f x at) [
        | inl old ↦ none-some f (sym is ∙ frame_of-is keys x f (apart-less keys k more) old)
        | inr last ↦ differs last.1
      ])

  -- a new key has its frame there
  pub frame_of-new : (keys : List K) (k : K) → AreApart (keys ++ k ∷ []) → frame_by c.code (keys ++ k ∷ []) k ≡ Some (length keys)
  frame_of-new keys k more = frame_of-is (keys ++ k ∷ []) k (length keys) more (slice_get-push_new keys k)

  -- keys grow by at most one
  pub with_key-grows : (keys : List K) (k : K) → (length keys ≤ length (with_by c.code keys k)) × (length (with_by c.code keys k) ≤ length keys + 1)
  with_key-grows keys k = on (has_by c.code keys k)
    where
      on : (b : Bool) → (length keys ≤ length (if b then keys else keys ++ k ∷ [])) × (length (if b then keys else keys ++ k ∷ []) ≤ length keys + 1)
      on true = (omega arith, omega arith)
      on false = (omega (arith, length-append keys (k ∷ [])), omega (arith, length-append keys (k ∷ [])))
