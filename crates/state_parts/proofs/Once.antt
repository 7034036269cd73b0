-- Names of which none is that of a GPT that was named before, and how many slots the named GPTs have.
use Rattle.std.proofs.Common.{◌≡◌, ℕ, zero, suc, ◌*◌, ◌<◌, ◌≤◌, ◌==◌, ◌||◌, ◌⊎◌, inl, inr, Bool, true, false, List, [], ◌∷◌, ◌++◌, length, refl, sym, ap, ◌∙◌, subst, append_assoc, append-nil, arith}
use Rattle.std.specs.Cmp.{unsigned_Decides}
use Rattle.std.specs.List.{IsDistinct, list_any}
use Rattle.std.proofs.lemmas.Cmp.{nat_eq_equiv}
use Rattle.std.proofs.lemmas.List.{length-append}
use Rattle.std.proofs.lemmas.List.Sums.{sum_by-cons}
use Rattle.std.proofs.lemmas.Map.Keys.{IsDistinct-push}
use Rattle.std.proofs.lemmas.Map.Steps.{length-le_from_distinct_below}
use Rattle.cap_format.specs.declared.kind.CapKind.{CapKind}
use Rattle.cap_format.specs.declared.kind.CapKind.TheVariants.{Page, CapPage, Gpt, Endpoint, Process}
use Rattle.object_store.specs.Store.{Store, size_of}
use Rattle.object_store.specs.Object.{ObjectName, object_name, IsAmong}
use Rattle.object_store.specs.Saved.{slots_copied}
use Rattle.machine_state.specs.Taking.{slots_taken}
use Rattle.state_parts.specs.Keys.{gpt_numbers, gpts_of, HasGptsOnce, numbered}

-- ---- names

-- two different answers
pub apart : {P : Type 0} → false ≡ true → P
apart e = cc

-- what is among two lists is among one of them
pub among_split : (kind : CapKind) (n : ℕ) (names others : List ObjectName) → IsAmong kind n (names ++ others) → IsAmong kind n names ⊎ IsAmong kind n others
among_split kind n [] others here = inr here
among_split kind n (name ∷ names) others (inl here) = inl (inl here)
among_split kind n (name ∷ names) others (inr later) = by (among_split kind n names others later)
  where
    by : IsAmong kind n names ⊎ IsAmong kind n others → IsAmong kind n (name ∷ names) ⊎ IsAmong kind n others
    by (inl here) = inl (inr here)
    by (inr there) = inr there

-- what is named among so many objects of a kind is one of them
pub numbered_there : (kind k : CapKind) (count n : ℕ) → IsAmong k n (numbered kind count) → (k ≡ kind) × (n < count)
numbered_there kind k zero n among = elim among [ ]
numbered_there kind k (suc count) n among = by (among_split k n (numbered kind count) (object_name kind count ∷ []) among) (numbered_there kind k count n)
  where
    by : IsAmong k n (numbered kind count) ⊎ IsAmong k n (object_name kind count ∷ []) → (IsAmong k n (numbered kind count) → (k ≡ kind) × (n < count)) → (k ≡ kind) × (n < suc count)
    by (inl before) rest = let is = rest before in let below : n < count = is.1 in (is.0, omega (arith, below))
    by (inr (inl here)) rest = let same : n ≡ count = here.1 in (here.0, omega (arith, same))
    by (inr (inr none)) rest = elim none [ ]

-- ---- numbers of GPTs

-- those of two lists
gpts_append : (names others : List ObjectName) → gpts_of (names ++ others) ≡ gpts_of names ++ gpts_of others
gpts_append [] others = refl
gpts_append (name ∷ names) others =
    ap (λ (rest : List ℕ). gpt_numbers name.kind name.number ++ rest) (gpts_append names others)
    ∙ sym (append_assoc (gpt_numbers name.kind name.number) (gpts_of names) (gpts_of others))

-- a number of a GPT is that of a name
among_gpts : (q : ℕ) (names : List ObjectName) → list_any (◌==◌ q) (gpts_of names) ≡ true → IsAmong Gpt q names
among_gpts q [] e = cc
among_gpts q (name ∷ names) e = by name.kind name.number (λ later. among_gpts q names later) e
  where
    first : (n : ℕ) (same : Bool) → (q == n) ≡ same → (same || list_any (◌==◌ q) (gpts_of names)) ≡ true → (q ≡ n) ⊎ (list_any (◌==◌ q) (gpts_of names) ≡ true)
    first n true is e = inl ((unsigned_Decides q n).0 is)
    first n false is e = inr e

    here : (n : ℕ) → (list_any (◌==◌ q) (gpts_of names) ≡ true → IsAmong Gpt q names) → (q ≡ n) ⊎ (list_any (◌==◌ q) (gpts_of names) ≡ true) → ((Gpt ≡ Gpt) × (q ≡ n)) ⊎ IsAmong Gpt q names
    here n later (inl same) = inl (refl, same)
    here n later (inr e) = inr (later e)

    by : (kind : CapKind) (n : ℕ) → (list_any (◌==◌ q) (gpts_of names) ≡ true → IsAmong Gpt q names) → list_any (◌==◌ q) (gpt_numbers kind n ++ gpts_of names) ≡ true → ((Gpt ≡ kind) × (q ≡ n)) ⊎ IsAmong Gpt q names
    by Gpt n later e = here n later (first n (q == n) refl e)
    by kind n later e = inr (later e)

-- one more that isn't named yet
pub once_push : (kind : CapKind) (n : ℕ) (names : List ObjectName) → (IsAmong kind n names → ⊥) → HasGptsOnce names → HasGptsOnce (names ++ object_name kind n ∷ [])
once_push kind n names new has = record { once = subst (λ (xs : List ℕ). IsDistinct ◌==◌ xs) (sym (gpts_append names (object_name kind n ∷ []))) (by kind new) }
  where
    no : (any : Bool) → list_any (◌==◌ n) (gpts_of names) ≡ any → (IsAmong Gpt n names → ⊥) → list_any (◌==◌ n) (gpts_of names) ≡ false
    no true is new = absurd (new (among_gpts n names is))
    no false is new = is

    by : (kind : CapKind) → (IsAmong kind n names → ⊥) → IsDistinct ◌==◌ (gpts_of names ++ gpts_of (object_name kind n ∷ []))
    by Gpt new = IsDistinct-push nat_eq_equiv (gpts_of names) n has.once (no (list_any (◌==◌ n) (gpts_of names)) refl new)
    by kind new = subst (λ (xs : List ℕ). IsDistinct ◌==◌ xs) (sym (append-nil (gpts_of names))) has.once

-- ---- all names

-- no GPT is named by those of another kind
gpts_none : (kind : CapKind) (count : ℕ) → ((n : ℕ) → gpt_numbers kind n ≡ []) → gpts_of (numbered kind count) ≡ []
gpts_none kind zero none = refl
gpts_none kind (suc n) none = gpts_append (numbered kind n) (object_name kind n ∷ []) ∙ ap (λ (xs : List ℕ). xs ++ (gpt_numbers kind n ++ [])) (gpts_none kind n none) ∙ ap (λ (xs : List ℕ). xs ++ []) (none n)

-- none is named
pub once_none : HasGptsOnce []
unfolding IsDistinct
once_none = record { once = tt }

-- one by one each is new
once_numbered : (count : ℕ) → HasGptsOnce (numbered Gpt count)
once_numbered zero = once_none
once_numbered (suc n) = once_push Gpt n (numbered Gpt n) (λ among. let below = (numbered_there Gpt Gpt n n among).1 in absurd (omega (arith, below))) (once_numbered n)

-- the names of all objects
pub once_all : (a b g p e : ℕ) → HasGptsOnce ([] ++ numbered Page a ++ numbered CapPage b ++ numbered Gpt g ++ numbered Process p ++ numbered Endpoint e)
once_all a b g p e = record { once = subst (λ (xs : List ℕ). IsDistinct ◌==◌ xs) (sym all) (once_numbered g).once }
  where
    behind : (names : List ObjectName) (kind : CapKind) (count : ℕ) → ((n : ℕ) → gpt_numbers kind n ≡ []) → gpts_of (names ++ numbered kind count) ≡ gpts_of names
    behind names kind count none = gpts_append names (numbered kind count) ∙ ap (λ (xs : List ℕ). gpts_of names ++ xs) (gpts_none kind count none) ∙ append-nil (gpts_of names)

    front : gpts_of ([] ++ numbered Page a ++ numbered CapPage b) ≡ []
    front = behind ([] ++ numbered Page a) CapPage b (λ n. refl) ∙ gpts_none Page a (λ n. refl)

    all : gpts_of ([] ++ numbered Page a ++ numbered CapPage b ++ numbered Gpt g ++ numbered Process p ++ numbered Endpoint e) ≡ gpts_of (numbered Gpt g)
    all =
        behind ([] ++ numbered Page a ++ numbered CapPage b ++ numbered Gpt g ++ numbered Process p) Endpoint e (λ n. refl)
        ∙ behind ([] ++ numbered Page a ++ numbered CapPage b ++ numbered Gpt g) Process p (λ n. refl)
        ∙ gpts_append ([] ++ numbered Page a ++ numbered CapPage b) (numbered Gpt g)
        ∙ ap (λ (xs : List ℕ). xs ++ gpts_of (numbered Gpt g)) front

-- ---- slots

-- a GPT has sixteen
slots_gpts : (names : List ObjectName) → slots_taken names ≡ 16 * length (gpts_of names)
slots_gpts [] = refl
slots_gpts (name ∷ names) =
    let first = sum_by-cons (λ (x : ObjectName). slots_copied x.kind) name names in
    let here = of_kind name.kind name.number in
    let all = length-append (gpt_numbers name.kind name.number) (gpts_of names) in
    let rest = slots_gpts names in
    omega (arith, first, here, all, rest)
  where
    of_kind : (kind : CapKind) (n : ℕ) → slots_copied kind ≡ 16 * length (gpt_numbers kind n)
    of_kind Gpt n = refl
    of_kind kind n = refl

-- where no GPT is named twice, they are at most those of all GPTs
pub slots_few : (s : Store) (names : List ObjectName) → ((n : ℕ) → IsAmong Gpt n names → n < size_of s.items Gpt) → HasGptsOnce names → slots_taken names ≤ 16 * size_of s.items Gpt
slots_few s names there has =
    let few = length-le_from_distinct_below (gpts_of names) (size_of s.items Gpt) has.once (λ q in_them. there q (among_gpts q names in_them)) in
    let slots = slots_gpts names in
    omega (arith, few, slots)
