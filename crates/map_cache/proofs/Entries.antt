-- The entries of the tables are the leaves of spaces, each once, and those of a space in order of address.
use Rattle.std.proofs.Common.{◌≡◌, ◌⊎◌, inl, inr, ℕ, zero, suc, ◌+◌, ◌-◌, ◌*◌, ◌<◌, ◌≤◌, ◌^◌, List, [], ◌∷◌, ◌++◌, length, Option, Some, None, refl, sym, ap, ◌∙◌, subst, arith}
use Rattle.std.specs.Prelude.{slice_get}
use Rattle.std.proofs.lemmas.Option.{none-some, slice_get_within}
use Rattle.cap_format.specs.Capability.{Capability}
use Rattle.sv32_tables.specs.declared.leaf.Leaf.{Leaf}
use Rattle.sv32_tables.specs.Pool.{PoolValue, leaf_at}
use Rattle.map_cache.specs.declared.key.Key.{Key}
use Rattle.map_cache.specs.declared.mapping.Mapping.{Mapping}
use Rattle.map_cache.specs.Key.{root_key}
use Rattle.map_cache.specs.Cache.{CacheValue, leaf_for, leaf_in, root_at}
use Rattle.map_cache.specs.Mappings.{AreMappings, entries_from, entries_in, entries_under, page_entries, mapping_of, mappings_of}
use Rattle.map_cache.proofs.Keyed.{root_at-is, root_at-some}
use Rattle.map_cache.proofs.Listed.{entries_from-suc, entries_from-zero}
use Rattle.depend_table.proofs.Tests.{one_or_not}
use Rattle.depend_table.specs.Keyed.{AreApart}

-- what stands in the second of two lists stands behind the first
get-right : {X : Type 0} (xs ys : List X) (j : ℕ) (x : X) → slice_get ys j ≡ Some x → slice_get (xs ++ ys) (length xs + j) ≡ Some x
get-right [] ys j x at = let same : 0 + j ≡ j = omega arith in ap (slice_get ys) same ∙ at
get-right (y ∷ xs) ys j x at = let same : suc (length xs) + j ≡ suc (length xs + j) = omega arith in ap (slice_get (y ∷ (xs ++ ys))) same ∙ get-right xs ys j x at

get-left : {X : Type 0} (xs ys : List X) (j : ℕ) (x : X) → slice_get xs j ≡ Some x → slice_get (xs ++ ys) j ≡ Some x
get-left [] ys j x at = absurd (none-some x at)
get-left (y ∷ xs) ys zero x at = at
get-left (y ∷ xs) ys (suc j) x at = get-left xs ys j x at

-- and nothing else does
get-append : {X : Type 0} (xs ys : List X) (i : ℕ) (x : X) → slice_get (xs ++ ys) i ≡ Some x → (slice_get xs i ≡ Some x) ⊎ ((j : ℕ) × ((i ≡ length xs + j) × (slice_get ys j ≡ Some x)))
get-append [] ys i x at = inr (i, (omega arith, at))
get-append (y ∷ xs) ys zero x at = inl at
get-append (y ∷ xs) ys (suc i) x at = elim (get-append xs ys i x at) [
  | inl here ↦ inl here
  | inr there ↦ let place = there.1.0 in inr (there.0, (omega (arith, place), there.1.1))
]

-- ---- the pages of a root

-- an entry of one of the pages
record IsEntry (t : PoolValue) (root : ℕ) (space : Capability) (first n : ℕ) (m : Mapping) : Type 0 where
  pub page : ℕ
  pub leaf : Leaf
  pub from : first ≤ page
  pub before : page < first + n
  pub there : leaf_at t root page ≡ Some leaf
  pub is : m ≡ mapping_of space page leaf

module _ (t : PoolValue) (root : ℕ) (space : Capability) where
  from-right : (n first i : ℕ) (m : Mapping) → slice_get (entries_from t root space first n) i ≡ Some m → IsEntry t root space first n m
  from-right zero first i m at = absurd (none-some m (sym (ap (λ (ms : List Mapping). slice_get ms i) (entries_from-zero t root space first)) ∙ at))
  from-right (suc n) first i m at = on (leaf_at t root first) refl i (sym (ap (λ (ms : List Mapping). slice_get ms i) (entries_from-suc t root space first n)) ∙ at) (from-right n (suc first))
    where
      later : IsEntry t root space (suc first) n m → IsEntry t root space first (suc n) m
      later e = let from = e.from in let before = e.before in record { page = e.page; leaf = e.leaf; from = omega (arith, from); before = omega (arith, before); there = e.there; is = e.is }

      on : (l : Option Leaf) → leaf_at t root first ≡ l → (i : ℕ) → slice_get (page_entries space first l ++ entries_from t root space (suc first) n) i ≡ Some m
          → ((i : ℕ) (m : Mapping) → slice_get (entries_from t root space (suc first) n) i ≡ Some m → IsEntry t root space (suc first) n m) → IsEntry t root space first (suc n) m
      on None is i at next = later (next i m at)
      on (Some leaf) is zero at next = record { page = first; leaf = leaf; from = omega arith; before = omega arith; there = is; is = cc }
      on (Some leaf) is (suc i) at next = later (next i m at)

  from-each : (n first page : ℕ) (leaf : Leaf) → first ≤ page → page < first + n → leaf_at t root page ≡ Some leaf → (i : ℕ) × (slice_get (entries_from t root space first n) i ≡ Some (mapping_of space page leaf))
  from-each zero first page leaf from before there = absurd (omega (arith, from, before))
  from-each (suc n) first page leaf from before there = elim (one_or_not page first) [
    | inl same ↦
        let here : leaf_at t root first ≡ Some leaf = ap (leaf_at t root) (sym same) ∙ there in (
          0,
          ap (λ (ms : List Mapping). slice_get ms 0) (entries_from-suc t root space first n ∙ ap (λ (l : Option Leaf). page_entries space first l ++ entries_from t root space (suc first) n) here)
              ∙ ap (λ (p : ℕ). Some (mapping_of space p leaf)) (sym same),
        )
    | inr other ↦
        let next = from-each n (suc first) page leaf (omega (arith, from, other)) (omega (arith, before)) there in (
          length (page_entries space first (leaf_at t root first)) + next.0,
          ap (λ (ms : List Mapping). slice_get ms (length (page_entries space first (leaf_at t root first)) + next.0)) (entries_from-suc t root space first n)
              ∙ get-right (page_entries space first (leaf_at t root first)) (entries_from t root space (suc first) n) next.0 (mapping_of space page leaf) next.1,
        )
  ]

  from-order : (n first i j : ℕ) (m k : Mapping) → i < j → slice_get (entries_from t root space first n) i ≡ Some m → slice_get (entries_from t root space first n) j ≡ Some k → m.va < k.va
  from-order zero first i j m k less ati atj = absurd (none-some m (sym (ap (λ (ms : List Mapping). slice_get ms i) (entries_from-zero t root space first)) ∙ ati))
  from-order (suc n) first i j m k less ati atj =
      on (leaf_at t root first) i j less (sym (ap (λ (ms : List Mapping). slice_get ms i) (entries_from-suc t root space first n)) ∙ ati) (sym (ap (λ (ms : List Mapping). slice_get ms j) (entries_from-suc t root space first n)) ∙ atj) (from-order n (suc first))
    where
      on : (l : Option Leaf) (i j : ℕ) → i < j → slice_get (page_entries space first l ++ entries_from t root space (suc first) n) i ≡ Some m → slice_get (page_entries space first l ++ entries_from t root space (suc first) n) j ≡ Some k
          → ((i j : ℕ) (m k : Mapping) → i < j → slice_get (entries_from t root space (suc first) n) i ≡ Some m → slice_get (entries_from t root space (suc first) n) j ≡ Some k → m.va < k.va) → m.va < k.va
      on None i j less ati atj next = next i j m k less ati atj
      on (Some leaf) i zero less ati atj next = absurd (omega (arith, less))
      on (Some leaf) zero (suc j) less ati atj next =
          let e = from-right n (suc first) j k atj in
          let here : mapping_of space first leaf ≡ m = cc in
          let va : m.va ≡ first * 4096 = ap (λ (x : Mapping). x.va) (sym here) in
          let ka : k.va ≡ e.page * 4096 = ap (λ (x : Mapping). x.va) e.is in
          let from = e.from in
          omega (arith, va, ka, from)
      on (Some leaf) (suc i) (suc j) less ati atj next = next i j m k (omega (arith, less)) ati atj

-- ---- all frames

-- an entry under one of the frames
record IsUnderFrame (t : PoolValue) (frame : ℕ) (keys : List Key) (m : Mapping) : Type 0 where
  pub place : ℕ
  pub space : Capability
  pub at : slice_get keys place ≡ Some (root_key space)
  pub entry : IsEntry t (frame + place) space 0 (2 ^ 20) m

module _ (t : PoolValue) where
  in-right : (keys : List Key) (frame i : ℕ) (m : Mapping) → slice_get (entries_in t frame keys) i ≡ Some m → IsUnderFrame t frame keys m
  in-right [] frame i m at = absurd (none-some m at)
  in-right (k ∷ keys) frame i m at = elim (get-append (entries_under t frame k.space 0 k.region) (entries_in t (suc frame) keys) i m at) [
    | inl here ↦ on k.region refl here
    | inr there ↦
        let next = in-right keys (suc frame) there.0 m there.1.1 in
        let same : suc frame + next.place ≡ frame + suc next.place = omega arith in
        record { place = suc next.place; space = next.space; at = next.at; entry = subst (λ (f : ℕ). IsEntry t f next.space 0 (2 ^ 20) m) same next.entry }
  ]
    where
      on : (r : Option ℕ) → k.region ≡ r → slice_get (entries_under t frame k.space 0 r) i ≡ Some m → IsUnderFrame t frame (k ∷ keys) m
      on None is here =
          let same : frame ≡ frame + 0 = omega arith in
          let whole : 2 ^ 20 - 0 ≡ 2 ^ 20 = omega arith in
          let e = from-right t frame k.space (2 ^ 20 - 0) 0 i m here in
          record {
            place = 0;
            space = k.space;
            at = λ j. Some (record { space = k.space; region = is j });
            entry = subst (λ (f : ℕ). IsEntry t f k.space 0 (2 ^ 20) m) same (subst (λ (n : ℕ). IsEntry t frame k.space 0 n m) whole e);
          }
      on (Some region) is here = absurd (none-some m here)

  in-each : (keys : List Key) (frame place page : ℕ) (space : Capability) (leaf : Leaf) → slice_get keys place ≡ Some (root_key space) → page < 2 ^ 20 → leaf_at t (frame + place) page ≡ Some leaf
      → (i : ℕ) × (slice_get (entries_in t frame keys) i ≡ Some (mapping_of space page leaf))
  in-each [] frame place page space leaf at low there = absurd (none-some (root_key space) at)
  in-each (k ∷ keys) frame zero page space leaf at low there =
      let here : k ≡ root_key space = cc in
      let same : frame + 0 ≡ frame = omega arith in
      let found = from-each t frame space (2 ^ 20 - 0) 0 page leaf (omega arith) (omega (arith, low)) (ap (λ (f : ℕ). leaf_at t f page) (sym same) ∙ there) in (
        found.0,
        get-left (entries_under t frame k.space 0 k.region) (entries_in t (suc frame) keys) found.0 (mapping_of space page leaf)
            (ap (λ (x : Key). slice_get (entries_under t frame x.space 0 x.region) found.0) here ∙ found.1),
      )
  in-each (k ∷ keys) frame (suc place) page space leaf at low there =
      let same : suc frame + place ≡ frame + suc place = omega arith in
      let found = in-each keys (suc frame) place page space leaf at low (ap (λ (f : ℕ). leaf_at t f page) same ∙ there) in
      (length (entries_under t frame k.space 0 k.region) + found.0, get-right (entries_under t frame k.space 0 k.region) (entries_in t (suc frame) keys) found.0 (mapping_of space page leaf) found.1)

  in-order : (keys : List Key) (frame i j : ℕ) (m n : Mapping) → AreApart keys → i < j → slice_get (entries_in t frame keys) i ≡ Some m → slice_get (entries_in t frame keys) j ≡ Some n → m.space ≡ n.space → m.va < n.va
  in-order [] frame i j m n apart less ati atj same = absurd (none-some m ati)
  in-order (k ∷ keys) frame i j m n apart less ati atj same =
      elim (get-append front rest i m ati) [
        | inl herei ↦ elim (get-append front rest j n atj) [
          | inl herej ↦ on k.region herei herej
          | inr therej ↦ absurd (let e = in-right keys (suc frame) therej.0 n therej.1.1 in first k.region refl herei e)
        ]
        | inr therei ↦ elim (get-append front rest j n atj) [
          | inl herej ↦ absurd (
              let place = therei.1.0 in
              let within = past front j n herej in
              omega (arith, less, place, within))
          | inr therej ↦
              let pi = therei.1.0 in
              let pj = therej.1.0 in
              in-order keys (suc frame) therei.0 therej.0 m n (λ f g x atf atg. let one = apart (suc f) (suc g) x atf atg in omega (arith, one)) (omega (arith, less, pi, pj)) therei.1.1 therej.1.1 same
        ]
      ]
    where
      front : List Mapping
      front = entries_under t frame k.space 0 k.region

      rest : List Mapping
      rest = entries_in t (suc frame) keys

      past : (xs : List Mapping) (j : ℕ) (x : Mapping) → slice_get xs j ≡ Some x → j < length xs
      past xs j x at = slice_get_within xs j x at

      on : (r : Option ℕ) → slice_get (entries_under t frame k.space 0 r) i ≡ Some m → slice_get (entries_under t frame k.space 0 r) j ≡ Some n → m.va < n.va
      on None herei herej = from-order t frame k.space (2 ^ 20 - 0) 0 i j m n less herei herej
      on (Some region) herei herej = absurd (none-some m herei)

      first : (r : Option ℕ) → k.region ≡ r → slice_get (entries_under t frame k.space 0 r) i ≡ Some m → IsUnderFrame t (suc frame) keys n → ⊥
      first (Some region) is here e = none-some m here
      first None is here e =
          let f = from-right t frame k.space (2 ^ 20 - 0) 0 i m here in
          let mine : m.space ≡ k.space = ap (λ (x : Mapping). x.space) f.is in
          let other : n.space ≡ e.space = ap (λ (x : Mapping). x.space) e.entry.is in
          let spaces : e.space ≡ k.space = sym other ∙ sym same ∙ mine in
          let at : slice_get keys e.place ≡ Some k = e.at ∙ (λ j. Some (record { space = spaces j; region = sym is j })) in
          let one = apart 0 (suc e.place) k refl at in
          omega (arith, one)

-- the list of a cache is right
pub are-mappings : (v : CacheValue) → AreApart v.keys → AreMappings v (mappings_of v)
are-mappings v apart = record { each = each; right = right; order = λ i j m n less ati atj same. in-order v.tables v.keys 0 i j m n apart less ati atj same }
  where
    each : (space : Capability) (page : ℕ) (leaf : Leaf) → page < 2 ^ 20 → leaf_for v space page ≡ Some leaf → (n : ℕ) × (slice_get (mappings_of v) n ≡ Some (mapping_of space page leaf))
    each space page leaf low there = on (root_at v.keys space) refl there
      where
        on : (r : Option ℕ) → root_at v.keys space ≡ r → leaf_in v.tables page r ≡ Some leaf → (n : ℕ) × (slice_get (mappings_of v) n ≡ Some (mapping_of space page leaf))
        on None is found = absurd (none-some leaf found)
        on (Some root) is found =
            let zero_add : root ≡ 0 + root = omega arith in
            in-each v.tables v.keys 0 root page space leaf (root_at-some v.keys space root is) low (ap (λ (f : ℕ). leaf_at v.tables f page) (sym zero_add) ∙ found)

    right : (n : ℕ) (m : Mapping) → slice_get (mappings_of v) n ≡ Some m → (page : ℕ) × (leaf : Leaf) × (page < 2 ^ 20) × (leaf_for v m.space page ≡ Some leaf) × (m ≡ mapping_of m.space page leaf)
    right n m at =
        let e = in-right v.tables v.keys 0 n m at in
        let spaces : m.space ≡ e.space = ap (λ (x : Mapping). x.space) e.entry.is in
        let root = root_at-is v.keys e.space e.place apart e.at in
        let zero_add : 0 + e.place ≡ e.place = omega arith in
        let before = e.entry.before in (
          e.entry.page,
          e.entry.leaf,
          omega (arith, before),
          ap (λ (s : Capability). leaf_for v s e.entry.page) spaces ∙ ap (leaf_in v.tables e.entry.page) root ∙ ap (λ (f : ℕ). leaf_at v.tables f e.entry.page) (sym zero_add) ∙ e.entry.there,
          e.entry.is ∙ ap (λ (s : Capability). mapping_of s e.entry.page e.entry.leaf) (sym spaces),
        )
