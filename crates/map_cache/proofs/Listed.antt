-- Entries page by page and frame by frame.
use Rattle.std.proofs.Common.{◌≡◌, inl, inr, ℕ, zero, suc, ◌+◌, ◌-◌, ◌*◌, ◌/◌, ◌<◌, ◌≤◌, ◌^◌, max, List, [], ◌∷◌, ◌++◌, length, get_or, drop, false, is_some, Option, Some, None, refl, sym, ap, ◌∙◌, arith}
use Rattle.std.specs.Prelude.{slice_get}
use Rattle.cap_format.specs.Capability.{Capability}
use Rattle.sv32_tables.specs.declared.leaf.Leaf.{Leaf}
use Rattle.std.proofs.lemmas.Bool.{cases_lt}
use Rattle.std.proofs.lemmas.Option.{slice_get_read}
use Rattle.sv32_tables.specs.Pool.{PoolValue, leaf_at, word_at}
use Rattle.sv32_tables.proofs.Leaves.{leaf_at-zero}
use Rattle.map_cache.specs.declared.key.Key.{Key}
use Rattle.map_cache.specs.declared.mapping.Mapping.{Mapping}
use Rattle.map_cache.specs.Cache.{CacheValue}
use Rattle.map_cache.specs.Mappings.{HasNext, entries_at, entries_from, entries_in, entries_under, page_entries, mapping_of, mappings_left, place_at}
use Rattle.depend_table.proofs.Tests.{one_or_not}

-- no page
pub entries_from-zero : (t : PoolValue) (root : ℕ) (space : Capability) (page : ℕ) → entries_from t root space page zero ≡ []
unfolding entries_from
entries_from-zero t root space page = refl

-- one page and the rest
pub entries_from-suc : (t : PoolValue) (root : ℕ) (space : Capability) (page n : ℕ) → entries_from t root space page (suc n) ≡ page_entries space page (leaf_at t root page) ++ entries_from t root space (suc page) n
unfolding entries_from
entries_from-suc t root space page n = refl

module _ (t : PoolValue) (root : ℕ) (space : Capability) where
  -- pages without a leaf have no entry
  pub entries_from-skip : (k n m first : ℕ) → m ≡ k + n → ((p : ℕ) → first ≤ p → p < first + k → leaf_at t root p ≡ None) → entries_from t root space first m ≡ entries_from t root space (first + k) n
  entries_from-skip zero n m first is none =
      let count : m ≡ n = omega (arith, is) in
      let same : first ≡ first + zero = omega arith in
      λ i. entries_from t root space (same i) (count i)
  entries_from-skip (suc k) n zero first is none = absurd (omega (arith, is))
  entries_from-skip (suc k) n (suc m) first is none =
      let here : leaf_at t root first ≡ None = none first (omega arith) (omega arith) in
      let on : suc first + k ≡ first + suc k = omega arith in
      entries_from-suc t root space first m
      ∙ ap (λ (x : Option Leaf). page_entries space first x ++ entries_from t root space (suc first) m) here
      ∙ entries_from-skip k n m (suc first) (omega (arith, is)) (λ p from before. none p (omega (arith, from)) (omega (arith, before)))
      ∙ ap (λ (f : ℕ). entries_from t root space f n) on

  -- up to the next page that has a leaf
  pub entries_from-next : (end first page : ℕ) (leaf : Leaf) → HasNext t root first end page leaf → entries_from t root space first (end - first) ≡ mapping_of space page leaf ∷ entries_from t root space (page + 1) (end - (page + 1))
  entries_from-next end first page leaf next =
      let from = next.from in
      let before = next.before in
      let there : first + (page - first) ≡ page = omega (arith, from) in
      let count : end - page ≡ suc (end - (page + 1)) = omega (arith, before) in
      let behind : suc page ≡ page + 1 = omega arith in
      entries_from-skip (page - first) (end - page) (end - first) first (omega (arith, from, before)) (λ p above below. next.none p above (omega (arith, below, from)))
      ∙ (λ i. entries_from t root space (there i) (count i))
      ∙ entries_from-suc t root space page (end - (page + 1))
      ∙ ap (λ (x : Option Leaf). page_entries space page x ++ entries_from t root space (suc page) (end - (page + 1))) next.there
      ∙ ap (λ (f : ℕ). mapping_of space page leaf ∷ entries_from t root space f (end - (page + 1))) behind

  -- where none has one
  pub entries_from-none : (end first : ℕ) → ((p : ℕ) → first ≤ p → p < end → leaf_at t root p ≡ None) → entries_from t root space first (end - first) ≡ []
  entries_from-none end first none =
      entries_from-skip (end - first) zero (end - first) first (omega arith) (λ p from before. none p from (omega (arith, from, before)))
      ∙ entries_from-zero t root space (first + (end - first))

-- one page more without a leaf
pub one-none : (t : PoolValue) (root first page : ℕ) → ((p : ℕ) → first ≤ p → p < page → leaf_at t root p ≡ None) → leaf_at t root page ≡ None → (p : ℕ) → first ≤ p → p < page + 1 → leaf_at t root p ≡ None
one-none t root first page before here p from below = elim (one_or_not p page) [
  | inl same ↦ ap (leaf_at t root) same ∙ here
  | inr other ↦ before p from (omega (arith, below, other))
]

-- a region whose word is 0 has none
pub zero-none : (t : PoolValue) (root region first : ℕ) → region * 1024 ≤ first → word_at t.words root region ≡ 0 → (p : ℕ) → first ≤ p → p < (region + 1) * 1024 → leaf_at t root p ≡ None
zero-none t root region first inside zeroed p from below =
    let at : p / 1024 ≡ region = omega (arith, inside, from, below) in
    leaf_at-zero t.words t.uses root p (ap (word_at t.words root) at ∙ zeroed)

-- a region more whose pages have none
pub region-none : (t : PoolValue) (root first region from : ℕ) → ((p : ℕ) → first ≤ p → p < region * 1024 → leaf_at t root p ≡ None) → from ≡ max first (region * 1024)
    → ((p : ℕ) → from ≤ p → p < (region + 1) * 1024 → leaf_at t root p ≡ None) → (p : ℕ) → first ≤ p → p < (region + 1) * 1024 → leaf_at t root p ≡ None
region-none t root first region from before is none p above below = elim (cases_lt p (region * 1024)) [
  | inl less ↦ before p above less
  | inr more ↦ none p (omega (arith, is, above, more)) below
]

-- a leaf that is next in a region is next
pub region-next : (t : PoolValue) (root first region from page : ℕ) (leaf : Leaf) → region < 1024 → ((p : ℕ) → first ≤ p → p < region * 1024 → leaf_at t root p ≡ None) → from ≡ max first (region * 1024)
    → HasNext t root from ((region + 1) * 1024) page leaf → HasNext t root first 1048576 page leaf
region-next t root first region from page leaf inside before is next = record {
  from = omega (arith, is, next.from);
  before = omega (arith, inside, next.before);
  there = next.there;
  none = λ p above below. elim (cases_lt p (region * 1024)) [
    | inl less ↦ before p above less
    | inr more ↦ next.none p (omega (arith, is, above, more)) below
  ];
}

-- what stands at a place and what is behind it
drop-at : (keys : List Key) (f : ℕ) (k : Key) → slice_get keys f ≡ Some k → drop f keys ≡ k ∷ drop (suc f) keys
drop-at [] f k at = absurd (cc)
drop-at (x ∷ keys) zero k at = let here : x ≡ k = cc in ap (λ (y : Key). y ∷ keys) here
drop-at (x ∷ keys) (suc f) k at = drop-at keys f k at

-- from the start of a frame on
entries_at-start : (t : PoolValue) (f : ℕ) (keys : List Key) → entries_at t f 0 keys ≡ entries_in t f keys
entries_at-start t f [] = refl
entries_at-start t f (k ∷ keys) = refl

module _ (v : CacheValue) (frame page : ℕ) (k : Key) (at : slice_get v.keys frame ≡ Some k) where
  -- the entries left at a frame's place
  left-at : mappings_left v (place_at frame page) ≡ entries_under v.tables frame k.space page k.region ++ entries_in v.tables (suc frame) (drop (suc frame) v.keys)
  left-at = ap (entries_at v.tables frame page) (drop-at v.keys frame k at)

  left-behind : entries_in v.tables (suc frame) (drop (suc frame) v.keys) ≡ mappings_left v (place_at (frame + 1) 0)
  left-behind = let one : suc frame ≡ frame + 1 = omega arith in
      sym (entries_at-start v.tables (suc frame) (drop (suc frame) v.keys)) ∙ ap (λ (f : ℕ). entries_at v.tables f 0 (drop f v.keys)) one

  -- an entry of the frame comes next
  pub left-next : (found : ℕ) (leaf : Leaf) → k.region ≡ None → HasNext v.tables frame page (2 ^ 20) found leaf
      → mappings_left v (place_at frame page) ≡ mapping_of k.space found leaf ∷ mappings_left v (place_at frame (found + 1))
  left-next found leaf root next =
      left-at
      ∙ ap (λ (r : Option ℕ). entries_under v.tables frame k.space page r ++ entries_in v.tables (suc frame) (drop (suc frame) v.keys)) root
      ∙ ap (λ (ms : List Mapping). ms ++ entries_in v.tables (suc frame) (drop (suc frame) v.keys)) (entries_from-next v.tables frame k.space (2 ^ 20) page found leaf next)
      ∙ ap (λ (ms : List Mapping). mapping_of k.space found leaf ∷ ms) (sym (
      ap (entries_at v.tables frame (found + 1)) (drop-at v.keys frame k at)
      ∙ ap (λ (r : Option ℕ). entries_under v.tables frame k.space (found + 1) r ++ entries_in v.tables (suc frame) (drop (suc frame) v.keys)) root))

  -- or none of the root's
  pub left-none : k.region ≡ None → ((p : ℕ) → page ≤ p → p < 2 ^ 20 → leaf_at v.tables frame p ≡ None) → mappings_left v (place_at frame page) ≡ mappings_left v (place_at (frame + 1) 0)
  left-none root none =
      left-at
      ∙ ap (λ (r : Option ℕ). entries_under v.tables frame k.space page r ++ entries_in v.tables (suc frame) (drop (suc frame) v.keys)) root
      ∙ ap (λ (ms : List Mapping). ms ++ entries_in v.tables (suc frame) (drop (suc frame) v.keys)) (entries_from-none v.tables frame k.space (2 ^ 20) page none)
      ∙ left-behind

-- behind the last frame there is none
pub left-end : (v : CacheValue) (frame page : ℕ) → length v.keys ≤ frame → mappings_left v (place_at frame page) ≡ []
left-end v frame page past = ap (entries_at v.tables frame page) (drop-all v.keys frame past)
  where
    drop-all : (keys : List Key) (f : ℕ) → length keys ≤ f → drop f keys ≡ []
    drop-all [] zero past = refl
    drop-all [] (suc f) past = refl
    drop-all (k ∷ keys) zero past = absurd (omega (arith, past))
    drop-all (k ∷ keys) (suc f) past = drop-all keys f (omega (arith, past))

-- what has no region
pub no_region : (r : Option ℕ) → is_some r ≡ false → r ≡ None
no_region None is = refl
no_region (Some region) is = absurd (cc)

-- a key that was read
pub key-here : (keys held : List Key) (frame : ℕ) (k : Key) → held ≡ keys → frame < length keys → k ≡ get_or held frame k → slice_get keys frame ≡ Some k
key-here keys held frame k same within is =
    sym (ap (λ (ks : List Key). slice_get ks frame) same) ∙ slice_get_read held (length held) frame k refl (omega (arith, within, ap (λ (ks : List Key). length ks) same)) is
