-- A translation: by a leaf that is there, and by a walk.
use Rattle.std.proofs.Common.{◌≡◌, ℕ, ◌<◌, ◌/◌, ◌%◌, ◌^◌, Bool, true, false, ◌&&◌, nat_lt, if◌then◌else◌, List, Option, Some, None, Result, Ok, Err, is_some, refl, sym, ap, ◌∙◌, subst, arith}
use Rattle.std.specs.List.{AllByRecursion as Each}
use Rattle.std.proofs.lemmas.Bool.Decides.{nat_tests}
use Rattle.std.proofs.lemmas.Option.{none-some}
use Rattle.cap_format.specs.Capability.{Capability, IsCapability}
use Rattle.cap_format.specs.Item.{IsItem}
use Rattle.cap_format.specs.declared.kind.CapKind.{CapKind}
use Rattle.cap_format.specs.declared.kind.CapKind.TheVariants.{CapPage, Page}
use Rattle.object_store.specs.Store.{Items, size_of}
use Rattle.object_store.specs.Meaning.{map_of, meaning}
use Rattle.object_store.specs.Ranges.{IsRanged}
use Rattle.object_store.proofs.Ranged.{IsRanged-map_of}
use Rattle.object_store.proofs.Live.{IsCapability-meaning}
use Rattle.sv32_tables.specs.declared.leaf.Leaf.{Leaf}
use Rattle.tlb_model.specs.declared.entry.Entry.{Entry}
use Rattle.walk_meaning.specs.declared.kind.Kind.{Kind}
use Rattle.walk_meaning.specs.declared.noted.Noted.{Noted}
use Rattle.walk_meaning.specs.declared.place.Place.{Place}
use Rattle.walk_meaning.specs.declared.place.WalkFault.{WalkFault}
use Rattle.walk_meaning.specs.Walk.{access, is_data}
use Rattle.walk_meaning.specs.Trail.{trail}
use Rattle.walk_meaning.specs.Laws.{KindLaw, PageLaw, PlaceLaw, ReadsLaw}
use Rattle.walk_engine.specs.Answer.{hit_of}
use Rattle.map_cache.specs.Kept.{KeptValue, cost_of, counted, is_reached, is_spared, kept_after, tlb_after}
use Rattle.map_cache.specs.Cache.{CacheValue, IsCache, kept_of, leaf_for, leaf_in, root_at}
use Rattle.map_cache.specs.Coherent.{IsCoherent, IsFresh, IsRecorded}
use Rattle.map_cache.specs.Effects.{IsWalked, allows, reached_leaf}
use Rattle.map_cache.proofs.Keyed.{root_at-some, space_at-at}
use Rattle.map_cache.proofs.Invariant.{root_made}
use Rattle.map_cache.proofs.Accesses.{IsAdded, adds, counted-reached, leaf-reaches, leaf-refuses, reads-items, spared, walked-fresh}

-- an access that a leaf serves
pub record Served (items : Items) (space : Capability) (address : ℕ) (kind : Kind) (k : KeptValue) (leaf : Leaf) : Type 0 where
  pub answer : Ok (record { page = leaf.page; offset = address % 4096 }) ≡ hit_of (access (map_of items) (meaning items space) address kind)
  pub page : leaf.page < size_of items Page
  pub found : is_spared k (map_of items) (meaning items space) address kind ≡ true
  pub cost : cost_of k (map_of items) (meaning items space) address kind ≡ 0
  pub after : kept_after k (map_of items) (meaning items space) address kind ≡ k
  pub tlb : (entries : List Entry) → tlb_after k (map_of items) (meaning items space) address kind entries ≡ entries

module _ (page_law : PageLaw) (kind_law : KindLaw) (items : Items) (ranged : IsRanged items) (space : Capability) (is : IsCapability space)
    (address : ℕ) (low : address < 2 ^ 32) (kind : Kind) (data' : is_data kind ≡ true)
    (v : CacheValue) (cache : IsCache v.tables v.keys v.tlbs v.records) (coherent : IsCoherent v (map_of items)) where
  inside : address / 4096 < 2 ^ 20
  inside = omega (arith, low)

  meant : IsCapability (meaning items space)
  meant = IsCapability-meaning items space is

  -- the leaf of a page of a space is fresh
  fresh-for : (leaf : Leaf) → leaf_for v space (address / 4096) ≡ Some leaf → (P : Noted → Type 0) × IsFresh (map_of items) space (address / 4096) leaf P
  fresh-for leaf there = on (root_at v.keys space) refl there
    where
      on : (r : Option ℕ) → root_at v.keys space ≡ r → leaf_in v.tables (address / 4096) r ≡ Some leaf → (P : Noted → Type 0) × IsFresh (map_of items) space (address / 4096) leaf P
      on None at found = absurd (none-some leaf found)
      on (Some root) at found =
          let here = root_at-some v.keys space root at in
          let made = root_made v.tables v.keys v.tlbs v.records cache root space here in (
            IsRecorded v.records root (address / 4096),
            subst (λ (s : Capability). IsFresh (map_of items) s (address / 4096) leaf (IsRecorded v.records root (address / 4096))) (space_at-at v.keys root _ here)
                (coherent root (address / 4096) leaf (record { made = made; inside = inside }) found),
          )

  held-page : (leaf : Option Leaf) → (nat_lt (address / 4096) (2 ^ 20) && is_some leaf) ≡ is_some leaf
  held-page leaf = let yes : nat_lt (address / 4096) (2 ^ 20) ≡ true = (let less = inside in grind (arith, nat_tests, less)) in
      ap (λ (b : Bool). b && is_some leaf) yes

  -- by a leaf that allows it
  pub served : PlaceLaw → (leaf : Leaf) → leaf_for v space (address / 4096) ≡ Some leaf → allows leaf kind ≡ true → Served items space address kind (kept_of v) leaf
  served place_law leaf there allowed =
      let fresh = fresh-for leaf there in
      let reaches = leaf-reaches page_law kind_law (map_of items) space (IsRanged-map_of items ranged) meant address kind data' leaf fresh.0 fresh.1 allowed in
      let placed = place_law items space address kind reaches.place reaches.reached in
      let paged : reaches.place.kind ≡ Page = placed.kind_is ∙ ap (λ (b : Bool). if b then Page else CapPage) data' in
      let done = spared (kept_of v) (map_of items) (meaning items space) address kind space reaches.place
      (counted-reached (map_of items) space address kind reaches.place is reaches.reached) reaches.reached (held-page (leaf_for v space (address / 4096)) ∙ ap is_some there) in
      record {
        answer = sym (ap hit_of reaches.reached ∙ λ i. Ok (record { page = reaches.leads i; offset = reaches.offset i }));
        page = subst (λ (n : ℕ). n < size_of items Page) reaches.leads (subst (λ (k : CapKind). reaches.place.number < size_of items k) paged placed.there);
        found = done.found;
        cost = done.cost;
        after = done.after;
        tlb = done.tlb;
      }

  -- where an access reaches that no leaf served, there is none
  pub unserved : ((leaf : Leaf) → leaf_for v space (address / 4096) ≡ Some leaf → allows leaf kind ≡ false) → (place : Place) → access (map_of items) (meaning items space) address kind ≡ Ok place → leaf_for v space (address / 4096) ≡ None
  unserved refused place reached = on (leaf_for v space (address / 4096)) refl
    where
      on : (leaf : Option Leaf) → leaf_for v space (address / 4096) ≡ leaf → leaf ≡ None
      on None there = refl
      on (Some leaf) there =
          let fresh = fresh-for leaf there in
          absurd (leaf-refuses page_law kind_law (map_of items) space (IsRanged-map_of items ranged) meant address kind data' leaf fresh.0 place fresh.1 (refused leaf there) reached)

  -- what an access costs and leaves that reaches on a page without a leaf
  pub reached-new : (place : Place) → access (map_of items) (meaning items space) address kind ≡ Ok place → leaf_for v space (address / 4096) ≡ None → IsAdded (kept_of v) (map_of items) (meaning items space) space address kind
  reached-new place reached none =
      adds (kept_of v) (map_of items) (meaning items space) address kind space place (counted-reached (map_of items) space address kind place is reached) reached (held-page (leaf_for v space (address / 4096)) ∙ ap is_some none)

  -- an access that no leaf serves is not spared its walk
  pub unspared : ((leaf : Leaf) → leaf_for v space (address / 4096) ≡ Some leaf → allows leaf kind ≡ false) → is_spared (kept_of v) (map_of items) (meaning items space) address kind ≡ false
  unspared refused = on (access (map_of items) (meaning items space) address kind) refl
    where
      on : (r : Result Place WalkFault) → access (map_of items) (meaning items space) address kind ≡ r → is_spared (kept_of v) (map_of items) (meaning items space) address kind ≡ false
      on (Ok place) reached = (reached-new place reached (unserved refused place reached)).unfound
      on (Err fault) faulted = ap (λ (r : Result Place WalkFault). is_reached r && (kept_of v).held (counted (map_of items) (meaning items space)) (address / 4096)) faulted

  -- the leaf of the place is fresh
  pub reached-walked : ReadsLaw → (place : Place) (reads : List Noted) → access (map_of items) (meaning items space) address kind ≡ Ok place → reads ≡ trail (map_of items) (meaning items space) address kind
      → IsWalked (map_of items) space (address / 4096) (reached_leaf place) reads
  reached-walked reads_law place reads reached same =
      subst (λ (ns : List Noted). IsWalked (map_of items) space (address / 4096) (reached_leaf place) ns) (sym same)
      (walked-fresh page_law kind_law (map_of items) space (IsRanged-map_of items ranged) meant address kind data' reads_law place low reached)

-- the reads of a walk are of items that there may be
pub walk-items : ReadsLaw → (items : Items) → IsRanged items → (space : Capability) → IsCapability space → (address : ℕ) → address < 2 ^ 32 → (kind : Kind) (reads : List Noted)
    → reads ≡ trail (map_of items) (meaning items space) address kind → Each (λ (n : Noted). IsItem n.item) reads
walk-items reads_law items ranged space is address low kind reads same =
    subst (λ (ns : List Noted). Each (λ (n : Noted). IsItem n.item) ns) (sym same)
    (reads-items reads_law (map_of items) (meaning items space) address kind (IsRanged-map_of items ranged) (IsCapability-meaning items space is) low)
