-- What a fresh leaf says of an access, what a walk that reached makes of a leaf, and what either costs.
use Rattle.std.proofs.Common.{◌≡◌, ℕ, ◌*◌, ◌<◌, ◌/◌, ◌%◌, ◌^◌, Bool, true, false, not, ◌&&◌, ◌==◌, nat_lt, if◌then◌else◌, List, [], length, Ok, Err, is_some, refl, sym, ap, ◌∙◌, subst, arith}
use Rattle.std.specs.Prelude.{slice_index}
use Rattle.std.specs.List.{AllByRecursion as Each}
use Rattle.cap_format.specs.Kind.{is_counted, object_kind}
use Rattle.cap_format.specs.Capability.{Capability, IsCapability, bare, null, with_count}
use Rattle.cap_format.specs.Item.{IsItem}
use Rattle.guard_math.specs.Block.{holds}
use Rattle.object_store.specs.Store.{Items, count_of, counts_of}
use Rattle.object_store.specs.Meaning.{is_current, is_live, meaning}
use Rattle.object_store.specs.Ranges.{IsRanged}
use Rattle.sv32_tables.specs.declared.leaf.Leaf.{Leaf}
use Rattle.sv32_tables.specs.Pool.{PoolValue}
use Rattle.tlb_model.specs.declared.entry.Entry.{Entry}
use Rattle.depend_table.specs.Depend.{Depend}
use Rattle.walk_meaning.specs.declared.kind.Kind.{Kind}
use Rattle.walk_meaning.specs.declared.kind.Kind.TheVariants.{Fetch, Load, Store, CapLoad, CapStore}
use Rattle.walk_meaning.specs.declared.noted.Noted.{Noted}
use Rattle.walk_meaning.specs.declared.place.Place.{Place}
use Rattle.walk_meaning.specs.declared.place.WalkFault.{WalkFault}
use Rattle.walk_meaning.specs.Walk.{access, denied, is_data, start_at}
use Rattle.walk_meaning.specs.Trail.{slots, trail}
use Rattle.walk_meaning.proofs.FrameLaw.{null_stops}
use Rattle.walk_meaning.specs.Laws.{IsRead, KindLaw, PageLaw, ReadsLaw}
use Rattle.map_cache.specs.declared.key.Key.{Key}
use Rattle.map_cache.specs.Kept.{KeptValue, added, added_to, cost_of, counted, fits, is_new, is_reached, is_spared, kept_after, tlb_after}
use Rattle.map_cache.specs.Cache.{CacheValue, kept_of, leaf_for, leaf_in, notes_of, root_at}
use Rattle.map_cache.specs.Coherent.{IsCoherent, IsFresh}
use Rattle.map_cache.specs.Effects.{ChangesHart, IsWalked, allows, reached_leaf}
use Rattle.map_cache.proofs.Coherence.{each_map}
use Rattle.depend_table.proofs.Tests.{both, same_numbers}

-- ---- the kinds

not_true_is : (b : Bool) → not b ≡ true → b ≡ false
not_true_is true is = absurd (cc)
not_true_is false is = refl

not_false_is : (b : Bool) → not b ≡ false → b ≡ true
not_false_is true is = refl
not_false_is false is = absurd (cc)

-- what a leaf with the place's rights allows is not denied there
allowed-denied : (kind : Kind) (leaf : Leaf) (restr : ℕ) → is_data kind ≡ true → leaf.write ≡ not (denied Store restr) → leaf.execute ≡ not (denied Fetch restr) → allows leaf kind ≡ true → denied kind restr ≡ false
allowed-denied Fetch leaf restr data' write execute is = not_true_is (denied Fetch restr) (sym execute ∙ is)
allowed-denied Load leaf restr data' write execute is = refl
allowed-denied Store leaf restr data' write execute is = not_true_is (denied Store restr) (sym write ∙ is)
allowed-denied CapLoad leaf restr data' write execute is = refl
allowed-denied CapStore leaf restr data' write execute is = absurd (cc)

refused-denied : (kind : Kind) (leaf : Leaf) (restr : ℕ) → is_data kind ≡ true → leaf.write ≡ not (denied Store restr) → leaf.execute ≡ not (denied Fetch restr) → allows leaf kind ≡ false → denied kind restr ≡ true
refused-denied Fetch leaf restr data' write execute is = not_false_is (denied Fetch restr) (sym execute ∙ is)
refused-denied Load leaf restr data' write execute is = absurd (cc)
refused-denied Store leaf restr data' write execute is = not_false_is (denied Store restr) (sym write ∙ is)
refused-denied CapLoad leaf restr data' write execute is = absurd (cc)
refused-denied CapStore leaf restr data' write execute is = absurd (cc)

-- ---- a leaf and an access

-- a place of this number and this offset
pub record Reaches (o : Items) (c : Capability) (address : ℕ) (kind : Kind) (number : ℕ) : Type 0 where
  pub place : Place
  pub reached : access o c address kind ≡ Ok place
  pub leads : place.number ≡ number
  pub offset : place.offset ≡ address % 4096

module _ (page_law : PageLaw) (kind_law : KindLaw) (o : Items) (space : Capability) (ranged : IsRanged o) (is : IsCapability (meaning o space))
    (address : ℕ) (kind : Kind) (data' : is_data kind ≡ true) where
  -- an access that a fresh leaf allows reaches the leaf's page
  pub leaf-reaches : (leaf : Leaf) (P : Noted → Type 0) → IsFresh o space (address / 4096) leaf P → allows leaf kind ≡ true → Reaches o (meaning o space) address kind leaf.page
  leaf-reaches leaf P fresh allowed =
      let pages : address / 4096 * 4096 / 4096 ≡ address / 4096 = omega arith in
      let moved = page_law o (meaning o space) (address / 4096 * 4096) address Load fresh.place ranged is pages fresh.reached in
      let agree = kind_law o (meaning o space) address Load kind (record fresh.place { offset = address % 4096 }) (sym data') moved.reached in
      record {
        place = record fresh.place { offset = address % 4096 };
        reached = agree.same (allowed-denied kind leaf fresh.place.restr.0 data' fresh.write fresh.execute allowed);
        leads = fresh.number;
        offset = refl;
      }

  -- an access that a fresh leaf refuses does not reach
  pub leaf-refuses : (leaf : Leaf) (P : Noted → Type 0) (place : Place) → IsFresh o space (address / 4096) leaf P → allows leaf kind ≡ false → access o (meaning o space) address kind ≡ Ok place → ⊥
  leaf-refuses leaf P place fresh refused reached =
      let pages : address / 4096 * 4096 / 4096 ≡ address / 4096 = omega arith in
      let moved = page_law o (meaning o space) (address / 4096 * 4096) address Load fresh.place ranged is pages fresh.reached in
      let agree = kind_law o (meaning o space) address Load kind (record fresh.place { offset = address % 4096 }) (sym data') moved.reached in
      let fault = agree.refused (refused-denied kind leaf fresh.place.restr.0 data' fresh.write fresh.execute refused) in
      let faults = fault.1 in
      cc

  -- an access that reached makes a fresh leaf
  pub walked-fresh : ReadsLaw → (place : Place) → address < 2 ^ 32 → access o (meaning o space) address kind ≡ Ok place
      → IsWalked o space (address / 4096) (reached_leaf place) (trail o (meaning o space) address kind)
  walked-fresh reads_law place low reached =
      let pages : address / 4096 * 4096 / 4096 ≡ address / 4096 = omega arith in
      let agree = kind_law o (meaning o space) address kind Load place data' reached in
      let moved = page_law o (meaning o space) address (address / 4096 * 4096) Load place ranged is (sym pages) (agree.same refl) in
      let read = reads_law o (meaning o space) (address / 4096 * 4096) Load ranged is (omega (arith, low)) in
      record {
        fresh = record {
          place = record place { offset = address / 4096 * 4096 % 4096 };
          reached = moved.reached;
          number = refl;
          write = refl;
          execute = refl;
          reads = each_map (IsRead (address / 4096 * 4096)) (λ n. holds n.block (address / 4096) ≡ true) (λ n r. ap (holds n.block) (sym pages) ∙ r.held) (trail o (meaning o space) (address / 4096 * 4096) Load) read;
        };
        reads_are = moved.reads ∙ agree.reads;
      }

-- the reads of a walk are of items that there may be
pub reads-items : ReadsLaw → (o : Items) (c : Capability) (address : ℕ) (kind : Kind) → IsRanged o → IsCapability c → address < 2 ^ 32 → Each (λ (n : Noted). IsItem n.item) (trail o c address kind)
reads-items law o c address kind ranged is low = each_map (IsRead address) (λ n. IsItem n.item) (λ n read. read.item) (trail o c address kind) (law o c address kind ranged is low)

-- ---- a space by its meaning

-- a space through which an access reaches is told by its meaning
pub counted-reached : (o : Items) (space : Capability) (address : ℕ) (kind : Kind) (place : Place) → IsCapability space → access o (meaning o space) address kind ≡ Ok place → counted o (meaning o space) ≡ space
counted-reached o space address kind place is reached = on (is_live o space) refl reached
  where
    bare-counted : (b : Bool) → is_counted space.kind ≡ b → (if b then is_current (counts_of o.counts (object_kind space.kind)) space.object space.count else true) ≡ true
        → space.count < (if b then 2 ^ 20 else 1) → (if b then with_count (bare space) (count_of o (object_kind space.kind) space.object) else bare space) ≡ space
    bare-counted true counts live low =
        let parts = both (nat_lt space.object (length (counts_of o.counts (object_kind space.kind)))) (slice_index (counts_of o.counts (object_kind space.kind)) space.object == space.count) live in
        let same = same_numbers (slice_index (counts_of o.counts (object_kind space.kind)) space.object) space.count parts.1 in
        λ i. record space { count = same i }
    bare-counted false counts live low = let none : 0 ≡ space.count = omega (arith, low) in λ i. record space { count = none i }

    on : (b : Bool) → is_live o space ≡ b → access o (if b then bare space else null) address kind ≡ Ok place → counted o (if b then bare space else null) ≡ space
    on true live reached = bare-counted (is_counted space.kind) refl live is.count
    on false dead reached = absurd (null_stops o kind 32 (start_at address) place reached)

-- ---- what an access costs, and what is kept after it

-- an access for which nothing is read and nothing changes
pub record IsSpared (k : KeptValue) (o : Items) (c : Capability) (address : ℕ) (kind : Kind) : Type 0 where
  pub found : is_spared k o c address kind ≡ true
  pub cost : cost_of k o c address kind ≡ 0
  pub after : kept_after k o c address kind ≡ k
  pub tlb : (entries : List Entry) → tlb_after k o c address kind entries ≡ entries

-- an access that walks, and keeps nothing
pub record IsLost (k : KeptValue) (o : Items) (c : Capability) (address : ℕ) (kind : Kind) : Type 0 where
  pub cost : cost_of k o c address kind ≡ slots o c address kind
  pub after : kept_after k o c address kind ≡ k
  pub tlb : (entries : List Entry) → tlb_after k o c address kind entries ≡ entries

-- an access that walks, and adds where it ended
pub record IsAdded (k : KeptValue) (o : Items) (c space : Capability) (address : ℕ) (kind : Kind) : Type 0 where
  pub unfound : is_spared k o c address kind ≡ false
  pub cost : cost_of k o c address kind ≡ slots o c address kind
  pub after : kept_after k o c address kind ≡ added_to k space (address / 4096) (trail o c address kind)
  pub tlb : (entries : List Entry) → tlb_after k o c address kind entries ≡ (if fits (added k space (address / 4096) (trail o c address kind)) then entries else [])

module _ (k : KeptValue) (o : Items) (c : Capability) (address : ℕ) (kind : Kind) where
  -- the space under its other name
  page : ℕ
  page = address / 4096

  pub spared : (space : Capability) (place : Place) → counted o c ≡ space → access o c address kind ≡ Ok place → k.held space (address / 4096) ≡ true → IsSpared k o c address kind
  spared space place same reached held = record {
    found = yes;
    cost = ap (λ (b : Bool). if b then 0 else slots o c address kind) yes;
    after = ap (λ (b : Bool). if b then added_to k (counted o c) (address / 4096) (trail o c address kind) else k) no;
    tlb = λ entries. ap (λ (b : Bool). if b && not (fits (added k (counted o c) (address / 4096) (trail o c address kind))) then [] else entries) no;
  }
    where
      here : k.held (counted o c) (address / 4096) ≡ true
      here = ap (λ (s : Capability). k.held s (address / 4096)) same ∙ held

      yes : is_spared k o c address kind ≡ true
      yes = (λ i. is_reached (reached i) && here i)

      no : is_new k o c address kind ≡ false
      no = (λ i. is_reached (reached i) && not (here i))

  pub lost : (fault : WalkFault) → access o c address kind ≡ Err fault → IsLost k o c address kind
  lost fault faulted = record {
    cost = ap (λ (b : Bool). if b && k.held (counted o c) (address / 4096) then 0 else slots o c address kind) no;
    after = ap (λ (b : Bool). if b && not (k.held (counted o c) (address / 4096)) then added_to k (counted o c) (address / 4096) (trail o c address kind) else k) no;
    tlb = λ entries. ap (λ (b : Bool). if (b && not (k.held (counted o c) (address / 4096))) && not (fits (added k (counted o c) (address / 4096) (trail o c address kind))) then [] else entries) no;
  }
    where
      no : is_reached (access o c address kind) ≡ false
      no = ap is_reached faulted

  pub adds : (space : Capability) (place : Place) → counted o c ≡ space → access o c address kind ≡ Ok place → k.held space (address / 4096) ≡ false → IsAdded k o c space address kind
  adds space place same reached held = record {
    unfound = no;
    cost = ap (λ (b : Bool). if b then 0 else slots o c address kind) no;
    after = ap (λ (b : Bool). if b then added_to k (counted o c) (address / 4096) (trail o c address kind) else k) yes ∙ ap (λ (s : Capability). added_to k s (address / 4096) (trail o c address kind)) same;
    tlb = λ entries.
        ap (λ (b : Bool). if b && not (fits (added k (counted o c) (address / 4096) (trail o c address kind))) then [] else entries) yes
        ∙ ap (λ (s : Capability). if not (fits (added k s (address / 4096) (trail o c address kind))) then [] else entries) same
        ∙ turned (fits (added k space (address / 4096) (trail o c address kind))) entries;
  }
    where
      here : k.held (counted o c) (address / 4096) ≡ false
      here = ap (λ (s : Capability). k.held s (address / 4096)) same ∙ held

      no : is_spared k o c address kind ≡ false
      no = (λ i. is_reached (reached i) && here i)

      yes : is_new k o c address kind ≡ true
      yes = (λ i. is_reached (reached i) && not (here i))

      turned : (b : Bool) (entries : List Entry) → (if not b then [] else entries) ≡ (if b then entries else [])
      turned true entries = refl
      turned false entries = refl

-- ---- one hart's cache alone

pub changes-kept : (v w : CacheValue) (hart : ℕ) → ChangesHart v w hart → kept_of w ≡ kept_of v
changes-kept v w hart changes = λ i. record {
  held = λ s p. nat_lt p (2 ^ 20) && is_some (leaf_in (changes.tables i) p (root_at (changes.keys i) s));
  keys = changes.keys i;
  notes = notes_of (changes.keys i) (changes.records i);
}

pub changes-coherent : (v w : CacheValue) (hart : ℕ) (o : Items) → ChangesHart v w hart → IsCoherent v o → IsCoherent w o
changes-coherent v w hart o changes coherent =
    subst (λ (t : PoolValue). IsCoherent (record { tables = t; keys = w.keys; tlbs = w.tlbs; records = w.records }) o) (sym changes.tables)
    (subst (λ (ks : List Key). IsCoherent (record { tables = v.tables; keys = ks; tlbs = w.tlbs; records = w.records }) o) (sym changes.keys)
    (subst (λ (ds : List Depend). IsCoherent (record { tables = v.tables; keys = v.keys; tlbs = w.tlbs; records = ds }) o) (sym changes.records) coherent))

pub changes-leaf : (v w : CacheValue) (hart : ℕ) (space : Capability) (page : ℕ) → ChangesHart v w hart → leaf_for w space page ≡ leaf_for v space page
changes-leaf v w hart space page changes = λ i. leaf_in (changes.tables i) page (root_at (changes.keys i) space)
