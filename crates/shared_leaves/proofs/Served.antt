-- A translation: by a leaf that is there, and by a walk.
use Rattle.std.proofs.Common.{◌≡◌, ℕ, ◌/◌, ◌%◌, ◌^◌, ◌<◌, Bool, true, false, not, ◌&&◌, if◌then◌else◌, List, [], length, Option, Some, None, Result, Ok, Err, is_some, refl, sym, ap, ◌∙◌, subst, arith}
use Rattle.std.specs.Prelude.{IfSome}
use Rattle.std.specs.List.{AllByRecursion as Each}
use Rattle.std.proofs.lemmas.Option.{none-some}
use Rattle.cap_format.specs.Capability.{Capability, IsCapability}
use Rattle.cap_format.specs.Item.{IsItem}
use Rattle.cap_format.specs.declared.kind.CapKind.{CapKind}
use Rattle.cap_format.specs.declared.kind.CapKind.TheVariants.{CapPage, Page}
use Rattle.object_store.specs.Store.{Items, size_of}
use Rattle.object_store.specs.Meaning.{map_of, meaning}
use Rattle.object_store.specs.Ranges.{IsRanged}
use Rattle.object_store.proofs.Ranged.{IsRanged-map_of}
use Rattle.object_store.proofs.Live.{IsCapability-meaning}
use Rattle.sv32_tables.specs.declared.leaf.Leaf.{Leaf as Entry}
use Rattle.tlb_model.specs.declared.entry.Entry.{Entry as TlbEntry}
use Rattle.depend_table.specs.Depend.{Depend, has}
use Rattle.walk_meaning.specs.declared.kind.Kind.{Kind}
use Rattle.walk_meaning.specs.declared.noted.Noted.{Noted}
use Rattle.walk_meaning.specs.declared.place.Place.{Place}
use Rattle.walk_meaning.specs.declared.place.WalkFault.{WalkFault}
use Rattle.walk_meaning.specs.Bounds.{Below}
use Rattle.walk_meaning.specs.Walk.{access, is_data}
use Rattle.walk_meaning.specs.Trail.{slots, trail}
use Rattle.walk_meaning.specs.Laws.{KindLaw, PageLaw, PlaceLaw, ReadsLaw}
use Rattle.walk_engine.specs.Answer.{hit_of}
use Rattle.producers.specs.declared.producer.Produced.{Produced}
use Rattle.producers.specs.Producer.{Point, background_number, join_of, produced_by}
use Rattle.producers.specs.Laws.{JoinLaw, RegionLaw}
use Rattle.map_cache.specs.Coherent.{IsFresh}
use Rattle.map_cache.specs.Kept.{counted, is_reached}
use Rattle.map_cache.specs.Effects.{allows, reached_leaf}
use Rattle.map_cache.proofs.Accesses.{counted-reached, leaf-reaches, leaf-refuses, reads-items}
use Rattle.shared_leaves.specs.declared.key.Key.{Key}
use Rattle.shared_leaves.specs.Key.{is_leaf}
use Rattle.shared_leaves.specs.Kept.{Addition, SharedKept, added_to, addition_by, addition_of, cost_of, is_held, is_new, is_spared, kept_after, spares_harts, tlb_after}
use Rattle.shared_leaves.specs.Cache.{IsCache, SharedCache, entry_in, frame_of, kept_of, leaf_for}
use Rattle.shared_leaves.specs.Coherent.{IsCoherent, IsEntry, IsRecorded}
use Rattle.shared_leaves.specs.Effects.{Agrees, ChangesHart, IsDue, IsWalked, addition_for}
use Rattle.shared_leaves.proofs.Adding.{coherent-more}
use Rattle.shared_leaves.proofs.Invariant.{leaf_made}
use Rattle.shared_leaves.proofs.Keyed.{key_at-at}
use Rattle.shared_leaves.proofs.Linked.{held-leaf}
use Rattle.shared_leaves.proofs.Parted.{addition-told, background-by, walked-by, within-by}
use Rattle.shared_leaves.proofs.Regional.{Any, entry-same, leaf-fresh}
use Rattle.depend_table.proofs.Coded.{frame_of-some}
use Rattle.shared_leaves.proofs.Codes.{key_coding}

-- ---- what an access costs, and what is kept after it

-- an access for which nothing is read and nothing changes
pub record IsSpared (k : SharedKept) (o : Items) (c : Capability) (address : ℕ) (kind : Kind) : Type 0 where
  pub found : is_spared k o c address kind ≡ true
  pub cost : cost_of k o c address kind ≡ 0
  pub after : kept_after k o c address kind ≡ k
  pub tlb : (entries : List TlbEntry) → tlb_after k o c address kind entries ≡ entries

-- an access that walks, and adds where it ended
pub record IsAdded (k : SharedKept) (o : Items) (c space : Capability) (address : ℕ) (kind : Kind) (add : Addition) : Type 0 where
  pub cost : cost_of k o c address kind ≡ slots o c address kind
  pub after : kept_after k o c address kind ≡ added_to k space (address / 4096) add
  pub tlb : (entries : List TlbEntry) → tlb_after k o c address kind entries ≡ (if spares_harts k space (address / 4096) add then entries else [])

module _ (k : SharedKept) (o : Items) (c : Capability) (address : ℕ) (kind : Kind) where
  spared : (space : Capability) (place : Place) → counted o c ≡ space → access o c address kind ≡ Ok place → is_held k space (address / 4096) ≡ true → IsSpared k o c address kind
  spared space place same reached held = record {
    found = yes;
    cost = ap (λ (b : Bool). if b then 0 else slots o c address kind) yes;
    after = ap (λ (b : Bool). if b then added_to k (counted o c) (address / 4096) (addition_of o c address kind) else k) no;
    tlb = λ entries. ap (λ (b : Bool). if b && not (spares_harts k (counted o c) (address / 4096) (addition_of o c address kind)) then [] else entries) no;
  }
    where
      here : is_held k (counted o c) (address / 4096) ≡ true
      here = ap (λ (s : Capability). is_held k s (address / 4096)) same ∙ held

      yes : is_spared k o c address kind ≡ true
      yes = (λ i. is_reached (reached i) && here i)

      no : is_new k o c address kind ≡ false
      no = (λ i. is_reached (reached i) && not (here i))

  adds : (space : Capability) (place : Place) (add : Addition) → counted o c ≡ space → access o c address kind ≡ Ok place → is_held k space (address / 4096) ≡ false
      → addition_by o space (address / 4096) (trail o c address kind) (join_of o c address kind) ≡ add → IsAdded k o c space address kind add
  adds space place add same reached held added = record {
    cost = ap (λ (b : Bool). if b then 0 else slots o c address kind) no;
    after = ap (λ (b : Bool). if b then added_to k (counted o c) (address / 4096) (addition_of o c address kind) else k) yes ∙ (λ i. added_to k (same i) (address / 4096) (whole i));
    tlb = λ entries.
        ap (λ (b : Bool). if b && not (spares_harts k (counted o c) (address / 4096) (addition_of o c address kind)) then [] else entries) yes
        ∙ ((λ i. if not (spares_harts k (same i) (address / 4096) (whole i)) then [] else entries)
        ∙ turned (spares_harts k space (address / 4096) add) entries);
  }
    where
      whole : addition_of o c address kind ≡ add
      whole = ap (λ (s : Capability). addition_by o s (address / 4096) (trail o c address kind) (join_of o c address kind)) same ∙ added

      here : is_held k (counted o c) (address / 4096) ≡ false
      here = ap (λ (s : Capability). is_held k s (address / 4096)) same ∙ held

      no : is_spared k o c address kind ≡ false
      no = (λ i. is_reached (reached i) && here i)

      yes : is_new k o c address kind ≡ true
      yes = (λ i. is_reached (reached i) && not (here i))

      turned : (b : Bool) (entries : List TlbEntry) → (if not b then [] else entries) ≡ (if b then entries else [])
      turned true entries = refl
      turned false entries = refl

-- ---- one hart's cache alone

pub changes-kept : (v w : SharedCache) (hart : ℕ) → ChangesHart v w hart → kept_of w ≡ kept_of v
changes-kept v w hart changes = λ i. kept_of (record { tables = changes.tables i; keys = changes.keys i; tlbs = []; records = changes.records i })

pub changes-coherent : (v w : SharedCache) (hart : ℕ) (o : Items) → ChangesHart v w hart → IsCoherent v o → IsCoherent w o
changes-coherent v w hart o changes coherent = coherent-more v w o changes.tables changes.keys (λ d there. ap (λ (ds : List Depend). has ds d) changes.records ∙ there) coherent

pub changes-leaf : (v w : SharedCache) (hart : ℕ) (space : Capability) (page : ℕ) → ChangesHart v w hart → leaf_for w space page ≡ leaf_for v space page
changes-leaf v w hart space page changes = λ i. leaf_for (record { tables = changes.tables i; keys = changes.keys i; tlbs = []; records = [] }) space page

-- ---- a translation

-- an access that a leaf serves
pub record Served (items : Items) (space : Capability) (address : ℕ) (kind : Kind) (k : SharedKept) (leaf : Entry) : Type 0 where
  pub answer : Ok (record { page = leaf.page; offset = address % 4096 }) ≡ hit_of (access (map_of items) (meaning items space) address kind)
  pub page : leaf.page < size_of items Page
  pub found : is_spared k (map_of items) (meaning items space) address kind ≡ true
  pub cost : cost_of k (map_of items) (meaning items space) address kind ≡ 0
  pub after : kept_after k (map_of items) (meaning items space) address kind ≡ k
  pub tlb : (entries : List TlbEntry) → tlb_after k (map_of items) (meaning items space) address kind entries ≡ entries

-- what a walk that reached told, and what comes of it
pub record Found (items : Items) (space : Capability) (address : ℕ) (kind : Kind) (v : SharedCache) (place : Place) (produced : Option Produced) (reads : List Noted) : Type 0 where
  pub agrees : Agrees v (addition_for space (address / 4096) produced reads).key (address / 4096 % 1024) (reached_leaf place)
  pub items_are : Each (λ (n : Noted). IsItem n.item) reads
  pub within : IfSome produced (λ (x : Produced). x.before < length reads)
  pub background : IfSome produced (λ (x : Produced). Below 1024 (background_number x.producer.background))
  pub walked : IsWalked (map_of items) space (address / 4096) (reached_leaf place) (addition_for space (address / 4096) produced reads)
  pub added : IsAdded (kept_of v) (map_of items) (meaning items space) space address kind (addition_for space (address / 4096) produced reads)

module _ (page_law : PageLaw) (kind_law : KindLaw) (region_law : RegionLaw) (items : Items) (ranged : IsRanged items) (space : Capability) (is : IsCapability space)
    (address : ℕ) (low : address < 2 ^ 32) (kind : Kind) (data' : is_data kind ≡ true)
    (v : SharedCache) (cache : IsCache v.tables v.keys v.tlbs v.records) (coherent : IsCoherent v (map_of items)) where
  abbrev o : Items
  o = map_of items

  abbrev c : Capability
  c = meaning items space

  abbrev join : Option Point
  join = join_of o c address kind

  inside : address / 4096 < 2 ^ 20
  inside = omega (arith, low)

  meant : IsCapability (meaning items space)
  meant = IsCapability-meaning items space is

  fresh-for : (leaf : Entry) → leaf_for v space (address / 4096) ≡ Some leaf → IsFresh (map_of items) space (address / 4096) leaf Any
  fresh-for leaf there = leaf-fresh region_law (map_of items) (IsRanged-map_of items ranged) space meant v cache coherent (address / 4096) leaf inside there

  -- by a leaf that allows it
  pub served : PlaceLaw → (leaf : Entry) → leaf_for v space (address / 4096) ≡ Some leaf → allows leaf kind ≡ true → Served items space address kind (kept_of v) leaf
  served place_law leaf there allowed =
      let reaches = leaf-reaches page_law kind_law (map_of items) space (IsRanged-map_of items ranged) meant address kind data' leaf Any (fresh-for leaf there) allowed in
      let placed = place_law items space address kind reaches.place reaches.reached in
      let paged : reaches.place.kind ≡ Page = placed.kind_is ∙ ap (λ (b : Bool). if b then Page else CapPage) data' in
      let done = spared (kept_of v) (map_of items) (meaning items space) address kind space reaches.place
      (counted-reached (map_of items) space address kind reaches.place is reaches.reached) reaches.reached (held-leaf v cache space (address / 4096) inside ∙ ap is_some there) in
      record {
        answer = sym (ap hit_of reaches.reached ∙ λ i. Ok (record { page = reaches.leads i; offset = reaches.offset i }));
        page = subst (λ (n : ℕ). n < size_of items Page) reaches.leads (subst (λ (k : CapKind). reaches.place.number < size_of items k) paged placed.there);
        found = done.found;
        cost = done.cost;
        after = done.after;
        tlb = done.tlb;
      }

  -- where an access reaches that no leaf served, there is none
  unserved : ((leaf : Entry) → leaf_for v space (address / 4096) ≡ Some leaf → allows leaf kind ≡ false) → (place : Place) → access (map_of items) (meaning items space) address kind ≡ Ok place → leaf_for v space (address / 4096) ≡ None
  unserved refused place reached = on (leaf_for v space (address / 4096)) refl
    where
      on : (leaf : Option Entry) → leaf_for v space (address / 4096) ≡ leaf → leaf ≡ None
      on None there = refl
      on (Some leaf) there =
          absurd (leaf-refuses page_law kind_law (map_of items) space (IsRanged-map_of items ranged) meant address kind data' leaf Any place (fresh-for leaf there) (refused leaf there) reached)

  -- an access that no leaf serves is not spared its walk
  pub unspared : ((leaf : Entry) → leaf_for v space (address / 4096) ≡ Some leaf → allows leaf kind ≡ false) → is_spared (kept_of v) (map_of items) (meaning items space) address kind ≡ false
  unspared refused = on (access (map_of items) (meaning items space) address kind) refl
    where
      on : (r : Result Place WalkFault) → access (map_of items) (meaning items space) address kind ≡ r → is_spared (kept_of v) (map_of items) (meaning items space) address kind ≡ false
      on (Ok place) reached =
          let same = counted-reached (map_of items) space address kind place is reached in
          let none = held-leaf v cache space (address / 4096) inside ∙ ap is_some (unserved refused place reached) in
          λ i. is_reached (reached i) && (ap (λ (s : Capability). is_held (kept_of v) s (address / 4096)) same ∙ none) i
      on (Err fault) faulted = ap (λ (r : Result Place WalkFault). is_reached r && is_held (kept_of v) (counted (map_of items) (meaning items space)) (address / 4096)) faulted

  -- an entry that is there is the one that a walk makes
  agrees-walked : (k : Key) (place : ℕ) (leaf : Entry) (P : Noted → Type 0) → place < 1024 → IsEntry (map_of items) k place leaf P → Agrees v k place leaf
  agrees-walked k place leaf P less entry e found = on (is_leaf k) refl (frame_of v.keys k) refl found
    where
      on : (b : Bool) → is_leaf k ≡ b → (f : Option ℕ) → frame_of v.keys k ≡ f → (if b then entry_in v.tables place f else None) ≡ Some e → e ≡ leaf
      on false unlike f at found = absurd (none-some e found)
      on true like None at found = absurd (none-some e found)
      on true like (Some f) at found =
          let there = frame_of-some key_coding v.keys k f at in
          let was = coherent.entries f place e (leaf_made v.tables v.keys v.tlbs v.records cache f k there like) less found in
          entry-same (map_of items) k place e leaf (IsRecorded v.records f place) P
          (subst (λ (x : Key). IsEntry (map_of items) x place e (IsRecorded v.records f place)) (key_at-at v.keys f k there) was) entry

  -- by a walk
  pub found : ReadsLaw → JoinLaw → ((leaf : Entry) → leaf_for v space (address / 4096) ≡ Some leaf → allows leaf kind ≡ false) → (place : Place) (produced : Option Produced) (reads : List Noted)
      → access (map_of items) (meaning items space) address kind ≡ Ok place → produced ≡ produced_by (map_of items) (join_of (map_of items) (meaning items space) address kind)
      → reads ≡ trail (map_of items) (meaning items space) address kind → Found items space address kind v place produced reads
  found reads_law join_law refused place produced reads reached told noted =
      subst (λ (x : Option Produced). Found items space address kind v place x reads) (sym told)
      (subst (λ (ns : List Noted). Found items space address kind v place (produced_by o join) ns) (sym noted) whole)
    where
      ranged_map : IsRanged o
      ranged_map = IsRanged-map_of items ranged

      told_is : addition_for space (address / 4096) (produced_by o join) (trail o c address kind) ≡ addition_by o space (address / 4096) (trail o c address kind) join
      told_is = addition-told o space (address / 4096) (trail o c address kind) join

      walked : IsWalked o space (address / 4096) (reached_leaf place) (addition_for space (address / 4096) (produced_by o join) (trail o c address kind))
      walked = subst (λ (add : Addition). IsWalked o space (address / 4096) (reached_leaf place) add) (sym told_is)
          (walked-by page_law kind_law reads_law join_law region_law o ranged_map space meant address low kind data' place reached join refl)

      none : is_held (kept_of v) space (address / 4096) ≡ false
      none = held-leaf v cache space (address / 4096) inside ∙ ap is_some (unserved refused place reached)

      whole : Found items space address kind v place (produced_by o join) (trail o c address kind)
      whole = record {
        agrees = agrees-walked (addition_for space (address / 4096) (produced_by o join) (trail o c address kind)).key (address / 4096 % 1024) (reached_leaf place)
            (IsDue (addition_for space (address / 4096) (produced_by o join) (trail o c address kind)).entry_reads (address / 4096 % 1024)) (omega arith) walked.entry;
        items_are = reads-items reads_law o c address kind ranged_map meant low;
        within = within-by page_law kind_law reads_law join_law region_law o ranged_map space meant address low kind data' place reached join refl;
        background = background-by page_law kind_law reads_law join_law region_law o ranged_map space meant address low kind data' place reached join refl;
        walked = walked;
        added = adds (kept_of v) o c address kind space place (addition_for space (address / 4096) (produced_by o join) (trail o c address kind)) (counted-reached o space address kind place is reached) reached none (sym told_is);
      }
