-- Coherence over a change of an item that has no record: what an entry or a link depends on was not changed.
use Rattle.std.proofs.Common.{◌≡◌, ◌≢◌, ℕ, suc, ◌+◌, ◌*◌, ◌^◌, false, true, List, [], ◌∷◌, ◌++◌, map, Option, Some, None, sym, ap, ◌∙◌, subst}
use Rattle.std.specs.List.{AllByRecursion as Each}
use Rattle.cap_format.specs.Capability.{Capability}
use Rattle.cap_format.specs.declared.item.Item.{Item}
use Rattle.guard_math.specs.Block.{BlockValue}
use Rattle.object_store.specs.Store.{Items}
use Rattle.object_store.specs.Meaning.{meaning}
use Rattle.object_store.specs.Differ.{DifferIn}
use Rattle.sv32_tables.specs.declared.leaf.Leaf.{Leaf as Entry}
use Rattle.walk_meaning.specs.Laws.{Unread}
use Rattle.walk_meaning.specs.Trail.{header_noted, trail, trail_from}
use Rattle.walk_meaning.specs.Walk.{start_at}
use Rattle.walk_meaning.specs.declared.kind.Kind.TheVariants.{Load}
use Rattle.walk_meaning.specs.declared.noted.Noted.{Noted}
use Rattle.walk_meaning.proofs.FrameLaw.{Agree, Apart, agree, same_walk, space_frame_law}
use Rattle.producers.specs.declared.producer.Background.{Background}
use Rattle.producers.specs.declared.producer.Producer.{Producer}
use Rattle.producers.specs.Producer.{at_join, background_number, cut, gpt_cap, joined_trail}
use Rattle.producers.specs.Meets.{Meets}
use Rattle.producers.proofs.Staying.{meets-stays, space-stays, unread-append}
use Rattle.depend_table.specs.Depend.{depend, has}
use Rattle.map_cache.specs.Coherent.{IsFresh}
use Rattle.map_cache.proofs.Coherence.{each_map}
use Rattle.shared_leaves.specs.declared.key.Table.{Table}
use Rattle.shared_leaves.specs.declared.key.Table.TheVariants.{Region, Root, Producer as Joins}
use Rattle.shared_leaves.specs.Kept.{background_reads}
use Rattle.shared_leaves.specs.Cache.{SharedCache, key_at}
use Rattle.shared_leaves.specs.Coherent.{IsCoherent, IsEntryIn, IsJoined, IsLinkTo, IsMet, IsRecorded}

-- reads that are not of the item, before they are cut to a region
unread-cut : (x : Item) (ns : List Noted) → Unread x (map cut ns) → Unread x ns
unread-cut x [] h = tt
unread-cut x (n ∷ ns) h = (h.0, unread-cut x ns h.1)

-- a background whose header was read is another object than the item's
background_apart : (x : Item) (b : Option Background) → Unread x (background_reads b) → Apart x (background_number b)
background_apart x None h = tt
background_apart x (Some b) h = h.0

-- a property of the reads that no read of the item has
module _ (x : Item) (o q : Items) (differ : DifferIn x o q) (P : Noted → Type 0) (other : (n : Noted) → P n → n.item ≢ x) where
  abbrev same : Agree x o q
  same = agree x o q differ

  all_other : (ns : List Noted) → Each P ns → Unread x ns
  all_other ns all = each_map P (λ n. n.item ≢ x) other ns all

  joined : (key : Producer) (place : ℕ) (e : Entry) → IsJoined o key place e P → IsJoined q key place e P
  joined key place e was =
      let parts = unread-append x (background_reads key.background) (joined_trail o key (place * 4096) Load) (all_other (background_reads key.background ++ joined_trail o key (place * 4096) Load) was.reads) in
      let one = same_walk x o q same Load (place * 4096) was.ends (suc key.left) (gpt_cap key.gpt) (at_join key (place * 4096)) tt (background_apart x key.background parts.0) was.reached
      (unread-cut x (trail_from o Load (place * 4096) (suc key.left) (gpt_cap key.gpt) (at_join key (place * 4096))) parts.1) in
      record {
        ends = was.ends;
        reached = one.reached;
        number = was.number;
        write = was.write;
        execute = was.execute;
        reads = subst (λ (t : List Noted). Each P (background_reads key.background ++ map cut t)) (sym one.reads) was.reads;
      }

  met : (s : Capability) (region : ℕ) (key : Producer) → IsMet o s region key P → IsMet q s region key P
  met s region key was =
      let unread = all_other (was.reads ++ header_noted was.point.cap (region * 2 ^ 22) was.point.at.l2) was.recorded in
      let stays = meets-stays x o q same Load (region * 2 ^ 22) was.point was.passes.kind 32 (meaning o s) (start_at (region * 2 ^ 22)) was.reads tt tt was.met unread in
      let space = space-stays x o q same Load (region * 2 ^ 22) was.point was.passes.kind s was.reads was.met unread in
      record {
        point = was.point;
        reads = was.reads;
        met = subst (λ (c : Capability). Meets q Load (region * 2 ^ 22) 32 c (start_at (region * 2 ^ 22)) was.point was.reads) space stays.met;
        passes = was.passes;
        suits = was.suits;
        recorded = was.recorded;
      }

  pub link-stays : (s : Capability) (region : ℕ) (t : Capability) (table : Table) → IsLinkTo o s region t table P → IsLinkTo q s region t table P
  link-stays s region t Root was = was
  link-stays s region t (Region r) was = was
  link-stays s region t (Joins key) was = met s region key was

-- an entry of a space's own table
fresh-stays : (x : Item) (o q : Items) (s : Capability) (page : ℕ) (e : Entry) (P : Noted → Type 0) → DifferIn x o q → ((n : Noted) → P n → n.item ≢ x) → IsFresh o s page e P → IsFresh q s page e P
fresh-stays x o q s page e P differ other was =
    let alike = space_frame_law x o q s (page * 4096) Load was.place differ was.reached (each_map P (λ n. n.item ≢ x) other (trail o (meaning o s) (page * 4096) Load) was.reads) in
    record {
      place = was.place;
      reached = alike.reached;
      number = was.number;
      write = was.write;
      execute = was.execute;
      reads = subst (λ (ns : List Noted). Each P ns) (sym alike.reads) was.reads;
    }

entry-stays : (x : Item) (o q : Items) (differ : DifferIn x o q) (P : Noted → Type 0) → ((n : Noted) → P n → n.item ≢ x) → (s : Capability) (table : Table) (place : ℕ) (e : Entry)
    → IsEntryIn o s table place e P → IsEntryIn q s table place e P
entry-stays x o q differ P other s Root place e was = was
entry-stays x o q differ P other s (Region r) place e was = fresh-stays x o q s (r * 1024 + place) e (λ n. P (cut n)) differ (λ n h. other (cut n) h) was
entry-stays x o q differ P other s (Joins key) place e was = joined x o q differ P other key place e was

pub coherent-differs : (v : SharedCache) (x : Item) (o q : Items) → DifferIn x o q → ((root : ℕ) (block : BlockValue) → has v.records (depend x root block) ≡ false) → IsCoherent v o → IsCoherent v q
coherent-differs v x o q differ none coherent = record {
  entries = λ f j e made low at. entry-stays x o q differ (IsRecorded v.records f j) (unread f j) (key_at v.keys f).space (key_at v.keys f).table j e (coherent.entries f j e made low at);
  links = λ r i f made low at. link-stays x o q differ (IsRecorded v.records r (i * 1024)) (unread r (i * 1024)) (key_at v.keys r).space i (key_at v.keys f).space (key_at v.keys f).table (coherent.links r i f made low at);
}
  where
    unread : (f page : ℕ) (n : Noted) → IsRecorded v.records f page n → n.item ≢ x
    unread f page n rec same' =
        let there : has v.records (depend x f n.block) ≡ true = ap (λ (i : Item). has v.records (depend i f n.block)) (sym same') ∙ rec.there in
        let not_there = none f n.block in
        absurd (cc)
