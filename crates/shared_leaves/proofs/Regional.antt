-- What a link and an entry that are right say of the walks to their page, and what a walk that reached says of those that are there.
use Rattle.std.proofs.Common.{◌≡◌, ℕ, suc, ◌+◌, ◌*◌, ◌/◌, ◌%◌, ◌^◌, ◌<◌, not, List, [], ◌∷◌, Some, None, Ok, sym, ap, ◌∙◌, subst, arith}
use Rattle.std.specs.Prelude.{⊤}
use Rattle.std.specs.Result.{result_ok}
use Rattle.std.specs.List.{AllByRecursion as Each}
use Rattle.cap_format.specs.Capability.{Capability, IsCapability}
use Rattle.object_store.specs.Store.{Items}
use Rattle.object_store.specs.Meaning.{meaning}
use Rattle.object_store.specs.Ranges.{IsRanged}
use Rattle.sv32_tables.specs.declared.leaf.Leaf.{Leaf as Entry}
use Rattle.walk_meaning.specs.declared.kind.Kind.{Kind}
use Rattle.walk_meaning.specs.declared.kind.Kind.TheVariants.{Fetch, Load, Store}
use Rattle.walk_meaning.specs.declared.noted.Noted.{Noted}
use Rattle.walk_meaning.specs.declared.place.Place.{Place}
use Rattle.walk_meaning.specs.Walk.{access, denied, walk}
use Rattle.walk_meaning.specs.Trail.{trail}
use Rattle.producers.specs.declared.producer.Producer.{Producer}
use Rattle.producers.specs.Producer.{cut, gpt_cap, joined_walk, key_of}
use Rattle.producers.specs.Laws.{RegionLaw}
use Rattle.producers.proofs.Joins.{number-aged, ok_told}
use Rattle.map_cache.specs.Coherent.{IsFresh}
use Rattle.shared_leaves.specs.declared.key.Key.{Key}
use Rattle.shared_leaves.specs.declared.key.Table.{Table}
use Rattle.shared_leaves.specs.declared.key.Table.TheVariants.{Region, Root, Producer as Joins}
use Rattle.shared_leaves.specs.Key.{root_key}
use Rattle.shared_leaves.specs.Cache.{IsCache, SharedCache, key_at, leaf_for}
use Rattle.shared_leaves.specs.Coherent.{IsCoherent, IsEntry, IsEntryIn, IsJoined, IsLink, IsLinkTo, IsMet, IsRecorded}
use Rattle.shared_leaves.proofs.Keyed.{key_at-at}
use Rattle.shared_leaves.proofs.Linked.{Stands, leaf-stands}

-- nothing is asked of a read
abbrev pub Any : Noted → Type 0
Any n = ⊤

any_each : (ns : List Noted) → Each Any ns
any_each [] = tt
any_each (n ∷ ns) = (tt, any_each ns)

-- a walk with a key goes by what the key has of a point
suits-walk : (o : Items) (space : Capability) (region : ℕ) (key : Producer) (P : Noted → Type 0) (met : IsMet o space region key P) (low : ℕ) (kind : Kind)
    → joined_walk o (key_of o met.point) low kind ≡ joined_walk o key low kind
suits-walk o space region key P met low kind =
    λ i. walk o kind (suc (sym met.suits.left i)) (gpt_cap (sym met.suits.gpt i)) (record {
      holding = None;
      background = (number-aged o met.point.at.background ∙ sym met.suits.background) i;
      handler = None;
      restr = sym met.suits.restr i;
      address = sym met.suits.top i * 2 ^ 22 + low;
      l2 = 22;
    })

-- one page has one leaf
pub fresh-same : (o : Items) (space : Capability) (page : ℕ) (x y : Entry) (P Q : Noted → Type 0) → IsFresh o space page x P → IsFresh o space page y Q → x ≡ y
fresh-same o space page x y P Q a b =
    let same : a.place ≡ b.place = let one : Ok a.place ≡ Ok b.place = sym a.reached ∙ b.reached in cc in
    λ i. record {
      page = (sym a.number ∙ (ap (λ (p : Place). p.number) same ∙ b.number)) i;
      write = (a.write ∙ (ap (λ (p : Place). not (denied Store p.restr.0)) same ∙ sym b.write)) i;
      execute = (a.execute ∙ (ap (λ (p : Place). not (denied Fetch p.restr.0)) same ∙ sym b.execute)) i;
    }

-- so has one place of a producer's leaf table
joined-same : (o : Items) (key : Producer) (place : ℕ) (x y : Entry) (P Q : Noted → Type 0) → IsJoined o key place x P → IsJoined o key place y Q → x ≡ y
joined-same o key place x y P Q a b =
    let same : a.ends ≡ b.ends = let one : Ok a.ends ≡ Ok b.ends = sym a.reached ∙ b.reached in cc in
    λ i. record {
      page = (sym a.number ∙ (ap (λ (p : Place). p.number) same ∙ b.number)) i;
      write = (a.write ∙ (ap (λ (p : Place). not (denied Store p.restr.0)) same ∙ sym b.write)) i;
      execute = (a.execute ∙ (ap (λ (p : Place). not (denied Fetch p.restr.0)) same ∙ sym b.execute)) i;
    }

pub entry-same : (o : Items) (k : Key) (place : ℕ) (x y : Entry) (P Q : Noted → Type 0) → IsEntry o k place x P → IsEntry o k place y Q → x ≡ y
entry-same o k place x y P Q first second = on k.space k.table first second
  where
    on : (s : Capability) (t : Table) → IsEntryIn o s t place x P → IsEntryIn o s t place y Q → x ≡ y
    on s Root a b = absurd a
    on s (Region r) a b = fresh-same o s (r * 1024 + place) x y (λ n. P (cut n)) (λ n. Q (cut n)) a b
    on s (Joins key) a b = joined-same o key place x y P Q a b

module _ (region_law : RegionLaw) (o : Items) (ranged : IsRanged o) (space : Capability) (is : IsCapability (meaning o space)) where
  -- the walks to all addresses of a region whose link is right go on as the link's key says
  met-goes : (region : ℕ) (key : Producer) (P : Noted → Type 0) → IsMet o space region key P → (address : ℕ) (kind : Kind) → address / 2 ^ 22 ≡ region
      → result_ok (access o (meaning o space) address kind) ≡ result_ok (joined_walk o key (address % 2 ^ 22) kind)
  met-goes region key P met address kind within =
      let first : region * 2 ^ 22 / 2 ^ 22 ≡ address / 2 ^ 22 = omega (arith, within) in
      let comes = region_law o (meaning o space) (region * 2 ^ 22) address Load kind met.point met.reads ranged is first met.met met.passes in
      comes.place ∙ ap result_ok (suits-walk o space region key P met (address % 2 ^ 22) kind)

  -- a leaf whose link and entry are right is fresh
  pub linked-fresh : (page : ℕ) (leaf : Entry) (k : Key) (P Q : Noted → Type 0) → IsLink o space (page / 1024) k P → IsEntry o k (page % 1024) leaf Q → IsFresh o space page leaf Any
  linked-fresh page leaf k P Q link entry = on k.space k.table link entry
    where
      on : (s : Capability) (t : Table) → IsLinkTo o space (page / 1024) s t P → IsEntryIn o s t (page % 1024) leaf Q → IsFresh o space page leaf Any
      on s Root link entry = absurd link
      on s (Region r) link entry =
          let region = link.1 in
          let whole : r * 1024 + page % 1024 ≡ page = omega (arith, region) in
          let there = subst (λ (t : Capability). IsFresh o t (r * 1024 + page % 1024) leaf (λ n. Q (cut n))) link.0 entry in
          let here = subst (λ (p : ℕ). IsFresh o space p leaf (λ n. Q (cut n))) whole there in
          record { place = here.place; reached = here.reached; number = here.number; write = here.write; execute = here.execute; reads = any_each (trail o (meaning o space) (page * 4096) Load) }
      on s (Joins key) link entry =
          let goes = met-goes (page / 1024) key P link (page * 4096) Load (omega arith) in
          let bits : page * 4096 % 2 ^ 22 ≡ page % 1024 * 4096 = omega arith in
          record {
            place = entry.ends;
            reached = ok_told (access o (meaning o space) (page * 4096) Load) entry.ends (goes ∙ (ap (λ (n : ℕ). result_ok (joined_walk o key n Load)) bits ∙ ap result_ok entry.reached));
            number = entry.number;
            write = entry.write;
            execute = entry.execute;
            reads = any_each (trail o (meaning o space) (page * 4096) Load);
          }

  -- each leaf of a cache that is coherent is fresh
  pub leaf-fresh : (v : SharedCache) → IsCache v.tables v.keys v.tlbs v.records → IsCoherent v o → (page : ℕ) (leaf : Entry) → page < 2 ^ 20 → leaf_for v space page ≡ Some leaf → IsFresh o space page leaf Any
  leaf-fresh v cache coherent page leaf low found =
      let stands : Stands v space page leaf = leaf-stands v cache space page leaf low found in
      let region : page / 1024 < 1024 = omega (arith, low) in
      let place : page % 1024 < 1024 = omega arith in
      let link = coherent.links stands.root (page / 1024) stands.frame stands.made region stands.linked in
      let own : key_at v.keys stands.root ≡ root_key space = key_at-at v.keys stands.root (root_key space) stands.root_is in
      let P : Noted → Type 0 = IsRecorded v.records stands.root (page / 1024 * 1024) in
      linked-fresh page leaf (key_at v.keys stands.frame) P (IsRecorded v.records stands.frame (page % 1024))
      (subst (λ (k : Key). IsLink o k.space (page / 1024) (key_at v.keys stands.frame) P) own link)
      (coherent.entries stands.frame (page % 1024) leaf stands.table place stands.there)
