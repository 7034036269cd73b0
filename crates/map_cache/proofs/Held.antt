-- The entries of a coherent cache are those of what it keeps, and they are right.
use Rattle.std.proofs.Common.{◌≡◌, inl, inr, ℕ, zero, suc, ◌+◌, ◌-◌, ◌*◌, ◌<◌, ◌≤◌, ◌^◌, Bool, true, false, ◌&&◌, if◌then◌else◌, List, [], ◌∷◌, ◌++◌, is_some, Option, Some, None, Ok, refl, sym, ap, ◌∙◌, subst, arith}
use Rattle.std.specs.Prelude.{slice_get}
use Rattle.std.proofs.lemmas.Bool.{cases_lt, lt-ltb}
use Rattle.std.proofs.lemmas.Option.{none-some}
use Rattle.cap_format.specs.Capability.{Capability, bare, null}
use Rattle.object_store.specs.Store.{Items}
use Rattle.object_store.specs.Meaning.{is_live, meaning}
use Rattle.sv32_tables.specs.declared.leaf.Leaf.{Leaf}
use Rattle.sv32_tables.specs.Pool.{leaf_at}
use Rattle.walk_meaning.specs.declared.kind.Kind.TheVariants.{Load}
use Rattle.walk_meaning.specs.declared.place.Place.{Place}
use Rattle.walk_meaning.specs.Walk.{access, start_at}
use Rattle.map_cache.specs.declared.key.Key.{Key}
use Rattle.map_cache.specs.declared.mapping.Mapping.{Mapping}
use Rattle.map_cache.specs.Key.{root_key}
use Rattle.map_cache.specs.Cache.{CacheValue, IsCache, kept_of, leaf_for, leaf_in, root_at}
use Rattle.map_cache.specs.Coherent.{IsCoherent, IsFresh, IsRecorded}
use Rattle.map_cache.specs.Held.{AreRight, IsRight, entries_of, entries_to, held_entries, held_from, held_in, held_under}
use Rattle.map_cache.specs.Mappings.{AreMappings, entries_from, entries_in, entries_under, mapping_of, mappings_of, page_entries}
use Rattle.map_cache.proofs.Entries.{are-mappings}
use Rattle.map_cache.proofs.Invariant.{root_made}
use Rattle.map_cache.proofs.Keyed.{root_at-is, root_at-some, space_at-at}
use Rattle.map_cache.proofs.Listed.{entries_from-suc, entries_from-zero}
use Rattle.walk_meaning.proofs.FrameLaw.{null_stops}

module _ (o : Items) (held : Capability → ℕ → Bool) (space : Capability) where
  held_from-zero : (page : ℕ) → held_from o held space page zero ≡ []
  unfolding held_from
  held_from-zero page = refl

  held_from-suc : (page n : ℕ) → held_from o held space page (suc n) ≡ entries_of o held space page ++ held_from o held space (suc page) n
  unfolding held_from
  held_from-suc page n = refl

-- a space through which a load reaches is live
reached-live : (o : Items) (space : Capability) (address : ℕ) (place : Place) → access o (meaning o space) address Load ≡ Ok place → is_live o space ≡ true
reached-live o space address place reached = on (is_live o space) refl reached
  where
    on : (b : Bool) → is_live o space ≡ b → access o (if b then bare space else null) address Load ≡ Ok place → b ≡ true
    on true live reached = refl
    on false dead reached = absurd (null_stops o Load 32 (start_at address) place reached)

module _ (v : CacheValue) (o : Items) (cache : IsCache v.tables v.keys v.tlbs v.records) (coherent : IsCoherent v o) where
  abbrev is_held : Capability → ℕ → Bool
  is_held = (kept_of v).held

  -- a leaf is fresh
  leaf-fresh : (space : Capability) (root page : ℕ) (leaf : Leaf) → slice_get v.keys root ≡ Some (root_key space) → page < 2 ^ 20 → leaf_at v.tables root page ≡ Some leaf
      → IsFresh o space page leaf (IsRecorded v.records root page)
  leaf-fresh space root page leaf at low there =
      subst (λ (s : Capability). IsFresh o s page leaf (IsRecorded v.records root page)) (space_at-at v.keys root (root_key space) at)
      (coherent root page leaf (record { made = root_made v.tables v.keys v.tlbs v.records cache root space at; inside = low }) there)

  -- so its entry is that of what a load reaches
  fresh-entry : (space : Capability) (root page : ℕ) (leaf : Leaf) → IsFresh o space page leaf (IsRecorded v.records root page)
      → mapping_of space page leaf ∷ [] ≡ entries_to space page (access o (meaning o space) (page * 4096) Load)
  fresh-entry space root page leaf fresh =
      (λ i. record { space = space; va = page * 4096; page = sym fresh.number i; write = fresh.write i; execute = fresh.execute i } ∷ [])
      ∙ ap (entries_to space page) (sym fresh.reached)

  -- the entry of one page
  page-held : (space : Capability) (root page : ℕ) → slice_get v.keys root ≡ Some (root_key space) → page < 2 ^ 20
      → page_entries space page (leaf_at v.tables root page) ≡ entries_of o is_held space page
  page-held space root page at low = on (leaf_at v.tables root page) refl
    where
      tells : (l : Option Leaf) → leaf_at v.tables root page ≡ l → is_held space page ≡ is_some l
      tells l is =
          ap (λ (b : Bool). b && is_some (leaf_for v space page)) (lt-ltb page (2 ^ 20) low)
          ∙ ap (λ (r : Option ℕ). is_some (leaf_in v.tables page r)) (root_at-is v.keys space root cache.apart at) ∙ ap is_some is

      on : (l : Option Leaf) → leaf_at v.tables root page ≡ l → page_entries space page l ≡ entries_of o is_held space page
      on None is = ap (λ (b : Bool). if b then entries_to space page (access o (meaning o space) (page * 4096) Load) else []) (sym (tells None is))
      on (Some leaf) is =
          fresh-entry space root page leaf (leaf-fresh space root page leaf at low is)
          ∙ ap (λ (b : Bool). if b then entries_to space page (access o (meaning o space) (page * 4096) Load) else []) (sym (tells (Some leaf) is))

  -- of the pages of a root
  pages-held : (space : Capability) (root n page : ℕ) → slice_get v.keys root ≡ Some (root_key space) → page + n ≤ 2 ^ 20
      → entries_from v.tables root space page n ≡ held_from o is_held space page n
  pages-held space root zero page at most = entries_from-zero v.tables root space page ∙ sym (held_from-zero o is_held space page)
  pages-held space root (suc n) page at most =
      entries_from-suc v.tables root space page n
      ∙ ap (λ (ms : List Mapping). ms ++ entries_from v.tables root space (suc page) n) (page-held space root page at (omega (arith, most)))
      ∙ ap (λ (ms : List Mapping). entries_of o is_held space page ++ ms) (pages-held space root n (suc page) at (omega (arith, most)))
      ∙ sym (held_from-suc o is_held space page n)

  -- of the frames from one on
  frames-held : (keys : List Key) (frame : ℕ) → ((i : ℕ) (k : Key) → slice_get keys i ≡ Some k → slice_get v.keys (frame + i) ≡ Some k)
      → entries_in v.tables frame keys ≡ held_in o is_held keys
  frames-held [] frame at = refl
  frames-held (k ∷ keys) frame at =
      ap (λ (ms : List Mapping). ms ++ entries_in v.tables (suc frame) keys) (under k.region refl)
      ∙ ap (λ (ms : List Mapping). held_under o is_held k.space k.region ++ ms) (frames-held keys (suc frame) behind)
    where
      behind : (i : ℕ) (j : Key) → slice_get keys i ≡ Some j → slice_get v.keys (suc frame + i) ≡ Some j
      behind i j there =
          let same : suc frame + i ≡ frame + suc i = omega arith in
          ap (slice_get v.keys) same ∙ at (suc i) j there

      under : (r : Option ℕ) → k.region ≡ r → entries_under v.tables frame k.space 0 r ≡ held_under o is_held k.space r
      under (Some region) is = refl
      under None is =
          let here : frame + 0 ≡ frame = omega arith in
          let whole : 2 ^ 20 - 0 ≡ 2 ^ 20 = omega arith in
          let key : slice_get v.keys frame ≡ Some (root_key k.space) =
          ap (slice_get v.keys) (sym here) ∙ at 0 k refl ∙ (λ i. Some (record { space = k.space; region = is i })) in
          ap (entries_from v.tables frame k.space 0) whole ∙ pages-held k.space frame (2 ^ 20) 0 key (omega arith)

  -- all entries
  pub mappings-held : mappings_of v ≡ held_entries o (kept_of v)
  mappings-held = frames-held v.keys 0 (λ i k there. let same : 0 + i ≡ i = omega arith in ap (slice_get v.keys) same ∙ there)

  -- each is right
  entry-right : (space : Capability) (page : ℕ) (leaf : Leaf) (m : Mapping) → m ≡ mapping_of space page leaf → page < 2 ^ 20 → leaf_for v space page ≡ Some leaf → IsRight o m
  entry-right space page leaf m is low there = subst (IsRight o) (sym is) (on (root_at v.keys space) refl there)
    where
      on : (r : Option ℕ) → root_at v.keys space ≡ r → leaf_in v.tables page r ≡ Some leaf → IsRight o (mapping_of space page leaf)
      on None none found = absurd (none-some leaf found)
      on (Some root) here found =
          let fresh = leaf-fresh space root page leaf (root_at-some v.keys space root here) low found in
          record {
            place = fresh.place;
            reached = fresh.reached;
            page = sym fresh.number;
            write = fresh.write;
            execute = fresh.execute;
            live = reached-live o space (page * 4096) fresh.place fresh.reached;
          }

  pub mappings-right : AreRight o (mappings_of v)
  mappings-right =
      let are = are-mappings v cache.apart in
      record {
        right = λ n m at. let r = are.right n m at in entry-right m.space r.0 r.1 m r.4 r.2 r.3;
        once = λ i j m n ati atj spaces vas. once are i j m n ati atj spaces vas;
        order = are.order;
      }
    where
      once : AreMappings v (mappings_of v) → (i j : ℕ) (m n : Mapping) → slice_get (mappings_of v) i ≡ Some m → slice_get (mappings_of v) j ≡ Some n → m.space ≡ n.space → m.va ≡ n.va → i ≡ j
      once are i j m n ati atj spaces vas = elim (cases_lt i j) [
        | inl before ↦ absurd (let less = are.order i j m n before ati atj spaces in omega (arith, less, vas))
        | inr behind ↦ elim (cases_lt j i) [
          | inl after ↦ absurd (let less = are.order j i n m after atj ati (sym spaces) in omega (arith, less, vas))
          | inr same ↦ omega (arith, behind, same)
        ]
      ]
