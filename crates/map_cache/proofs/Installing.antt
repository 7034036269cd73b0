-- What a new root, reads that are recorded, and an installed leaf leave; and all of them together.
use Rattle.std.proofs.Common.{◌≡◌, ◌≢◌, ℕ, ◌+◌, ◌<◌, ◌≤◌, ◌/◌, ◌^◌, Bool, true, false, ◌&&◌, ◌||◌, ◌==◌, nat_lt, cond, if◌then◌else◌, List, [], ◌∷◌, ◌++◌, length, length-append, get_or, take, drop, Option, Some, None, is_some, refl, sym, ap, ◌∙◌, subst, arith}
use Rattle.std.specs.Prelude.{slice_get}
use Rattle.std.specs.List.{AllByRecursion as Each}
use Rattle.std.specs.FinSet.{FinSet, len, len-insert}
use Rattle.std.proofs.Math.Path.{fun_ext}
use Rattle.std.proofs.lemmas.Bool.Decides.{nat_tests}
use Rattle.std.proofs.lemmas.List.{drop_more, take-append-drop, take_more}
use Rattle.cap_format.specs.Capability.{Capability}
use Rattle.object_store.specs.Store.{Items}
use Rattle.sv32_tables.specs.declared.leaf.Leaf.{Leaf}
use Rattle.sv32_tables.specs.declared.frame_use.FrameUse.{FrameUse}
use Rattle.sv32_tables.specs.declared.frame_use.FrameUse.TheVariants.{Region}
use Rattle.sv32_tables.specs.Pool.{IsPlace, IsRoot, LacksFrame, PoolValue, leaf_at, with_region}
use Rattle.sv32_tables.specs.History.{Installs, MakesRoot, SameRoots}
use Rattle.sv32_tables.proofs.Uses.{slice_get-push_new}
use Rattle.tlb_model.specs.declared.entry.Entry.{Entry}
use Rattle.tlb_model.specs.Tlb.{IsTlb, filled, look}
use Rattle.tlb_model.specs.Laws.{FillLaw}
use Rattle.depend_table.specs.Depend.{Adds, Depend, depend, has}
use Rattle.depend_table.proofs.Members.{has-added, has-added_itself}
use Rattle.walk_meaning.specs.declared.noted.Noted.{Noted}
use Rattle.map_cache.specs.declared.key.Key.{Key}
use Rattle.map_cache.specs.Key.{has_key, region_key, root_key, same_space, with_key}
use Rattle.map_cache.specs.Kept.{note_order, noted_all}
use Rattle.map_cache.specs.Cache.{CacheValue, IsCache, cache_of, leaf_for, leaf_in, note_of, notes_of, root_at, space_at, tlb_at}
use Rattle.map_cache.specs.Coherent.{IsCoherent}
use Rattle.map_cache.specs.Effects.{Keeps, NotesReads, RootsSpace, SetsPage}
use Rattle.map_cache.proofs.Keyed.{none-root_at, root_at-is, root_at-some, space_at-at}
use Rattle.map_cache.proofs.Keyed.{notes_of-more}
use Rattle.map_cache.proofs.Invariant.{alone, cache-fill, cache-install, cache-note, cache-root, if-false, if-true, region_keyed, root_made, root_within}
use Rattle.map_cache.proofs.Leaves.{leaves-install, leaves-root, root_at-region}
use Rattle.map_cache.proofs.Coherence.{coherent-install, coherent-more, coherent-root, each_map, fresh-recorded}
use Rattle.depend_table.proofs.Coded.{has-at}
use Rattle.depend_table.proofs.Notes.{contains-note, noted_all-append, noted_all-grows, notes_of-added, notes_total}
use Rattle.depend_table.proofs.Tests.{number_itself}
use Rattle.map_cache.proofs.Codes.{key_coding, space_coding}

-- both, where one was to be said of two
pub record Made (t : PoolValue) (keys : List Key) (tlbs : List (List Entry)) (ds : List Depend) (P : CacheValue → Type 0) : Type 0 where
  pub cache : IsCache t keys tlbs ds
  pub done : P (cache_of t keys tlbs ds)

module _ (t : PoolValue) (keys : List Key) (tlbs : List (List Entry)) (ds : List Depend) (cache : IsCache t keys tlbs ds) where
  -- a space that has a root
  pub root-there : (space : Capability) (root : ℕ) → root_at keys space ≡ Some root → RootsSpace (cache_of t keys tlbs ds) (cache_of t keys tlbs ds) space root
  root-there space root is = record {
    here = here;
    made = root_made t keys tlbs ds cache root space here;
    keys = sym (if-true (has_key keys (root_key space)) keys (keys ++ root_key space ∷ []) (has-at key_coding keys root (root_key space) here));
    notes = refl;
    tlbs = refl;
    leaves = λ s p low. refl;
    coherent = λ o coherent. coherent;
  }
    where
      here : slice_get keys root ≡ Some (root_key space)
      here = root_at-some keys space root is

  -- a space that gets a root
  pub root-new : (u : PoolValue) (root : ℕ) (space : Capability) (more : List Key) → MakesRoot t u root → root_at keys space ≡ None → length keys < 256 → more ≡ keys ++ root_key space ∷ []
      → Made u more tlbs ds (λ v. RootsSpace (cache_of t keys tlbs ds) v space root)
  root-new u root space more makes none room is = subst (λ (ks : List Key). Made u ks tlbs ds (λ v. RootsSpace (cache_of t keys tlbs ds) v space root)) (sym is) (record {
    cache = cache-root t keys tlbs ds cache u root space makes new room;
    done = record {
      here = ap (slice_get (keys ++ root_key space ∷ [])) (makes.number ∙ sym cache.frames) ∙ slice_get-push_new keys (root_key space);
      made = makes.made;
      keys = sym (if-false (has_key keys (root_key space)) keys (keys ++ root_key space ∷ []) new);
      notes = notes_of-more keys (root_key space) ds (root_within t keys tlbs ds cache);
      tlbs = refl;
      leaves = leaves-root t keys tlbs ds cache u root space tlbs makes new;
      coherent = λ o coherent. coherent-root t keys tlbs ds u root space tlbs o cache.frames makes coherent;
    };
  })
    where
      new : has_key keys (root_key space) ≡ false
      new = none-root_at keys space cache.apart none

  -- a space for which there is no frame
  pub root-wanting : (space : Capability) → root_at keys space ≡ None → length t.uses ≡ 256 → 256 < length (with_key keys (root_key space))
  root-wanting space none full =
      let is = if-false (has_key keys (root_key space)) keys (keys ++ root_key space ∷ []) (none-root_at keys space cache.apart none) in
      omega (arith, ap (λ (ks : List Key). length ks) is, length-append keys (root_key space ∷ []), cache.frames, full)

  -- a read that is recorded
  pub note-added : (root : ℕ) (read : Noted) (new : List Depend) → IsRoot t root → Adds ds new (depend read.item root read.block) → ((has ds (depend read.item root read.block) ≡ false) × (length ds ≡ 16384) → ⊥)
      → Made t keys tlbs new (λ v. NotesReads (cache_of t keys tlbs ds) v (space_at keys root) root (read ∷ []))
  note-added root read new made adds room = record {
    cache = cache-note t keys tlbs ds cache new d adds made (most (has ds d) refl adds.count);
    done = record {
      tables = refl;
      keys = refl;
      tlbs = refl;
      notes = notes_of-added space_coding (space_at keys) ds new d adds;
      stay = λ e there. has-added ds new d e adds there;
      there = (has-added_itself ds new d adds, tt);
    };
  }
    where
      d : Depend
      d = depend read.item root read.block

      most : (b : Bool) → has ds d ≡ b → length new ≡ (if b then length ds else length ds + 1) → length new ≤ 16384
      most true is count = omega (arith, count, cache.most_records)
      most false is count = let less : length ds ≢ 16384 = λ full. room (is, full) in omega (arith, count, cache.most_records, less)

  -- a read for which there is no room
  pub note-wanting : (root : ℕ) (read : Noted) → IsRoot t root → has ds (depend read.item root read.block) ≡ false → length ds ≡ 16384
      → 16384 < len (noted_all (notes_of keys ds) (space_at keys root) (read ∷ []))
  note-wanting root read made none full =
      let d : Depend = depend read.item root read.block in
      let more = len-insert (notes_total space_coding) (notes_of keys ds) (note_of keys d)
      ∙ ap (λ (b : Bool). cond b (len (notes_of keys ds)) (len (notes_of keys ds) + 1)) (contains-note space_coding (space_at keys) ds d (alone t keys tlbs ds cache d made) ∙ none) in
      omega (arith, more, cache.noted, full)

  -- a page that gets a leaf
  pub page-set : (u : PoolValue) (more : List Key) (root page : ℕ) (leaf : Leaf) (space : Capability) → Installs t u root page leaf → u.uses ≡ with_region t root (page / 1024) → SameRoots t u
      → leaf_at t root page ≡ None → slice_get keys root ≡ Some (root_key space) → page < 2 ^ 20 → length u.uses ≤ 256
      → more ≡ (if nat_lt (length keys) (length u.uses) then keys ++ region_key space (page / 1024) ∷ [] else keys)
      → Made u more tlbs ds (λ v. SetsPage (cache_of t keys tlbs ds) v space root page leaf)
  page-set u more root page leaf space installs uses roots bare here low room is =
      subst (λ (ks : List Key). Made u ks tlbs ds (λ v. SetsPage (cache_of t keys tlbs ds) v space root page leaf)) (sym (is ∙ grown)) (record {
        cache = cache-install t keys tlbs ds cache u root page leaf space installs uses roots bare here (omega (arith, long, room));
        done = record {
          place = place;
          there = installs root page (record { made = made; inside = low }) ∙ itself;
          root_is = root_at-region keys space space (page / 1024) cache.apart ∙ root_at-is keys space root cache.apart here;
          keys = refl;
          notes = notes (has_key keys k);
          tlbs = refl;
          leaves = leaves-install t keys tlbs ds cache u root page leaf space tlbs installs here;
          coherent = λ o fresh coherent. coherent-install t keys tlbs ds u root page leaf space tlbs o cache.frames installs roots here fresh coherent;
        };
      })
    where
      k : Key
      k = region_key space (page / 1024)

      made : IsRoot t root
      made = root_made t keys tlbs ds cache root space here

      place : IsPlace u root page
      place = record { made = (roots root).1 made; inside = low }

      itself : (if (root == root) && (page == page) then Some leaf else leaf_at t root page) ≡ Some leaf
      itself = rw (number_itself root, number_itself page) refl

      keyed : u.uses ≡ (if has_key keys k then t.uses else t.uses ++ Region root (page / 1024) ∷ [])
      keyed = uses ∙ ap (λ (b : Bool). if b then t.uses else t.uses ++ Region root (page / 1024) ∷ []) (region_keyed t keys tlbs ds cache root (page / 1024) space here)

      grown : (if nat_lt (length keys) (length u.uses) then keys ++ k ∷ [] else keys) ≡ with_key keys k
      grown = on (has_key keys k) keyed
        where
          on : (b : Bool) → u.uses ≡ (if b then t.uses else t.uses ++ Region root (page / 1024) ∷ []) → (if nat_lt (length keys) (length u.uses) then keys ++ k ∷ [] else keys) ≡ (if b then keys else keys ++ k ∷ [])
          on true same = if-false (nat_lt (length keys) (length u.uses)) (keys ++ k ∷ []) keys (let e = ap (λ (us : List FrameUse). length us) same in let f = cache.frames in grind (arith, nat_tests, e, f))
          on false same = if-true (nat_lt (length keys) (length u.uses)) (keys ++ k ∷ []) keys (let e = ap (λ (us : List FrameUse). length us) same in let l = length-append t.uses (Region root (page / 1024) ∷ []) in let f = cache.frames in grind (arith, nat_tests, e, l, f))

      long : length (with_key keys k) ≡ length u.uses
      long = on (has_key keys k) keyed
        where
          on : (b : Bool) → u.uses ≡ (if b then t.uses else t.uses ++ Region root (page / 1024) ∷ []) → length (if b then keys else keys ++ k ∷ []) ≡ length u.uses
          on true same = omega (arith, ap (λ (us : List FrameUse). length us) same, cache.frames)
          on false same = omega (arith, ap (λ (us : List FrameUse). length us) same, length-append t.uses (Region root (page / 1024) ∷ []), length-append keys (k ∷ []), cache.frames)

      notes : (b : Bool) → notes_of (if b then keys else keys ++ k ∷ []) ds ≡ notes_of keys ds
      notes true = refl
      notes false = notes_of-more keys k ds (root_within t keys tlbs ds cache)

  -- a page for which there is no frame
  pub page-wanting : (root region : ℕ) (space : Capability) → LacksFrame t root region → slice_get keys root ≡ Some (root_key space) → 256 < length (with_key keys (region_key space region))
  page-wanting root region space lacks here =
      let none = sym (region_keyed t keys tlbs ds cache root region space here) ∙ lacks.needed in
      let is = if-false (has_key keys (region_key space region)) keys (keys ++ region_key space region ∷ []) none in
      omega (arith, ap (λ (ks : List Key). length ks) is, length-append keys (region_key space region ∷ []), cache.frames, lacks.full)

-- each of two lists
each_append : (P : Noted → Type 0) (xs ys : List Noted) → Each P xs → Each P ys → Each P (xs ++ ys)
each_append P [] ys all also = also
each_append P (x ∷ xs) ys all also = (all.0, each_append P xs ys all.1 also)

-- reads recorded one after the other
pub reads-append : (v w x : CacheValue) (space : Capability) (root : ℕ) (xs ys : List Noted) → NotesReads v w space root xs → NotesReads w x space root ys → NotesReads v x space root (xs ++ ys)
reads-append v w x space root xs ys first second = record {
  tables = second.tables ∙ first.tables;
  keys = second.keys ∙ first.keys;
  tlbs = second.tlbs ∙ first.tlbs;
  notes = second.notes ∙ ap (λ (s : FinSet note_order). noted_all s space ys) first.notes ∙ sym (noted_all-append space_coding (notes_of v.keys v.records) space xs ys);
  stay = λ d there. second.stay d (first.stay d there);
  there = each_append (λ n. has x.records (depend n.item root n.block) ≡ true) xs ys
      (each_map (λ n. has w.records (depend n.item root n.block) ≡ true) (λ n. has x.records (depend n.item root n.block) ≡ true) (λ n there. second.stay (depend n.item root n.block) there) xs first.there) second.there;
}

-- where some reads are too many, so are all
pub reads-wanting : (v w : CacheValue) (space : Capability) (root : ℕ) (xs ys zs : List Noted) → NotesReads v w space root xs → 16384 < len (noted_all (notes_of w.keys w.records) space ys)
    → 16384 < len (noted_all (notes_of v.keys v.records) space (xs ++ (ys ++ zs)))
reads-wanting v w space root xs ys zs first more =
    let all = noted_all-append space_coding (notes_of v.keys v.records) space xs (ys ++ zs) ∙ ap (λ (s : FinSet note_order). noted_all s space (ys ++ zs)) (sym first.notes) ∙ noted_all-append space_coding (notes_of w.keys w.records) space ys zs in
    omega (arith, more, ap (λ (s : FinSet note_order). len s) all, noted_all-grows space_coding (noted_all (notes_of w.keys w.records) space ys) space zs)

-- a list of reads with one more, and that it is a front of all
module _ (v w x : CacheValue) (root : ℕ) (reads : List Noted) (i : ℕ) (read : Noted) (less : i < length reads) (at : read ≡ get_or reads i read)
    (done : NotesReads v w (space_at v.keys root) root (take i reads)) where
  same_space_at : space_at w.keys root ≡ space_at v.keys root
  same_space_at = ap (λ (ks : List Key). space_at ks root) done.keys

  pub reads-next : NotesReads w x (space_at w.keys root) root (read ∷ []) → NotesReads v x (space_at v.keys root) root (take (i + 1) reads)
  reads-next next =
      let more : take (i + 1) reads ≡ take i reads ++ read ∷ [] = take_more reads i read less ∙ ap (λ (n : Noted). take i reads ++ n ∷ []) (sym at) in
      subst (λ (ns : List Noted). NotesReads v x (space_at v.keys root) root ns) (sym more)
      (reads-append v w x (space_at v.keys root) root (take i reads) (read ∷ []) done (subst (λ (s : Capability). NotesReads w x s root (read ∷ [])) same_space_at next))

  pub reads-over : 16384 < len (noted_all (notes_of w.keys w.records) (space_at w.keys root) (read ∷ [])) → 16384 < len (noted_all (notes_of v.keys v.records) (space_at v.keys root) reads)
  reads-over more =
      let rest : drop i reads ≡ read ∷ drop (i + 1) reads = drop_more reads i read less ∙ ap (λ (n : Noted). n ∷ drop (i + 1) reads) (sym at) in
      let whole : take i reads ++ (read ∷ drop (i + 1) reads) ≡ reads = ap (λ (ns : List Noted). take i reads ++ ns) (sym rest) ∙ take-append-drop i reads in
      subst (λ (ns : List Noted). 16384 < len (noted_all (notes_of v.keys v.records) (space_at v.keys root) ns)) whole
      (reads-wanting v w (space_at v.keys root) root (take i reads) (read ∷ []) (drop (i + 1) reads) done
      (subst (λ (s : Capability). 16384 < len (noted_all (notes_of w.keys w.records) s (read ∷ []))) same_space_at more))

-- the reads are recorded for a space that has its root
module _ (v0 v1 v2 : CacheValue) (root page : ℕ) (space : Capability) (reads : List Noted)
    (roots : RootsSpace v0 v1 space root) (notes : NotesReads v1 v2 (space_at v1.keys root) root reads) where
  pub noted : NotesReads v1 v2 space root reads
  noted = subst (λ (s : Capability). NotesReads v1 v2 s root reads) (space_at-at v1.keys root (root_key space) roots.here) notes

  -- and it still has no leaf there
  pub still-bare : IsCache v1.tables v1.keys v1.tlbs v1.records → page < 2 ^ 20 → leaf_for v0 space page ≡ None → leaf_at v2.tables root page ≡ None
  still-bare cache low bare =
      ap (λ (u : PoolValue). leaf_at u root page) notes.tables
      ∙ sym (ap (leaf_in v1.tables page) (root_at-is v1.keys space root cache.apart roots.here))
      ∙ roots.leaves space page low ∙ bare

  -- no leaf changed
  pub same_leaves : (s : Capability) (p : ℕ) → p < 2 ^ 20 → leaf_for v2 s p ≡ leaf_for v0 s p
  same_leaves s p low = (λ i. leaf_in (notes.tables i) p (root_at (notes.keys i) s)) ∙ roots.leaves s p low

-- the whole of an addition
module _ (v0 v1 v2 v3 : CacheValue) (to : List (List Entry)) (hart root page : ℕ) (space : Capability) (leaf : Leaf) (reads : List Noted)
    (roots : RootsSpace v0 v1 space root) (notes : NotesReads v1 v2 (space_at v1.keys root) root reads) (sets : SetsPage v2 v3 space root page leaf) where
  held : (s : Capability) (p : ℕ) → (nat_lt p (2 ^ 20) && is_some (leaf_for v3 s p)) ≡ ((same_space s space && (p == page)) || (nat_lt p (2 ^ 20) && is_some (leaf_for v0 s p)))
  held s p = on (nat_lt p (2 ^ 20)) refl
    where
      some : (b : Bool) (x : Option Leaf) → is_some (if b then Some leaf else x) ≡ (b || is_some x)
      some true x = refl
      some false x = refl

      away : (a b : Bool) → b ≡ false → false ≡ ((a && b) || false)
      away true b is = sym (ap (λ (x : Bool). x || false) is)
      away false b is = refl

      on : (b : Bool) → nat_lt p (2 ^ 20) ≡ b → (b && is_some (leaf_for v3 s p)) ≡ ((same_space s space && (p == page)) || (b && is_some (leaf_for v0 s p)))
      on true is =
          let low : p < 2 ^ 20 = grind (arith, nat_tests, is) in
          ap is_some (sets.leaves s p low) ∙ some (same_space s space && (p == page)) (leaf_for v2 s p) ∙ ap (λ (x : Option Leaf). (same_space s space && (p == page)) || is_some x) (same_leaves v0 v1 v2 root page space reads roots notes s p low)
      on false is =
          let low = sets.place.inside in
          away (same_space s space) (p == page) (grind (arith, nat_tests, is, low))

  -- what an addition leaves, and that it leaves a cache
  pub page-kept : FillLaw → IsCache v3.tables v3.keys v3.tlbs v3.records → IsTlb (tlb_at v3.tlbs hart) → tlb_at to hart ≡ filled (tlb_at v3.tlbs hart) root page leaf
      → ((k : ℕ) → k ≢ hart → tlb_at to k ≡ tlb_at v3.tlbs k) → length to ≡ length v0.tlbs
      → Made v3.tables v3.keys to v3.records (λ v. Keeps v0 v hart space page leaf reads)
  page-kept law cache is own others harts = record {
    cache = cache-fill v3.tables v3.keys v3.tlbs v3.records cache law to hart root page leaf (record { place = sets.place; there = sets.there }) is own others;
    done = record {
      kept = λ i. record {
        held = fun_ext {f = λ s p. nat_lt p (2 ^ 20) && is_some (leaf_for v3 s p)} {g = λ s p. (same_space s space && (p == page)) || (nat_lt p (2 ^ 20) && is_some (leaf_for v0 s p))} (λ s. fun_ext (λ p. held s p)) i;
        keys = (sets.keys ∙ ap (λ (ks : List Key). with_key ks (region_key space (page / 1024))) (notes.keys ∙ roots.keys)) i;
        notes = (sets.notes ∙ (noted v0 v1 v2 root page space reads roots notes).notes ∙ ap (λ (s : FinSet note_order). noted_all s space reads) roots.notes) i;
      };
      coherent = λ o walked coherent.
          coherent-tlbs v3 to o (sets.coherent o (fresh-recorded o space root page leaf v2.records reads walked notes.there)
          (coherent-noted v1 v2 o notes.tables notes.keys notes.stay (roots.coherent o coherent)));
      held = record { root = root; root_is = sets.root_is; tables = sets.there; tlb = ap (λ (es : List Entry). look es root page) own ∙ (law (tlb_at v3.tlbs hart) root page leaf is).new };
      others = λ k differs. others k differs ∙ ap (λ (ts : List (List Entry)). tlb_at ts k) (sets.tlbs ∙ notes.tlbs ∙ roots.tlbs);
      harts = harts;
    };
  }
    where
      coherent-tlbs : (v : CacheValue) (to : List (List Entry)) (o : Items) → IsCoherent v o → IsCoherent (cache_of v.tables v.keys to v.records) o
      coherent-tlbs v to o coherent = coherent

      coherent-noted : (v w : CacheValue) (o : Items) → w.tables ≡ v.tables → w.keys ≡ v.keys → ((d : Depend) → has v.records d ≡ true → has w.records d ≡ true) → IsCoherent v o → IsCoherent w o
      coherent-noted v w o tables keys stay coherent =
          let more = coherent-more v.tables v.keys v.tlbs v.records w.tlbs w.records o stay coherent in
          subst (λ (t : PoolValue). IsCoherent (cache_of t w.keys w.tlbs w.records) o) (sym tables) (subst (λ (ks : List Key). IsCoherent (cache_of v.tables ks w.tlbs w.records) o) (sym keys) more)
