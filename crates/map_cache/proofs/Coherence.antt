-- Coherence: with more records, after a new leaf, after a cleared block, and over a change of one item.
use Rattle.std.proofs.Common.{◌≡◌, ◌≢◌, inl, inr, ℕ, ◌*◌, ◌<◌, ◌/◌, Bool, true, false, ◌&&◌, ◌==◌, if◌then◌else◌, List, [], ◌∷◌, ◌++◌, length, Some, None, refl, sym, ap, ◌∙◌, subst, arith}
use Rattle.std.specs.Prelude.{slice_get}
use Rattle.std.specs.List.{AllByRecursion as Each}
use Rattle.std.proofs.lemmas.Option.{none-some, slice_get_within}
use Rattle.cap_format.specs.Capability.{Capability}
use Rattle.cap_format.specs.declared.item.Item.{Item}
use Rattle.guard_math.specs.Block.{BlockValue, holds}
use Rattle.object_store.specs.Store.{Items}
use Rattle.object_store.specs.Meaning.{meaning}
use Rattle.object_store.specs.Differ.{DifferIn}
use Rattle.sv32_tables.specs.declared.leaf.Leaf.{Leaf}
use Rattle.sv32_tables.specs.declared.frame_use.FrameUse.TheVariants.{Root}
use Rattle.sv32_tables.specs.Pool.{IsPlace, PoolValue, leaf_at}
use Rattle.sv32_tables.specs.History.{Clears, Installs, MakesRoot, SameRoots}
use Rattle.sv32_tables.proofs.Uses.{slice_get-push}
use Rattle.walk_meaning.specs.Laws.{SpaceFrameLaw}
use Rattle.walk_meaning.specs.declared.kind.Kind.TheVariants.{Load}
use Rattle.walk_meaning.specs.declared.noted.Noted.{Noted}
use Rattle.walk_meaning.specs.Trail.{trail}
use Rattle.tlb_model.specs.declared.entry.Entry.{Entry}
use Rattle.depend_table.specs.Depend.{Depend, Takes, depend, has}
use Rattle.depend_table.proofs.Members.{has-taken_cases}
use Rattle.map_cache.specs.declared.key.Key.{Key}
use Rattle.map_cache.specs.Key.{has_key, region_key, root_key, with_key}
use Rattle.map_cache.specs.Cache.{cache_of, space_at}
use Rattle.map_cache.specs.Coherent.{IsCoherent, IsFresh, IsRecorded}
use Rattle.map_cache.specs.Effects.{IsWalked}
use Rattle.map_cache.proofs.Keyed.{space_at-at, space_at-more}
use Rattle.map_cache.proofs.Invariant.{leaf_at-words}
use Rattle.depend_table.proofs.Tests.{both, number_itself, same_numbers}

-- from one property of the reads to another
pub each_map : (P Q : Noted → Type 0) → ((n : Noted) → P n → Q n) → (ns : List Noted) → Each P ns → Each Q ns
each_map P Q f [] all = tt
each_map P Q f (n ∷ ns) all = (f n all.0, each_map P Q f ns all.1)

-- two properties of each read
pub each_zip : (P Q R : Noted → Type 0) → ((n : Noted) → P n → Q n → R n) → (ns : List Noted) → Each P ns → Each Q ns → Each R ns
each_zip P Q R f [] all also = tt
each_zip P Q R f (n ∷ ns) all also = (f n all.0 also.0, each_zip P Q R f ns all.1 also.1)

pub fresh-map : (o : Items) (space : Capability) (page : ℕ) (leaf : Leaf) (P Q : Noted → Type 0) → ((n : Noted) → P n → Q n) → IsFresh o space page leaf P → IsFresh o space page leaf Q
fresh-map o space page leaf P Q f fresh =
    record { place = fresh.place; reached = fresh.reached; number = fresh.number; write = fresh.write; execute = fresh.execute; reads = each_map P Q f (trail o (meaning o space) (page * 4096) Load) fresh.reads }

-- a leaf whose walk's reads were recorded
pub fresh-recorded : (o : Items) (space : Capability) (root page : ℕ) (leaf : Leaf) (records : List Depend) (reads : List Noted) → IsWalked o space page leaf reads
    → Each (λ (n : Noted). has records (depend n.item root n.block) ≡ true) reads → IsFresh o space page leaf (IsRecorded records root page)
fresh-recorded o space root page leaf records reads walked there = record {
  place = walked.fresh.place;
  reached = walked.fresh.reached;
  number = walked.fresh.number;
  write = walked.fresh.write;
  execute = walked.fresh.execute;
  reads =
      let P : List Noted → Type 0 = λ ns. Each (λ (n : Noted). has records (depend n.item root n.block) ≡ true) ns in
      each_zip (λ n. holds n.block page ≡ true) (λ n. has records (depend n.item root n.block) ≡ true) (IsRecorded records root page) (λ n held here. record { there = here; held = held })
      (trail o (meaning o space) (page * 4096) Load) walked.fresh.reads (subst P (sym walked.reads_are) there);
}

module _ (t : PoolValue) (keys : List Key) (tlbs : List (List Entry)) (ds : List Depend) where
  -- with more records
  pub coherent-more : (harts : List (List Entry)) (new : List Depend) (o : Items) → ((d : Depend) → has ds d ≡ true → has new d ≡ true)
      → IsCoherent (cache_of t keys tlbs ds) o → IsCoherent (cache_of t keys harts new) o
  coherent-more harts new o stay coherent root page leaf place at =
      fresh-map o (space_at keys root) page leaf (IsRecorded ds root page) (IsRecorded new root page) (λ n was. record { there = stay (depend n.item root n.block) was.there; held = was.held }) (coherent root page leaf place at)

  -- a new root has no leaf
  pub coherent-root : (u : PoolValue) (root : ℕ) (space : Capability) (harts : List (List Entry)) (o : Items) → length keys ≡ length t.uses → MakesRoot t u root
      → IsCoherent (cache_of t keys tlbs ds) o → IsCoherent (cache_of u (keys ++ root_key space ∷ []) harts ds) o
  coherent-root u root space harts o frames makes coherent r p leaf place at =
      elim (slice_get-push t.uses Root r Root (sym (ap (λ us. slice_get us r) makes.uses) ∙ place.made)) [
        | inl old ↦
            let within : r < length keys = omega (arith, frames, slice_get_within t.uses r Root old) in
            let fresh = coherent r p leaf (record { made = old; inside = place.inside }) (sym (leaf_at-words t u r p makes.words) ∙ at) in
            subst (λ (s : Capability). IsFresh o s p leaf (IsRecorded ds r p)) (sym (space_at-more keys (root_key space) r within)) fresh
        | inr new ↦
            let one : r ≡ root = new.0 ∙ sym makes.number in
            absurd (none-some leaf (sym (ap (λ (n : ℕ). leaf_at u n p) one ∙ makes.bare p place.inside) ∙ at))
      ]

  -- a leaf that is fresh
  pub coherent-install : (u : PoolValue) (root page : ℕ) (leaf : Leaf) (space : Capability) (harts : List (List Entry)) (o : Items) → length keys ≡ length t.uses → Installs t u root page leaf → SameRoots t u
      → slice_get keys root ≡ Some (root_key space) → IsFresh o space page leaf (IsRecorded ds root page)
      → IsCoherent (cache_of t keys tlbs ds) o → IsCoherent (cache_of u (with_key keys (region_key space (page / 1024))) harts ds) o
  coherent-install u root page leaf space harts o frames installs roots here fresh coherent r p l place at =
      subst (λ (s : Capability). IsFresh o s p l (IsRecorded ds r p)) (sym (same_space_at (has_key keys (region_key space (page / 1024)))))
      (on ((r == root) && (p == page)) refl (sym at ∙ installs r p was))
    where
      was : IsPlace t r p
      was = record { made = (roots r).0 place.made; inside = place.inside }

      within : r < length keys
      within = omega (arith, frames, slice_get_within t.uses r Root was.made)

      same_space_at : (b : Bool) → space_at (if b then keys else keys ++ region_key space (page / 1024) ∷ []) r ≡ space_at keys r
      same_space_at true = refl
      same_space_at false = space_at-more keys (region_key space (page / 1024)) r within

      on : (b : Bool) → ((r == root) && (p == page)) ≡ b → Some l ≡ (if b then Some leaf else leaf_at t r p) → IsFresh o (space_at keys r) p l (IsRecorded ds r p)
      on true is same =
          let parts = both (r == root) (p == page) is in
          let r_is : root ≡ r = sym (same_numbers r root parts.0) in
          let p_is : page ≡ p = sym (same_numbers p page parts.1) in
          let l_is : leaf ≡ l = cc in
          let s_is : space ≡ space_at keys r = sym (space_at-at keys root (root_key space) here) ∙ ap (space_at keys) r_is in
          subst (λ (s : Capability). IsFresh o s p l (IsRecorded ds r p)) s_is
          (subst (λ (x : Leaf). IsFresh o space p x (IsRecorded ds r p)) l_is
          (subst (λ (n : ℕ). IsFresh o space n leaf (IsRecorded ds r n)) p_is
          (subst (λ (n : ℕ). IsFresh o space page leaf (IsRecorded ds n page)) r_is fresh)))
      on false is same = coherent r p l was (sym same)

  -- a record taken, and its block cleared
  pub coherent-clear : (u : PoolValue) (harts : List (List Entry)) (new : List Depend) (d : Depend) (o : Items) → Takes ds new d → Clears t u d.root d.block → u.uses ≡ t.uses
      → IsCoherent (cache_of t keys tlbs ds) o → IsCoherent (cache_of u keys harts new) o
  coherent-clear u harts new d o takes clears uses coherent r p leaf place at = on ((r == d.root) && holds d.block p) refl (sym at ∙ clears r p was)
    where
      was : IsPlace t r p
      was = record { made = sym (ap (λ us. slice_get us r) uses) ∙ place.made; inside = place.inside }

      on : (b : Bool) → ((r == d.root) && holds d.block p) ≡ b → Some leaf ≡ (if b then None else leaf_at t r p) → IsFresh o (space_at keys r) p leaf (IsRecorded new r p)
      on true is same = absurd (none-some leaf (sym same))
      on false is same = fresh-map o (space_at keys r) p leaf (IsRecorded ds r p) (IsRecorded new r p) keep (coherent r p leaf was (sym same))
        where
          keep : (n : Noted) → IsRecorded ds r p n → IsRecorded new r p n
          keep n rec = record {
            there = elim (has-taken_cases ds new d (depend n.item r n.block) takes rec.there) [
              | inl left ↦ left
              | inr taken ↦ absurd (
                  let root : r ≡ d.root = ap (λ (e : Depend). e.root) taken in
                  let block : n.block ≡ d.block = ap (λ (e : Depend). e.block) taken in
                  let hit : ((r == d.root) && holds d.block p) ≡ true = hits (r == d.root) (holds d.block p) (ap (λ (m : ℕ). m == d.root) root ∙ number_itself d.root) (ap (λ (b : BlockValue). holds b p) (sym block) ∙ rec.held) in
                  cc)
            ];
            held = rec.held;
          }
            where
              hits : (a b : Bool) → a ≡ true → b ≡ true → (a && b) ≡ true
              hits true b x y = y
              hits false b x y = x

  -- over a change of an item that has no record
  pub coherent-differs : SpaceFrameLaw → (item : Item) (o p : Items) → DifferIn item o p → ((root : ℕ) (block : BlockValue) → has ds (depend item root block) ≡ false)
      → IsCoherent (cache_of t keys tlbs ds) o → IsCoherent (cache_of t keys tlbs ds) p
  coherent-differs law item o p differ none coherent root page leaf place at =
      let was = coherent root page leaf place at in
      let alike = law item o p (space_at keys root) (page * 4096) Load was.place differ was.reached (each_map (IsRecorded ds root page) (λ n. n.item ≢ item) (unread root page) (trail o (meaning o (space_at keys root)) (page * 4096) Load) was.reads) in
      record {
        place = was.place;
        reached = alike.reached;
        number = was.number;
        write = was.write;
        execute = was.execute;
        reads = let P : List Noted → Type 0 = λ ns. Each (IsRecorded ds root page) ns in subst P (sym alike.reads) was.reads;
      }
    where
      unread : (root page : ℕ) (n : Noted) → IsRecorded ds root page n → n.item ≢ item
      unread root page n rec same = let there : has ds (depend item root n.block) ≡ true = ap (λ (i : Item). has ds (depend i root n.block)) (sym same) ∙ rec.there in
          let not_there = none root n.block in
          absurd (cc)
