-- What a taken record leaves, what is left when an item has none, and forgetting everything.
use Rattle.std.proofs.Common.{◌≡◌, ℕ, ◌<◌, ◌≤◌, ◌^◌, Bool, true, false, not, ◌&&◌, ◌||◌, ◌==◌, nat_lt, if◌then◌else◌, List, [], filter, length, Option, Some, None, is_some, refl, sym, ap, ◌∙◌, arith}
use Rattle.std.specs.Prelude.{slice_get}
use Rattle.std.specs.List.{list_any}
use Rattle.std.specs.FinSet.{items}
use Rattle.std.proofs.Math.Path.{fun_ext}
use Rattle.std.proofs.lemmas.Bool.Decides.{nat_tests}
use Rattle.cap_format.specs.Capability.{Capability}
use Rattle.cap_format.specs.declared.item.Item.{Item}
use Rattle.guard_math.specs.Block.{BlockValue, holds}
use Rattle.sv32_tables.specs.declared.leaf.Leaf.{Leaf}
use Rattle.sv32_tables.specs.Pool.{PoolValue, leaf_at}
use Rattle.sv32_tables.specs.History.{Clears}
use Rattle.tlb_model.specs.declared.entry.Entry.{Entry}
use Rattle.tlb_model.specs.Tlb.{without_block}
use Rattle.tlb_model.specs.Laws.{DropLaw}
use Rattle.depend_table.specs.Depend.{Depend, Takes, depend, has, same, same_item}
use Rattle.depend_table.proofs.Members.{same_item_tells, same_tells}
use Rattle.walk_meaning.specs.declared.noted.Noted.{Noted}
use Rattle.map_cache.specs.declared.key.Key.{Key}
use Rattle.map_cache.specs.Key.{root_key, same_space}
use Rattle.map_cache.specs.Kept.{KeptValue, added, fits, is_on, kept_without, nothing, tlb_without}
use Rattle.map_cache.specs.Cache.{CacheValue, IsCache, cache_of, kept_of, leaf_for, leaf_in, notes_of, root_at, space_at, tlb_at}
use Rattle.map_cache.specs.Effects.{Forgets, IsBlank, Keeps, Remembers, hits, leaf_left, takes_out}
use Rattle.depend_table.proofs.Notes.{any-items, notes_of-kept}
use Rattle.map_cache.proofs.Codes.{space_coding}
use Rattle.map_cache.proofs.Keyed.{root_at-some}
use Rattle.map_cache.proofs.Invariant.{cache-clear, if-false, root_made, root_space}
use Rattle.map_cache.proofs.Coherence.{coherent-clear}
use Rattle.map_cache.proofs.Economy.{fits-alone}
use Rattle.map_cache.proofs.Installing.{Made}
use Rattle.map_cache.proofs.Blank.{blank-bare, starts}
use Rattle.map_cache.proofs.Purged.{item_itself, left-kept, left-none, left-taken}
use Rattle.depend_table.proofs.Coded.{one_key, key_itself, key_tells}
use Rattle.depend_table.proofs.Records.{adds-taken, any-added, any_has}
use Rattle.depend_table.proofs.Tests.{both, number_itself, same_numbers, same_tests}

-- ---- one record

module _ (t : PoolValue) (keys : List Key) (tlbs : List (List Entry)) (ds : List Depend) (cache : IsCache t keys tlbs ds) where
  -- a record is taken, its block cleared and dropped
  pub record-taken : DropLaw → (u : PoolValue) (to : List (List Entry)) (new : List Depend) (d : Depend) → Takes ds new d → Clears t u d.root d.block → u.uses ≡ t.uses
      → ((k : ℕ) → tlb_at to k ≡ without_block (tlb_at tlbs k) d.root d.block) → length to ≡ length tlbs
      → Made u keys to new (λ v. Forgets (cache_of t keys tlbs ds) v d.item)
  record-taken law u to new d takes clears uses drops harts = record {
    cache = cache-clear t keys tlbs ds cache law u to new d takes clears uses drops;
    done = record {
      keys = refl;
      leaves = leaves;
      records = λ e. records e (same d e) refl;
      coherent = λ o coherent. coherent-clear t keys tlbs ds u to new d o takes clears uses coherent;
      tlbs = λ hart. ap (λ (es : List Entry). filter (λ e. not (list_any (takes_out e.root e.page d.item) new)) es) (drops hart) ∙ left-taken ds new d takes (tlb_at tlbs hart);
      harts = harts;
    };
  }
    where
      records : (e : Depend) (b : Bool) → same d e ≡ b → (not (same_item e.item d.item) && has new e) ≡ (not (same_item e.item d.item) && has ds e)
      records e true is =
          let own : same_item e.item d.item ≡ true = ap (λ (x : Depend). same_item x.item d.item) (sym (same_tells d e is)) ∙ item_itself d in
          rw own refl
      records e false is = ap (λ (b : Bool). not (same_item e.item d.item) && b) (takes.records e ∙ ap (λ (b : Bool). not b && has ds e) is)

      leaves : (s : Capability) (p : ℕ) → p < 2 ^ 20 → leaf_left (cache_of u keys to new) d.item s p ≡ leaf_left (cache_of t keys tlbs ds) d.item s p
      leaves s p low =
          on (root_at keys s) refl
          ∙ ap (λ (b : Bool). if b then None else leaf_in t p (root_at keys s)) (sym (any-added (hits keys s p d.item) new ds d (adds-taken ds new d takes)))
        where
          later : Bool
          later = list_any (hits keys s p d.item) new

          join : (a b : Bool) (x : Option Leaf) → (if b then None else (if a then None else x)) ≡ (if a || b then None else x)
          join true true x = refl
          join true false x = refl
          join false b x = refl

          no_leaf : Option Leaf
          no_leaf = None

          none : (a b : Bool) → (if b then no_leaf else no_leaf) ≡ (if a || b then no_leaf else no_leaf)
          none true true = refl
          none true false = refl
          none false b = refl

          on : (r : Option ℕ) → root_at keys s ≡ r → (if later then None else leaf_in u p r) ≡ (if hits keys s p d.item d || later then None else leaf_in t p r)
          on None is = none (hits keys s p d.item d) later
          on (Some r) is =
              let at = root_at-some keys s r is in
              let made = root_made t keys tlbs ds cache r s at in
              let there = root_space t keys tlbs ds cache d.root (cache.roots d takes.there) in
              let one : (r == d.root) ≡ same_space s (space_at keys d.root) = same_tests (r == d.root) (same_space s (space_at keys d.root))
              (λ e.
              let at' = ap (slice_get keys) (sym (same_numbers r d.root e)) ∙ at in
              let k = one_key keys d.root (root_key s) (root_key (space_at keys d.root)) at' there in
              ap (same_space s) (sym (ap (λ (k : Key). k.space) k)) ∙ key_itself space_coding s)
              (λ e.
              let same' = key_tells space_coding s (space_at keys d.root) e in
              let r_is = cache.apart r d.root (root_key s) at (there ∙ ap (λ (x : Capability). Some (root_key x)) (sym same')) in
              ap (λ (n : ℕ). n == d.root) r_is ∙ number_itself d.root) in
              let hit : ((r == d.root) && holds d.block p) ≡ hits keys s p d.item d =
              ap (λ (b : Bool). b && holds d.block p) one ∙ sym (ap (λ (b : Bool). b && (same_space s (space_at keys d.root) && holds d.block p)) (item_itself d)) in
              ap (λ (x : Option Leaf). if later then None else x) (clears r p (record { made = made; inside = low }) ∙ ap (λ (b : Bool). if b then None else leaf_at t r p) hit)
              ∙ join (hits keys s p d.item d) later (leaf_at t r p)

-- ---- all records of an item

-- one after the other
pub forgets-more : (v w x : CacheValue) (item : Item) → Forgets v w item → Forgets w x item → Forgets v x item
forgets-more v w x item first second = record {
  keys = second.keys ∙ first.keys;
  leaves = λ s p low. second.leaves s p low ∙ first.leaves s p low;
  records = λ d. second.records d ∙ first.records d;
  coherent = λ o coherent. second.coherent o (first.coherent o coherent);
  tlbs = λ hart. second.tlbs hart ∙ first.tlbs hart;
  harts = second.harts ∙ first.harts;
}

-- where no record of the item is left, what is kept is what the change leaves
pub forgotten : (v w : CacheValue) (item : Item) → Forgets v w item → ((root : ℕ) (block : BlockValue) → has w.records (depend item root block) ≡ false) → kept_of w ≡ kept_without (kept_of v) item
forgotten v w item forgets none = λ i. record {
  held = fun_ext {f = λ s p. nat_lt p (2 ^ 20) && is_some (leaf_for w s p)} {g = λ s p. (nat_lt p (2 ^ 20) && is_some (leaf_for v s p)) && not (list_any (is_on s p item) (items (notes_of v.keys v.records)))} (λ s. fun_ext (λ p. held s p (nat_lt p (2 ^ 20)) refl)) i;
  keys = forgets.keys i;
  notes = (ap (λ (ks : List Key). notes_of ks w.records) forgets.keys ∙ notes_of-kept space_coding (space_at v.keys) v.records w.records (λ n. not (same_item n.item item)) (λ d. left d ∙ swap (not (same_item d.item item)) (has v.records d))) i;
}
  where
    unnoted : (d : Depend) → has w.records d ≡ true → same_item d.item item ≡ true → ⊥
    unnoted d there same' =
        let gone = none d.root d.block in
        let here : has w.records (depend item d.root d.block) ≡ true = ap (λ (i : Item). has w.records (depend i d.root d.block)) (sym (same_item_tells d.item item same')) ∙ there in
        cc

    swap : (a b : Bool) → (a && b) ≡ (b && a)
    swap true true = refl
    swap true false = refl
    swap false true = refl
    swap false false = refl

    left : (d : Depend) → has w.records d ≡ (not (same_item d.item item) && has v.records d)
    left d = on (has w.records d) (same_item d.item item) refl refl ∙ forgets.records d
      where
        on : (a b : Bool) → has w.records d ≡ a → same_item d.item item ≡ b → a ≡ (not b && a)
        on true true there same' = absurd (unnoted d there same')
        on true false there same' = refl
        on false true there same' = refl
        on false false there same' = refl

    no_hits : (s : Capability) (p : ℕ) (b : Bool) → list_any (hits w.keys s p item) w.records ≡ b → b ≡ false
    no_hits s p true is = absurd (
        let found = any_has (hits w.keys s p item) w.records is in
        unnoted found.0 found.1.0 (both (same_item found.0.item item) (same_space s (space_at w.keys found.0.root) && holds found.0.block p) found.1.1).0)
    no_hits s p false is = refl

    test : (b : Bool) (x : Option Leaf) → is_some (if b then None else x) ≡ (is_some x && not b)
    test true None = refl
    test true (Some l) = refl
    test false None = refl
    test false (Some l) = refl

    held : (s : Capability) (p : ℕ) (b : Bool) → nat_lt p (2 ^ 20) ≡ b → (b && is_some (leaf_for w s p)) ≡ ((b && is_some (leaf_for v s p)) && not (list_any (is_on s p item) (items (notes_of v.keys v.records))))
    held s p true is =
        let low : p < 2 ^ 20 = grind (arith, nat_tests, is) in
        ap is_some (sym (ap (λ (b : Bool). if b then None else leaf_for w s p) (no_hits s p (list_any (hits w.keys s p item) w.records) refl)) ∙ forgets.leaves s p low)
        ∙ test (list_any (hits v.keys s p item) v.records) (leaf_for v s p)
        ∙ ap (λ (b : Bool). is_some (leaf_for v s p) && not b) (sym (any-items space_coding (space_at v.keys) (is_on s p item) v.records))
    held s p false is = refl

-- and what a hart holds is what the change leaves
pub purged : (v w : CacheValue) (item : Item) → IsCache v.tables v.keys v.tlbs v.records → Forgets v w item → ((root : ℕ) (block : BlockValue) → has w.records (depend item root block) ≡ false)
    → (hart : ℕ) → tlb_at w.tlbs hart ≡ tlb_without (kept_of v) item (tlb_at v.tlbs hart)
purged v w item cache forgets none hart = sym (left-none w item none hart) ∙ (forgets.tlbs hart ∙ left-kept v cache item hart)

-- ---- everything

-- nothing is kept by a cache that was emptied
pub kept-blank : (v : CacheValue) → IsBlank v → kept_of v ≡ nothing
kept-blank v blank = λ i. record {
  held = fun_ext {f = λ s p. nat_lt p (2 ^ 20) && is_some (leaf_for v s p)} {g = λ s p. false} (λ s. fun_ext (λ p. held s p (nat_lt p (2 ^ 20)))) i;
  keys = blank.keys i;
  notes = ap (λ (ds : List Depend). notes_of v.keys ds) blank.records i;
}
  where
    held : (s : Capability) (p : ℕ) (b : Bool) → (b && is_some (leaf_for v s p)) ≡ false
    held s p true = ap is_some (blank-bare v blank s p)
    held s p false = refl

-- an addition after everything was forgotten
pub remembers-anew : (v b w : CacheValue) (hart page : ℕ) (space : Capability) (leaf : Leaf) (reads : List Noted) → fits (added (kept_of v) space page reads) ≡ false → IsBlank b → length b.tlbs ≡ length v.tlbs
    → Keeps b w hart space page leaf reads → Remembers v w hart space page leaf reads
remembers-anew v b w hart page space leaf reads full blank harts keeps = record {
  kept = keeps.kept ∙ ap (λ (k : KeptValue). added k space page reads) (kept-blank b blank) ∙ sym (if-false (fits (added (kept_of v) space page reads)) (added (kept_of v) space page reads) (added nothing space page reads) full);
  coherent = λ o walked coherent. keeps.coherent o walked (starts b o blank);
  held = keeps.held;
  others = λ k differs. keeps.others k differs ∙ blank.tlbs k ∙ sym (if-false (fits (added (kept_of v) space page reads)) (tlb_at v.tlbs k) [] full);
  harts = keeps.harts ∙ harts;
}

-- there is always room for one addition then
pub anew-fits : (b : CacheValue) (space : Capability) (page : ℕ) (reads : List Noted) → IsBlank b → length reads ≤ 66 → fits (added (kept_of b) space page reads) ≡ true
anew-fits b space page reads blank few = ap (λ (k : KeptValue). fits (added k space page reads)) (kept-blank b blank) ∙ fits-alone space page reads few
