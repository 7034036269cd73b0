-- A leaf of a page by its link and its entry; and that the tables have one exactly where the page is held.
use Rattle.std.proofs.Common.{◌≡◌, ℕ, ◌/◌, ◌%◌, ◌^◌, ◌<◌, Bool, true, ◌&&◌, nat_lt, if◌then◌else◌, Option, Some, None, is_some, refl, sym, ap, ◌∙◌, arith}
use Rattle.std.specs.Prelude.{slice_get, IfSome}
use Rattle.std.proofs.lemmas.Bool.Decides.{nat_tests}
use Rattle.std.proofs.lemmas.Option.{none-some}
use Rattle.cap_format.specs.Capability.{Capability}
use Rattle.sv32_tables.specs.declared.leaf.Leaf.{Leaf as Entry}
use Rattle.sv32_tables.specs.Pool.{leaf_below}
use Rattle.sv32_tables.specs.Shared.{IsLeafTable, IsSharedRoot, entry_at, link_at}
use Rattle.shared_leaves.specs.declared.key.Key.{Key}
use Rattle.shared_leaves.specs.Key.{has_key, root_key}
use Rattle.shared_leaves.specs.Kept.{holds_page, is_held}
use Rattle.shared_leaves.specs.Cache.{IsCache, SharedCache, entry_for, entry_in, frame_of, key_at, key_of_link, kept_of, leaf_for, leaf_in, link_for, link_in, root_at}
use Rattle.shared_leaves.proofs.Invariant.{leaf_by, leaf_keyed, leaf_none, root_made}
use Rattle.depend_table.proofs.Coded.{frame_of-is, frame_of-some, has-at, none-frame_of}
use Rattle.shared_leaves.proofs.Codes.{key_coding}

-- where a leaf of a page of a space stands
pub record Stands (v : SharedCache) (space : Capability) (page : ℕ) (leaf : Entry) : Type 0 where
  pub root : ℕ
  pub frame : ℕ
  pub root_is : slice_get v.keys root ≡ Some (root_key space)
  pub made : IsSharedRoot v.tables root
  pub linked : link_at v.tables root (page / 1024) ≡ Some frame
  pub table : IsLeafTable v.tables frame
  pub there : entry_at v.tables frame (page % 1024) ≡ Some leaf

module _ (v : SharedCache) (cache : IsCache v.tables v.keys v.tlbs v.records) where
  pub leaf-stands : (space : Capability) (page : ℕ) (leaf : Entry) → page < 2 ^ 20 → leaf_for v space page ≡ Some leaf → Stands v space page leaf
  leaf-stands space page leaf low found = on (root_at v.keys space) refl found
    where
      inside : page / 1024 < 1024
      inside = omega (arith, low)

      on : (r : Option ℕ) → root_at v.keys space ≡ r → leaf_in v.tables page r ≡ Some leaf → Stands v space page leaf
      on None is found = absurd (none-some leaf found)
      on (Some root) is found = linked (link_at v.tables root (page / 1024)) refl
        where
          at : slice_get v.keys root ≡ Some (root_key space)
          at = frame_of-some key_coding v.keys (root_key space) root is

          made : IsSharedRoot v.tables root
          made = root_made v.tables v.keys v.tlbs v.records cache root space at

          linked : (l : Option ℕ) → link_at v.tables root (page / 1024) ≡ l → Stands v space page leaf
          linked None none = absurd (none-some leaf (sym (leaf_none v.tables root page none) ∙ found))
          linked (Some frame) here = record {
            root = root;
            frame = frame;
            root_is = at;
            made = made;
            linked = here;
            table = cache.linked root (page / 1024) frame made inside here;
            there = sym (leaf_by v.tables root page frame here) ∙ found;
          }

  -- a page is held exactly where the tables have its leaf
  pub held-leaf : (space : Capability) (page : ℕ) → page < 2 ^ 20 → is_held (kept_of v) space page ≡ is_some (leaf_for v space page)
  held-leaf space page low =
      ap (λ (b : Bool). holds_page (kept_of v) (page % 1024) (if b then link_for v space (page / 1024) else None)) region_inside
      ∙ on (root_at v.keys space) refl
    where
      inside : page / 1024 < 1024
      inside = omega (arith, low)

      region_inside : nat_lt (page / 1024) 1024 ≡ true
      region_inside = let less = inside in grind (arith, nat_tests, less)

      place_inside : nat_lt (page % 1024) 1024 ≡ true
      place_inside = let less : page % 1024 < 1024 = omega arith in grind (arith, nat_tests, less)

      linked : (root : ℕ) → IsSharedRoot v.tables root → (l : Option ℕ) → link_at v.tables root (page / 1024) ≡ l
          → holds_page (kept_of v) (page % 1024) (key_of_link v.keys l) ≡ is_some (leaf_below v.tables.words (page % 1024) l)
      linked root made None here = refl
      linked root made (Some frame) here =
          let keyed = leaf_keyed v.tables v.keys v.tlbs v.records cache frame (cache.linked root (page / 1024) frame made inside here) in
          ap (λ (b : Bool). b && is_some (entry_for v (key_at v.keys frame) (page % 1024))) place_inside
          ∙ (ap (λ (b : Bool). is_some (if b then entry_in v.tables (page % 1024) (frame_of v.keys (key_at v.keys frame)) else None)) keyed.1
          ∙ ap (λ (f : Option ℕ). is_some (entry_in v.tables (page % 1024) f)) (frame_of-is key_coding v.keys (key_at v.keys frame) frame cache.apart keyed.0))

      on : (r : Option ℕ) → root_at v.keys space ≡ r → holds_page (kept_of v) (page % 1024) (link_in v.tables v.keys (page / 1024) r) ≡ is_some (leaf_in v.tables page r)
      on None is = refl
      on (Some root) is =
          linked root (root_made v.tables v.keys v.tlbs v.records cache root space (frame_of-some key_coding v.keys (root_key space) root is)) (link_at v.tables root (page / 1024)) refl

  -- the root that was found is one
  pub root-found : (space : Capability) (r : Option ℕ) → r ≡ root_at v.keys space → IfSome r (λ (root : ℕ). IsSharedRoot v.tables root)
  root-found space None is = tt
  root-found space (Some root) is = root_made v.tables v.keys v.tlbs v.records cache root space (frame_of-some key_coding v.keys (root_key space) root (sym is))

  -- a key has a frame exactly where it is among the keys
  pub frame-kept : (k : Key) → is_some (frame_of v.keys k) ≡ has_key v.keys k
  frame-kept k = on (frame_of v.keys k) refl
    where
      on : (r : Option ℕ) → frame_of v.keys k ≡ r → is_some r ≡ has_key v.keys k
      on None is = sym (none-frame_of key_coding v.keys k cache.apart is)
      on (Some f) is = sym (has-at key_coding v.keys f k (frame_of-some key_coding v.keys k f is))
