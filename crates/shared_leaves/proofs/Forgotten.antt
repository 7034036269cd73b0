-- All records of an item are taken out, one after the other.
use Rattle.std.proofs.Common.{◌≡◌, ℕ, ◌*◌, ◌<◌, Bool, true, false, not, ◌&&◌, nat_lt, if◌then◌else◌, List, [], Option, Some, None, is_some, refl, sym, ap, ◌∙◌, arith}
use Rattle.std.specs.List.{list_any}
use Rattle.std.specs.FinSet.{items}
use Rattle.std.proofs.Math.Path.{fun_ext}
use Rattle.std.proofs.lemmas.Bool.Decides.{nat_tests}
use Rattle.cap_format.specs.Capability.{Capability}
use Rattle.cap_format.specs.declared.item.Item.{Item}
use Rattle.guard_math.specs.Block.{BlockValue, holds}
use Rattle.sv32_tables.specs.declared.leaf.Leaf.{Leaf as Entry}
use Rattle.tlb_model.specs.declared.entry.Entry.{Entry as TlbEntry}
use Rattle.depend_table.specs.Depend.{Depend, depend, has, lies_in, same_item}
use Rattle.depend_table.proofs.Members.{same_item_tells}
use Rattle.map_cache.specs.Cache.{tlb_at}
use Rattle.shared_leaves.specs.declared.key.Key.{Key}
use Rattle.shared_leaves.specs.Key.{is_leaf, root_key, same_key}
use Rattle.shared_leaves.specs.Kept.{Note, covers_note, is_on, kept_without, tlb_without}
use Rattle.shared_leaves.specs.Cache.{SharedCache, entry_for, kept_of, key_at, link_for, note_of, notes_of}
use Rattle.shared_leaves.specs.Effects.{Forgets}
use Rattle.shared_leaves.proofs.Taking.{none_left}
use Rattle.depend_table.proofs.Notes.{any-items, notes_of-kept}
use Rattle.depend_table.proofs.Records.{any_has}
use Rattle.depend_table.proofs.Tests.{both}
use Rattle.shared_leaves.proofs.Codes.{key_coding}

-- ---- all records of an item

-- one after the other
pub forgets-more : (v w x : SharedCache) (item : Item) → Forgets v w item → Forgets w x item → Forgets v x item
forgets-more v w x item first second = record {
  keys = second.keys ∙ first.keys;
  links = λ s r low. second.links s r low ∙ first.links s r low;
  entries = λ k j low. second.entries k j low ∙ first.entries k j low;
  records = λ d. second.records d ∙ first.records d;
  coherent = λ o coherent. second.coherent o (first.coherent o coherent);
  tlbs = λ hart. second.tlbs hart ∙ first.tlbs hart;
  harts = second.harts ∙ first.harts;
}

-- where no record of the item is left, what is kept is what the change leaves
module _ (v w : SharedCache) (item : Item) (forgets : Forgets v w item) (none : (root : ℕ) (block : BlockValue) → has w.records (depend item root block) ≡ false) where
  unnoted : (d : Depend) → has w.records d ≡ true → same_item d.item item ≡ true → ⊥
  unnoted d there same' =
      let gone' = none d.root d.block in
      let here : has w.records (depend item d.root d.block) ≡ true = ap (λ (i : Item). has w.records (depend i d.root d.block)) (sym (same_item_tells d.item item same')) ∙ there in
      cc

  -- no test of the item's records holds
  no_hits : (p : Depend → Bool) → ((d : Depend) → p d ≡ true → same_item d.item item ≡ true) → list_any p w.records ≡ false
  no_hits p of = on (list_any p w.records) refl
    where
      on : (b : Bool) → list_any p w.records ≡ b → b ≡ false
      on false is = refl
      on true is = absurd (let found = any_has p w.records is in unnoted found.0 found.1.0 (of found.0 found.1.1))

  first_of : (k : Key) (page : ℕ) (d : Depend) → is_on k page item (note_of w.keys d) ≡ true → same_item d.item item ≡ true
  first_of k page d holds' = (both (same_item d.item item) (same_key k (key_at w.keys d.root) && holds d.block page) holds').0

  link : (s : Capability) (r : ℕ) (b : Bool) → nat_lt r 1024 ≡ b → (if b then link_for w s r else None) ≡ (if list_any (is_on (root_key s) (r * 1024) item) (items (notes_of v.keys v.records)) then None else (if b then link_for v s r else None))
  link s r true is =
      let low : r < 1024 = grind (arith, nat_tests, is) in
      sym (ap (λ (b : Bool). if b then None else link_for w s r) (no_hits (λ d. is_on (root_key s) (r * 1024) item (note_of w.keys d)) (first_of (root_key s) (r * 1024))))
      ∙ (forgets.links s r low ∙ ap (λ (b : Bool). if b then None else link_for v s r) (sym (any-items key_coding (key_at v.keys) (is_on (root_key s) (r * 1024) item) v.records)))
  link s r false is = none_left false (list_any (is_on (root_key s) (r * 1024) item) (items (notes_of v.keys v.records)))

  test : (b : Bool) (x : Option Entry) → is_some (if b then None else x) ≡ (is_some x && not b)
  test true None = refl
  test true (Some l) = refl
  test false None = refl
  test false (Some l) = refl

  held : (k : Key) (j : ℕ) (b : Bool) → nat_lt j 1024 ≡ b → (b && is_some (entry_for w k j)) ≡ ((b && is_some (entry_for v k j)) && not (list_any (is_on k j item) (items (notes_of v.keys v.records))))
  held k j true is =
      let low : j < 1024 = grind (arith, nat_tests, is) in
      ap is_some (sym (ap (λ (b : Bool). if b then None else entry_for w k j) (no_hits (λ d. is_on k j item (note_of w.keys d)) (first_of k j))) ∙ forgets.entries k j low)
      ∙ (test (list_any (λ d. is_on k j item (note_of v.keys d)) v.records) (entry_for v k j)
      ∙ ap (λ (b : Bool). is_some (entry_for v k j) && not b) (sym (any-items key_coding (key_at v.keys) (is_on k j item) v.records)))
  held k j false is = refl

  abbrev stays : Note → Bool
  stays n = not (same_item n.item item) && not (is_leaf n.key && list_any (covers_note item n) (items (notes_of v.keys v.records)))

  left_records : (e : Depend) → has w.records e ≡ (has v.records e && stays (note_of v.keys e))
  left_records e =
      on (has w.records e) refl ∙ (forgets.records e
      ∙ ap (λ (b : Bool). has v.records e && (not (same_item e.item item) && not (is_leaf (key_at v.keys e.root) && b))) (sym (any-items key_coding (key_at v.keys) (covers_note item (note_of v.keys e)) v.records)))
    where
      none_covers : list_any (λ x. covers_note item (note_of w.keys e) (note_of w.keys x)) w.records ≡ false
      none_covers = no_hits (λ x. covers_note item (note_of w.keys e) (note_of w.keys x)) (λ x h. (both (same_item x.item item) (same_key (key_at w.keys e.root) (key_at w.keys x.root) && lies_in e.block x.block) h).0)

      free : (a l : Bool) → a ≡ false → true ≡ (not a && not (l && false))
      free false true e = refl
      free false false e = refl
      free true l e = absurd (cc)

      item_free : has w.records e ≡ true → same_item e.item item ≡ false
      item_free there = case (same_item e.item item) refl
        where
          case : (b : Bool) → same_item e.item item ≡ b → b ≡ false
          case false x = refl
          case true x = absurd (unnoted e there x)

      on : (b : Bool) → has w.records e ≡ b → b ≡ (b && (not (same_item e.item item) && not (is_leaf (key_at w.keys e.root) && list_any (λ x. covers_note item (note_of w.keys e) (note_of w.keys x)) w.records)))
      on false is = refl
      on true is =
          free (same_item e.item item) (is_leaf (key_at w.keys e.root)) (item_free is)
          ∙ ap (λ (b : Bool). not (same_item e.item item) && not (is_leaf (key_at w.keys e.root) && b)) (sym none_covers)

  pub forgotten : kept_of w ≡ kept_without (kept_of v) item
  forgotten = λ i. record {
    keys = forgets.keys i;
    links = fun_ext {f = λ s r. if nat_lt r 1024 then link_for w s r else None} {g = λ s r. if list_any (is_on (root_key s) (r * 1024) item) (items (notes_of v.keys v.records)) then None else (if nat_lt r 1024 then link_for v s r else None)} (λ s. fun_ext (λ r. link s r (nat_lt r 1024) refl)) i;
    held = fun_ext {f = λ k j. nat_lt j 1024 && is_some (entry_for w k j)} {g = λ k j. (nat_lt j 1024 && is_some (entry_for v k j)) && not (list_any (is_on k j item) (items (notes_of v.keys v.records)))} (λ k. fun_ext (λ j. held k j (nat_lt j 1024) refl)) i;
    notes = (ap (λ (ks : List Key). notes_of ks w.records) forgets.keys ∙ notes_of-kept key_coding (key_at v.keys) v.records w.records stays left_records) i;
  }

  -- and what a hart holds is what the change leaves
  pub purged : (hart : ℕ) → tlb_at w.tlbs hart ≡ tlb_without (kept_of v) item (tlb_at v.tlbs hart)
  purged hart =
      let nothing : List TlbEntry = [] in
      sym (ap (λ (b : Bool). if b then nothing else tlb_at w.tlbs hart) (no_hits (λ d. same_item d.item item) (λ d is. is)))
      ∙ (forgets.tlbs hart ∙ ap (λ (b : Bool). if b then nothing else tlb_at v.tlbs hart) (sym (any-items key_coding (key_at v.keys) (λ n. same_item n.item item) v.records)))
