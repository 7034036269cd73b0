-- What a change of an item leaves of the caches of the harts.
use Rattle.std.proofs.Common.{◌≡◌, ℕ, Bool, true, false, not, ◌&&◌, ◌||◌, ◌==◌, if◌then◌else◌, List, [], ◌∷◌, filter, Option, refl, sym, ap, ◌∙◌}
use Rattle.std.specs.List.{list_any}
use Rattle.std.specs.FinSet.{items}
use Rattle.cap_format.specs.declared.item.Item.{Item}
use Rattle.guard_math.specs.Block.{BlockValue, holds}
use Rattle.tlb_model.specs.declared.entry.Entry.{Entry}
use Rattle.tlb_model.specs.Tlb.{without_block}
use Rattle.depend_table.specs.Depend.{Depend, Takes, depend, has, same_block, same_item}
use Rattle.depend_table.proofs.Members.{same_item_tells, same_itself}
use Rattle.depend_table.proofs.Notes.{any-items}
use Rattle.depend_table.proofs.Records.{adds-taken, any-added, any_has, has_any}
use Rattle.depend_table.proofs.Tests.{both, not_true, same_tests}
use Rattle.map_cache.specs.Kept.{is_frame, is_under, tlb_without}
use Rattle.map_cache.specs.Cache.{CacheValue, IsCache, kept_of, note_of, notes_of, space_at, tlb_at}
use Rattle.map_cache.specs.Effects.{takes_out, tlb_left}
use Rattle.map_cache.proofs.Codes.{space_coding}
use Rattle.map_cache.proofs.Invariant.{root_space}
use Rattle.map_cache.proofs.Keyed.{root_at-is}

-- ---- entries that pass tests

-- one test and then another
filter_twice : (p q r : Entry → Bool) → ((e : Entry) → r e ≡ (q e && p e)) → (es : List Entry) → filter p (filter q es) ≡ filter r es
filter_twice p q r both [] = refl
filter_twice p q r both (e ∷ es) = by (q e) (r e) (both e) (filter_twice p q r both es)
  where
    by : (a c : Bool) → c ≡ (a && p e) → filter p (filter q es) ≡ filter r es
        → filter p (if a then e ∷ filter q es else filter q es) ≡ (if c then e ∷ filter r es else filter r es)
    by true c is rest = ap (λ (xs : List Entry). if p e then e ∷ xs else xs) rest ∙ ap (λ (b : Bool). if b then e ∷ filter r es else filter r es) (sym is)
    by false c is rest = rest ∙ ap (λ (b : Bool). if b then e ∷ filter r es else filter r es) (sym is)

-- two tests that are one
filter_same : (p q : Entry → Bool) → ((e : Entry) → p e ≡ q e) → (es : List Entry) → filter p es ≡ filter q es
filter_same p q same [] = refl
filter_same p q same (e ∷ es) =
    ap (λ (xs : List Entry). if p e then e ∷ xs else xs) (filter_same p q same es) ∙ ap (λ (b : Bool). if b then e ∷ filter q es else filter q es) (same e)

-- a test that all pass
filter_all : (p : Entry → Bool) → ((e : Entry) → p e ≡ true) → (es : List Entry) → filter p es ≡ es
filter_all p all [] = refl
filter_all p all (e ∷ es) = ap (λ (b : Bool). if b then e ∷ filter p es else filter p es) (all e) ∙ ap (λ (xs : List Entry). e ∷ xs) (filter_all p all es)

-- ---- one record

-- an item passes the test with itself
pub item_itself : (d : Depend) → same_item d.item d.item ≡ true
item_itself d = (both (same_item d.item d.item) ((d.root == d.root) && same_block d.block d.block) (same_itself d)).0

-- once a record is taken and its block dropped, as much is left as before
pub left-taken : (ds new : List Depend) (d : Depend) → Takes ds new d → (es : List Entry)
    → filter (λ e. not (list_any (takes_out e.root e.page d.item) new)) (without_block es d.root d.block) ≡ filter (λ e. not (list_any (takes_out e.root e.page d.item) ds)) es
left-taken ds new d takes es =
    filter_twice (λ e. not (list_any (takes_out e.root e.page d.item) new)) (λ e. not (e.root == d.root) || not (holds d.block e.page)) (λ e. not (list_any (takes_out e.root e.page d.item) ds)) each es
  where
    split : (x y z : Bool) → not ((x && y) || z) ≡ ((not x || not y) && not z)
    split true true z = refl
    split true false z = refl
    split false y z = refl

    each : (e : Entry) → not (list_any (takes_out e.root e.page d.item) ds) ≡ ((not (e.root == d.root) || not (holds d.block e.page)) && not (list_any (takes_out e.root e.page d.item) new))
    each e =
        ap not (any-added (takes_out e.root e.page d.item) new ds d (adds-taken ds new d takes)
        ∙ ap (λ (b : Bool). (b && ((e.root == d.root) && holds d.block e.page)) || list_any (takes_out e.root e.page d.item) new) (item_itself d))
        ∙ split (e.root == d.root) (holds d.block e.page) (list_any (takes_out e.root e.page d.item) new)

-- ---- all records of an item

-- where no record of the item is left, all entries are
pub left-none : (v : CacheValue) (item : Item) → ((root : ℕ) (block : BlockValue) → has v.records (depend item root block) ≡ false)
    → (hart : ℕ) → tlb_left v item hart ≡ tlb_at v.tlbs hart
left-none v item none hart = filter_all (λ e. not (list_any (takes_out e.root e.page item) v.records)) (λ e. ap not (unread e.root e.page)) (tlb_at v.tlbs hart)
  where
    unread : (root page : ℕ) → list_any (takes_out root page item) v.records ≡ false
    unread root page = not_true (list_any (takes_out root page item) v.records) (λ is.
        let found = any_has (takes_out root page item) v.records is in
        let d = found.0 in
        let same = (both (same_item d.item item) ((root == d.root) && holds d.block page) found.1.1).0 in
        let gone = none d.root d.block in
        let here : has v.records (depend item d.root d.block) ≡ true = ap (λ (i : Item). has v.records (depend i d.root d.block)) (sym (same_item_tells d.item item same)) ∙ found.1.0 in
        cc)

-- what records take out, their notes do
pub left-kept : (v : CacheValue) → IsCache v.tables v.keys v.tlbs v.records → (item : Item) (hart : ℕ) → tlb_left v item hart ≡ tlb_without (kept_of v) item (tlb_at v.tlbs hart)
left-kept v cache item hart =
    filter_same (λ e. not (list_any (takes_out e.root e.page item) v.records)) (λ e. not (list_any (is_under v.keys e.root e.page item) (items (notes_of v.keys v.records))))
    (λ e. ap not (noted e.root e.page)) (tlb_at v.tlbs hart)
  where
    one : (root page : ℕ) (d : Depend) → has v.records d ≡ true → takes_out root page item d ≡ is_under v.keys root page item (note_of v.keys d)
    one root page d there =
        let at = root_at-is v.keys (space_at v.keys d.root) d.root cache.apart (root_space v.tables v.keys v.tlbs v.records cache d.root (cache.roots d there)) in
        ap (λ (f : Option ℕ). same_item d.item item && (is_frame root f && holds d.block page)) (sym at)

    noted : (root page : ℕ) → list_any (takes_out root page item) v.records ≡ list_any (is_under v.keys root page item) (items (notes_of v.keys v.records))
    noted root page =
        same_tests (list_any (takes_out root page item) v.records) (list_any (λ d. is_under v.keys root page item (note_of v.keys d)) v.records)
        (λ is. let found = any_has (takes_out root page item) v.records is in
        has_any (λ d. is_under v.keys root page item (note_of v.keys d)) v.records found.0 found.1.0 (sym (one root page found.0 found.1.0) ∙ found.1.1))
        (λ is. let found = any_has (λ d. is_under v.keys root page item (note_of v.keys d)) v.records is in
        has_any (takes_out root page item) v.records found.0 found.1.0 (one root page found.0 found.1.0 ∙ found.1.1))
        ∙ sym (any-items space_coding (space_at v.keys) (is_under v.keys root page item) v.records)
