-- A leaf table's record of an item is taken out, with the entries of its block and the records that lie in that.
use Rattle.std.proofs.Common.{◌≡◌, ℕ, ◌*◌, ◌<◌, Bool, true, false, not, ◌&&◌, ◌||◌, ◌==◌, if◌then◌else◌, List, [], filter, length, Option, Some, None, refl, sym, ap, ◌∙◌, arith}
use Rattle.std.specs.Prelude.{slice_get}
use Rattle.std.specs.List.{list_any}
use Rattle.std.specs.FinSet.{len}
use Rattle.std.proofs.lemmas.Option.{none-some}
use Rattle.cap_format.specs.Capability.{Capability}
use Rattle.cap_format.specs.declared.item.Item.{Item}
use Rattle.guard_math.specs.Block.{BlockValue, holds}
use Rattle.object_store.specs.Store.{Items}
use Rattle.sv32_tables.specs.declared.leaf.Leaf.{Leaf as Entry}
use Rattle.sv32_tables.specs.declared.shared_use.SharedUse.{SharedUse}
use Rattle.sv32_tables.specs.declared.shared_use.SharedUse.TheVariants.{Root as RootUse, Leaf as LeafUse}
use Rattle.sv32_tables.specs.Shared.{IsLeafTable, IsSharedRoot, SharedValue, entry_at}
use Rattle.sv32_tables.specs.SharedHistory.{ClearsBlock}
use Rattle.tlb_model.specs.declared.entry.Entry.{Entry as TlbEntry}
use Rattle.tlb_model.specs.Tlb.{look}
use Rattle.depend_table.specs.Depend.{Depend, Takes, depend, has, is_within, lies_in, same, same_item}
use Rattle.depend_table.proofs.Members.{has-taken, same_tells}
use Rattle.walk_meaning.specs.declared.noted.Noted.{Noted}
use Rattle.map_cache.specs.Cache.{tlb_at}
use Rattle.shared_leaves.specs.declared.key.Key.{Key}
use Rattle.shared_leaves.specs.Key.{is_leaf, root_key, same_key}
use Rattle.shared_leaves.specs.Kept.{covers_note, is_on}
use Rattle.shared_leaves.specs.Cache.{IsCache, cache_of, entry_for, entry_in, frame_of, key_at, key_of_link, link_for, link_in, note_of, notes_of, root_at}
use Rattle.shared_leaves.specs.Coherent.{IsCoherent, IsEntry, IsRecorded}
use Rattle.shared_leaves.specs.Effects.{Forgets, entry_left, is_left, link_left}
use Rattle.shared_leaves.proofs.Dropped.{has-filter, holds-within, length-filter_most, lies-through, noted-filter}
use Rattle.shared_leaves.proofs.Filed.{Made}
use Rattle.shared_leaves.proofs.Invariant.{alone, leaf_made, root_made, standing}
use Rattle.shared_leaves.proofs.Readings.{entry-map, link-map}
use Rattle.shared_leaves.proofs.Taking.{own, frame_test, hit, unlike, item_itself, join, none_left, together, covered, lies_itself, nothing_left}
use Rattle.depend_table.proofs.Coded.{frame_of-some, key_itself}
use Rattle.depend_table.proofs.Notes.{noted-taken}
use Rattle.depend_table.proofs.Records.{any_has, has_any}
use Rattle.depend_table.proofs.Tests.{both, number_itself, or_left, or_right, same_numbers, same_tests}
use Rattle.shared_leaves.proofs.Codes.{key_coding}

module _ (t : SharedValue) (keys : List Key) (tlbs : List (List TlbEntry)) (ds : List Depend) (cache : IsCache t keys tlbs ds) (d : Depend) (there : has ds d ≡ true) where
  abbrev K : Key
  K = key_at keys d.root

  module _ (u : SharedValue) (to : List (List TlbEntry)) (mid new : List Depend) (takes : Takes ds mid d) (leaf : is_leaf K ≡ true)
      (clears : ClearsBlock t u d.root d.block) (is_new : new ≡ filter (λ e. not (is_within d.root d.block e)) mid)
      (dropped : (hart : ℕ) → tlb_at to hart ≡ []) (harts : length to ≡ length tlbs) where
    still : (f : ℕ) (v : SharedUse) → slice_get u.uses f ≡ Some v → slice_get t.uses f ≡ Some v
    still f v at = sym (ap (λ (us : List SharedUse). slice_get us f) clears.uses) ∙ at

    leaf_there : IsLeafTable t d.root
    leaf_there = leaf_made t keys tlbs ds cache d.root K (own t keys tlbs ds cache d there) leaf

    -- the records that are left
    left : (e : Depend) → has new e ≡ (not (is_within d.root d.block e) && has ds e)
    left e = ap (λ (xs : List Depend). has xs e) is_new ∙ (has-filter (λ x. not (is_within d.root d.block x)) mid e ∙ on (same d e) refl)
      where
        on : (b : Bool) → same d e ≡ b → (not (is_within d.root d.block e) && has mid e) ≡ (not (is_within d.root d.block e) && has ds e)
        on true is =
            let inside : is_within d.root d.block e ≡ true = ap (is_within d.root d.block) (sym (same_tells d e is)) ∙ together (d.root == d.root) (lies_in d.block d.block) (number_itself d.root) (lies_itself d.block) in
            ap (λ (b : Bool). not b && has mid e) inside ∙ sym (ap (λ (b : Bool). not b && has ds e) inside)
        on false is = ap (λ (b : Bool). not (is_within d.root d.block e) && b) (takes.records e ∙ ap (λ (b : Bool). not b && has ds e) is)

    had : (e : Depend) → has new e ≡ true → has ds e ≡ true
    had e h = (both (not (is_within d.root d.block e)) (has ds e) (sym (left e) ∙ h)).1

    -- a test that holds of a record that is gone holds of the one that was taken
    any_left : (p : Depend → Bool) → ((e : Depend) → is_within d.root d.block e ≡ true → p e ≡ true → p d ≡ true) → list_any p ds ≡ (p d || list_any p new)
    any_left p covers = same_tests (list_any p ds) (p d || list_any p new)
        (λ holds'. let found = any_has p ds holds' in on found.0 found.1.0 found.1.1 (is_within d.root d.block found.0) refl)
        (λ holds'. back (p d) refl holds')
      where
        on : (e : Depend) → has ds e ≡ true → p e ≡ true → (b : Bool) → is_within d.root d.block e ≡ b → (p d || list_any p new) ≡ true
        on e was passes' true is = or_left (p d) (list_any p new) (covers e is passes')
        on e was passes' false is = or_right (p d) (list_any p new) (has_any p new e (left e ∙ (ap (λ (b : Bool). not b && has ds e) is ∙ was)) passes')

        back : (b : Bool) → p d ≡ b → (b || list_any p new) ≡ true → list_any p ds ≡ true
        back true is holds' = has_any p ds d there is
        back false is holds' = let found = any_has p new holds' in has_any p ds found.0 (had found.0 found.1.0) found.1.1

    -- a record within the block is of the same key
    within_key : (e : Depend) → is_within d.root d.block e ≡ true → key_at keys e.root ≡ K
    within_key e is = ap (key_at keys) (same_numbers e.root d.root (both (e.root == d.root) (lies_in e.block d.block) is).0)

    within_block : (e : Depend) → is_within d.root d.block e ≡ true → lies_in e.block d.block ≡ true
    within_block e is = (both (e.root == d.root) (lies_in e.block d.block) is).1

    -- a test for a key and a page
    covers_page : (k : Key) (page : ℕ) (e : Depend) → is_within d.root d.block e ≡ true → is_on k page d.item (note_of keys e) ≡ true → is_on k page d.item (note_of keys d) ≡ true
    covers_page k page e is holds' =
        let parts = both (same_item e.item d.item) (same_key k (key_at keys e.root) && holds e.block page) holds' in
        let more = both (same_key k (key_at keys e.root)) (holds e.block page) parts.1 in
        hit t keys tlbs ds cache d there k page ∙ together (same_key k K) (holds d.block page) (ap (same_key k) (sym (within_key e is)) ∙ more.0) (holds-within e.block d.block page (within_block e is) more.1)

    link_same : (s : Capability) (r : ℕ) → r < 1024 → link_for (cache_of u keys to new) s r ≡ link_for (cache_of t keys tlbs ds) s r
    link_same s r low = on (root_at keys s) refl
      where
        on : (q : Option ℕ) → root_at keys s ≡ q → link_in u keys r q ≡ link_in t keys r q
        on None is = refl
        on (Some q) is = ap (key_of_link keys) (clears.links q r (root_made t keys tlbs ds cache q s (frame_of-some key_coding keys (root_key s) q is)) low)

    leaf_links : (s : Capability) (r : ℕ) → r < 1024 → link_left (cache_of u keys to new) d.item s r ≡ link_left (cache_of t keys tlbs ds) d.item s r
    leaf_links s r low =
        let p : Depend → Bool = λ e. is_on (root_key s) (r * 1024) d.item (note_of keys e) in
        let miss : p d ≡ false = hit t keys tlbs ds cache d there (root_key s) (r * 1024) ∙ ap (λ (b : Bool). b && holds d.block (r * 1024)) (unlike t keys tlbs ds cache d there (root_key s) (λ x. let no' : false ≡ true = x ∙ leaf in cc)) in
        let same' : list_any p ds ≡ list_any p new = any_left p (covers_page (root_key s) (r * 1024)) ∙ ap (λ (b : Bool). b || list_any p new) miss in
        (λ i. if sym same' i then None else link_same s r low i)

    leaf_entries : (k : Key) (j : ℕ) → j < 1024 → entry_left (cache_of u keys to new) d.item k j ≡ entry_left (cache_of t keys tlbs ds) d.item k j
    leaf_entries k j low =
        on (is_leaf k) refl (frame_of keys k) refl
        ∙ ap (λ (b : Bool). if b then None else entry_for (cache_of t keys tlbs ds) k j) (sym (any_left (λ e. is_on k j d.item (note_of keys e)) (covers_page k j)))
      where
        later : Bool
        later = list_any (λ e. is_on k j d.item (note_of keys e)) new

        mine : Bool
        mine = is_on k j d.item (note_of keys d)

        on : (b : Bool) → is_leaf k ≡ b → (f : Option ℕ) → frame_of keys k ≡ f
            → (if later then None else (if b then entry_in u j f else None)) ≡ (if mine || later then None else (if b then entry_in t j f else None))
        on false is f at = none_left later (mine || later)
        on true is None at = none_left later (mine || later)
        on true is (Some f) at =
            let here = frame_of-some key_coding keys k f at in
            let hits : ((f == d.root) && holds d.block j) ≡ mine = ap (λ (b : Bool). b && holds d.block j) (frame_test t keys tlbs ds cache d there f k here) ∙ sym (hit t keys tlbs ds cache d there k j) in
            ap (λ (x : Option Entry). if later then None else x) (clears.entries f j (leaf_made t keys tlbs ds cache f k here is) low ∙ ap (λ (b : Bool). if b then None else entry_at t f j) hits)
            ∙ join mine later (entry_at t f j)

    leaf_records : (e : Depend) → is_left (cache_of u keys to new) d.item e ≡ is_left (cache_of t keys tlbs ds) d.item e
    leaf_records e = on (is_within d.root d.block e) refl
      where
        p : Depend → Bool
        p x = covers_note d.item (note_of keys e) (note_of keys x)

        mine : p d ≡ (same_key (key_at keys e.root) K && lies_in e.block d.block)
        mine = ap (λ (b : Bool). b && (same_key (key_at keys e.root) K && lies_in e.block d.block)) (item_itself d)

        covers : (x : Depend) → is_within d.root d.block x ≡ true → p x ≡ true → p d ≡ true
        covers x is holds' =
            let parts = both (same_item x.item d.item) (same_key (key_at keys e.root) (key_at keys x.root) && lies_in e.block x.block) holds' in
            let more = both (same_key (key_at keys e.root) (key_at keys x.root)) (lies_in e.block x.block) parts.1 in
            mine ∙ together (same_key (key_at keys e.root) K) (lies_in e.block d.block) (ap (same_key (key_at keys e.root)) (sym (within_key x is)) ∙ more.0) (lies-through e.block x.block d.block more.1 (within_block x is))

        on : (b : Bool) → is_within d.root d.block e ≡ b → is_left (cache_of u keys to new) d.item e ≡ is_left (cache_of t keys tlbs ds) d.item e
        on true is =
            let gone' : has new e ≡ false = left e ∙ ap (λ (b : Bool). not b && has ds e) is in
            let keyed = within_key e is in
            let yes : p d ≡ true = mine ∙ together (same_key (key_at keys e.root) K) (lies_in e.block d.block) (ap (λ (k : Key). same_key k K) keyed ∙ key_itself key_coding K) (within_block e is) in
            let all : list_any p ds ≡ true = has_any p ds d there yes in
            ap (λ (b : Bool). b && (not (same_item e.item d.item) && not (is_leaf (key_at keys e.root) && list_any p new))) gone'
            ∙ sym (covered (has ds e) (same_item e.item d.item) (is_leaf (key_at keys e.root)) (list_any p ds) (ap is_leaf keyed ∙ leaf) all)
        on false is =
            let stays' : has new e ≡ has ds e = left e ∙ ap (λ (b : Bool). not b && has ds e) is in
            apart (has ds e) refl (λ was. beside was (p d) refl) stays'
          where
            tests : Bool → Bool
            tests b = not (same_item e.item d.item) && not (is_leaf (key_at keys e.root) && b)

            -- a record that is there and not within the block is not covered by the one that was taken
            beside : has ds e ≡ true → (b : Bool) → p d ≡ b → list_any p new ≡ list_any p ds
            beside was false no' = sym (any_left p covers ∙ ap (λ (b : Bool). b || list_any p new) no')
            beside was true inner = absurd (
                let parts = both (same_key (key_at keys e.root) K) (lies_in e.block d.block) (sym mine ∙ inner) in
                let one = frame_test t keys tlbs ds cache d there e.root (key_at keys e.root) (standing t keys tlbs ds cache e.root (cache.within e was)) in
                let inside : is_within d.root d.block e ≡ true = together (e.root == d.root) (lies_in e.block d.block) (one ∙ parts.0) parts.1 in
                cc)

            apart : (b : Bool) → has ds e ≡ b → (has ds e ≡ true → list_any p new ≡ list_any p ds) → has new e ≡ has ds e
                → (has new e && tests (list_any p new)) ≡ (has ds e && tests (list_any p ds))
            apart true was same' stays' = (λ i. stays' i && tests (same' was i))
            apart false was same' stays' =
                ap (λ (b : Bool). b && tests (list_any p new)) (stays' ∙ was) ∙ sym (ap (λ (b : Bool). b && tests (list_any p ds)) was)

    leaf_coherent : (o : Items) → IsCoherent (cache_of t keys tlbs ds) o → IsCoherent (cache_of u keys to new) o
    leaf_coherent o was = record {
      entries = λ f j e made low at. entry f j e (still f LeafUse made) low ((f == d.root) && holds d.block j) refl (sym (clears.entries f j (still f LeafUse made) low) ∙ at);
      links = λ r i f made low at.
          let before = still r RootUse made in
          link-map o (key_at keys r).space i (key_at keys f) (IsRecorded ds r (i * 1024)) (IsRecorded new r (i * 1024))
          (λ n rec. record { there = kept_root r before n.item n.block rec.there; held = rec.held })
          (was.links r i f before low (sym (clears.links r i before low) ∙ at));
    }
      where
        kept_root : (r : ℕ) → IsSharedRoot t r → (item : Item) (block : BlockValue) → has ds (depend item r block) ≡ true → has new (depend item r block) ≡ true
        kept_root r made item block was' = left (depend item r block) ∙ (ap (λ (b : Bool). not b && has ds (depend item r block)) away ∙ was')
          where
            away : is_within d.root d.block (depend item r block) ≡ false
            away = on (r == d.root) refl
              where
                on : (b : Bool) → (r == d.root) ≡ b → (b && lies_in block d.block) ≡ false
                on false e = refl
                on true e = absurd (
                    let one = same_numbers r d.root e in
                    let both' : Some RootUse ≡ Some LeafUse = sym made ∙ (ap (λ (n : ℕ). slice_get t.uses n) one ∙ leaf_there) in
                    cc)

        entry : (f j : ℕ) (e : Entry) → IsLeafTable t f → j < 1024 → (b : Bool) → ((f == d.root) && holds d.block j) ≡ b → (if b then None else entry_at t f j) ≡ Some e
            → IsEntry o (key_at keys f) j e (IsRecorded new f j)
        entry f j e made low true is at = absurd (none-some e at)
        entry f j e made low false is at =
            entry-map o (key_at keys f) j e (IsRecorded ds f j) (IsRecorded new f j)
            (λ n rec. record { there = left (depend n.item f n.block) ∙ (ap (λ (b : Bool). not b && has ds (depend n.item f n.block)) (away n rec) ∙ rec.there); held = rec.held })
            (was.entries f j e made low at)
          where
            away : (n : Noted) → IsRecorded ds f j n → is_within d.root d.block (depend n.item f n.block) ≡ false
            away n rec = on (f == d.root) (lies_in n.block d.block) refl refl
              where
                on : (a b : Bool) → (f == d.root) ≡ a → lies_in n.block d.block ≡ b → (a && b) ≡ false
                on false b x y = refl
                on true false x y = refl
                on true true x y = absurd (
                    let hits : ((f == d.root) && holds d.block j) ≡ true = together (f == d.root) (holds d.block j) x (holds-within n.block d.block j y rec.held) in
                    cc)

    -- what is left when a leaf table's record is taken
    pub leaf_taken : Made u keys to new (λ v. Forgets (cache_of t keys tlbs ds) v d.item)
    leaf_taken = record {
      cache = record {
        frames = cache.frames ∙ sym (ap (λ (us : List SharedUse). length us) clears.uses);
        most_keys = cache.most_keys;
        frame = λ f v at. cache.frame f v (still f v at);
        apart = cache.apart;
        linked = λ r i f made low at.
            ap (λ (us : List SharedUse). slice_get us f) clears.uses ∙ cache.linked r i f (still r RootUse made) low (sym (clears.links r i (still r RootUse made) low) ∙ at);
        backed = λ hart r p l found. absurd (none-some l (ap (λ (es : List TlbEntry). look es r p) (sym (dropped hart)) ∙ found));
        within = λ e h. cache.within e (had e h);
        noted = ap (λ (xs : List Depend). len (notes_of keys xs)) is_new
            ∙ (noted-filter keys (λ e. not (is_within d.root d.block e)) mid (noted-taken key_coding (key_at keys) ds mid d takes (λ e h same'. alone t keys tlbs ds cache d (cache.within d there) e (has-taken ds mid d e takes h) same') cache.noted)
            ∙ sym (ap (λ (xs : List Depend). length xs) is_new));
        most_records = let fewer = takes.count in let long = ap (λ (xs : List Depend). length xs) is_new in let most = length-filter_most (λ e. not (is_within d.root d.block e)) mid in omega (arith, fewer, long, most, cache.most_records);
      };
      done = record { keys = refl; links = leaf_links; entries = leaf_entries; records = leaf_records; coherent = leaf_coherent; tlbs = λ hart. nothing_left ds new d (tlb_at to hart) (tlb_at tlbs hart) there (dropped hart); harts = harts };
    }
