-- A root's record of an item is taken out, with the links of its block.
use Rattle.std.proofs.Common.{◌≡◌, inl, inr, ℕ, ◌*◌, ◌<◌, Bool, true, false, not, ◌&&◌, ◌||◌, ◌==◌, if◌then◌else◌, List, [], length, Option, Some, None, refl, sym, ap, ◌∙◌, arith}
use Rattle.std.specs.Prelude.{slice_get}
use Rattle.std.specs.List.{list_any}
use Rattle.std.proofs.lemmas.Option.{none-some}
use Rattle.cap_format.specs.Capability.{Capability}
use Rattle.cap_format.specs.declared.item.Item.{Item}
use Rattle.guard_math.specs.Block.{BlockValue, holds}
use Rattle.object_store.specs.Store.{Items}
use Rattle.sv32_tables.specs.declared.leaf.Leaf.{Leaf as Entry}
use Rattle.sv32_tables.specs.declared.shared_use.SharedUse.{SharedUse}
use Rattle.sv32_tables.specs.declared.shared_use.SharedUse.TheVariants.{Root as RootUse, Leaf as LeafUse}
use Rattle.sv32_tables.specs.Shared.{IsLeafTable, IsSharedRoot, SharedValue, link_at}
use Rattle.sv32_tables.specs.SharedHistory.{SameEntries}
use Rattle.tlb_model.specs.declared.entry.Entry.{Entry as TlbEntry}
use Rattle.tlb_model.specs.Tlb.{look}
use Rattle.depend_table.specs.Depend.{Depend, Takes, depend, has, lies_in, same, same_item}
use Rattle.depend_table.proofs.Members.{has-taken, has-taken_cases, same_tells}
use Rattle.map_cache.specs.Cache.{tlb_at}
use Rattle.shared_leaves.specs.declared.key.Key.{Key}
use Rattle.shared_leaves.specs.Key.{is_leaf, root_key, same_key}
use Rattle.shared_leaves.specs.Kept.{covers_note, is_on}
use Rattle.shared_leaves.specs.Cache.{IsCache, cache_of, entry_for, entry_in, frame_of, key_at, key_of_link, link_in, note_of, root_at}
use Rattle.shared_leaves.specs.Coherent.{IsCoherent, IsLink, IsRecorded}
use Rattle.shared_leaves.specs.Effects.{Forgets, entry_left, is_left, link_left}
use Rattle.shared_leaves.proofs.Filed.{Made}
use Rattle.shared_leaves.proofs.Invariant.{alone, leaf_made, root_made}
use Rattle.shared_leaves.proofs.Readings.{entry-map, link-map}
use Rattle.shared_leaves.proofs.Taking.{frame_test, hit, unlike, rooted, item_itself, join, none_left, together, gone, nothing_left}
use Rattle.depend_table.proofs.Coded.{frame_of-some}
use Rattle.depend_table.proofs.Notes.{noted-taken}
use Rattle.depend_table.proofs.Records.{adds-taken, any-added}
use Rattle.depend_table.proofs.Tests.{number_itself}
use Rattle.shared_leaves.proofs.Codes.{key_coding}

module _ (t : SharedValue) (keys : List Key) (tlbs : List (List TlbEntry)) (ds : List Depend) (cache : IsCache t keys tlbs ds) (d : Depend) (there : has ds d ≡ true) where
  abbrev K : Key
  K = key_at keys d.root

  module _ (u : SharedValue) (to : List (List TlbEntry)) (new : List Depend) (takes : Takes ds new d) (root : is_leaf K ≡ false)
      (unlinks : (r i : ℕ) → IsSharedRoot t r → i < 1024 → link_at u r i ≡ (if (r == d.root) && holds d.block (i * 1024) then None else link_at t r i))
      (entries_same : SameEntries t u) (uses : u.uses ≡ t.uses) (dropped : (hart : ℕ) → tlb_at to hart ≡ []) (harts : length to ≡ length tlbs) where
    more : (f : ℕ) (v : SharedUse) → slice_get u.uses f ≡ Some v → slice_get t.uses f ≡ Some v
    more f v at = sym (ap (λ (us : List SharedUse). slice_get us f) uses) ∙ at

    root_there : IsSharedRoot t d.root
    root_there = rooted t keys tlbs ds cache d there root

    any_root : (p : Depend → Bool) → list_any p ds ≡ (p d || list_any p new)
    any_root p = any-added p new ds d (adds-taken ds new d takes)

    links : (s : Capability) (r : ℕ) → r < 1024 → link_left (cache_of u keys to new) d.item s r ≡ link_left (cache_of t keys tlbs ds) d.item s r
    links s r low = on (root_at keys s) refl ∙ ap (λ (b : Bool). if b then None else link_in t keys r (root_at keys s)) (sym (any_root (λ e. is_on (root_key s) (r * 1024) d.item (note_of keys e))))
      where
        later : Bool
        later = list_any (λ e. is_on (root_key s) (r * 1024) d.item (note_of keys e)) new

        choice : (b : Bool) (l : Option ℕ) → key_of_link keys (if b then None else l) ≡ (if b then None else key_of_link keys l)
        choice true l = refl
        choice false l = refl

        on : (q : Option ℕ) → root_at keys s ≡ q → (if later then None else link_in u keys r q) ≡ (if is_on (root_key s) (r * 1024) d.item (note_of keys d) || later then None else link_in t keys r q)
        on None is = none_left later (is_on (root_key s) (r * 1024) d.item (note_of keys d) || later)
        on (Some q) is =
            let at = frame_of-some key_coding keys (root_key s) q is in
            let hits : ((q == d.root) && holds d.block (r * 1024)) ≡ is_on (root_key s) (r * 1024) d.item (note_of keys d) = ap (λ (b : Bool). b && holds d.block (r * 1024)) (frame_test t keys tlbs ds cache d there q (root_key s) at) ∙ sym (hit t keys tlbs ds cache d there (root_key s) (r * 1024)) in
            ap (λ (x : Option Key). if later then None else x)
            (ap (key_of_link keys) (unlinks q r (root_made t keys tlbs ds cache q s at) low ∙ ap (λ (b : Bool). if b then None else link_at t q r) hits) ∙ choice (is_on (root_key s) (r * 1024) d.item (note_of keys d)) (link_at t q r))
            ∙ join (is_on (root_key s) (r * 1024) d.item (note_of keys d)) later (link_in t keys r (Some q))

    entry_same : (k : Key) (j : ℕ) → j < 1024 → entry_for (cache_of u keys to new) k j ≡ entry_for (cache_of t keys tlbs ds) k j
    entry_same k j low = on (is_leaf k) refl (frame_of keys k) refl
      where
        on : (b : Bool) → is_leaf k ≡ b → (f : Option ℕ) → frame_of keys k ≡ f → (if b then entry_in u j f else None) ≡ (if b then entry_in t j f else None)
        on false is f at = refl
        on true is None at = refl
        on true is (Some f) at = entries_same f j (leaf_made t keys tlbs ds cache f k (frame_of-some key_coding keys k f at) is) low

    entries : (k : Key) (j : ℕ) → j < 1024 → entry_left (cache_of u keys to new) d.item k j ≡ entry_left (cache_of t keys tlbs ds) d.item k j
    entries k j low = on (is_leaf k) refl
      where
        later : Bool
        later = list_any (λ e. is_on k j d.item (note_of keys e)) new

        before : Bool
        before = list_any (λ e. is_on k j d.item (note_of keys e)) ds

        on : (b : Bool) → is_leaf k ≡ b → (if later then None else entry_for (cache_of u keys to new) k j) ≡ (if before then None else entry_for (cache_of t keys tlbs ds) k j)
        on false is =
            let here : entry_for (cache_of u keys to new) k j ≡ None = ap (λ (b : Bool). if b then entry_in u j (frame_of keys k) else None) is in
            let there' : entry_for (cache_of t keys tlbs ds) k j ≡ None = ap (λ (b : Bool). if b then entry_in t j (frame_of keys k) else None) is in
            ap (λ (x : Option Entry). if later then None else x) here ∙ (none_left later before ∙ sym (ap (λ (x : Option Entry). if before then None else x) there'))
        on true is =
            let miss : is_on k j d.item (note_of keys d) ≡ false = hit t keys tlbs ds cache d there k j ∙ ap (λ (b : Bool). b && holds d.block j) (unlike t keys tlbs ds cache d there k (λ e. let no' : true ≡ false = sym is ∙ (e ∙ root) in cc)) in
            let same' : before ≡ later = any_root (λ e. is_on k j d.item (note_of keys e)) ∙ ap (λ (b : Bool). b || later) miss in
            (λ i. if sym same' i then None else entry_same k j low i)

    -- records of other frames, and others of this one, stay
    records : (e : Depend) → is_left (cache_of u keys to new) d.item e ≡ is_left (cache_of t keys tlbs ds) d.item e
    records e = on (same d e) refl
      where
        covered : List Depend → Bool
        covered xs = list_any (λ x. covers_note d.item (note_of keys e) (note_of keys x)) xs

        -- a root's record covers no record of a leaf table
        covers_same : (is_leaf (key_at keys e.root) && covered new) ≡ (is_leaf (key_at keys e.root) && covered ds)
        covers_same = leafy (is_leaf (key_at keys e.root)) refl
          where
            leafy : (b : Bool) → is_leaf (key_at keys e.root) ≡ b → (b && covered new) ≡ (b && covered ds)
            leafy false is = refl
            leafy true is =
                let miss : covers_note d.item (note_of keys e) (note_of keys d) ≡ false =
                ap (λ (b : Bool). b && (same_key (key_at keys e.root) K && lies_in e.block d.block)) (item_itself d)
                ∙ ap (λ (b : Bool). b && lies_in e.block d.block) (unlike t keys tlbs ds cache d there (key_at keys e.root) (λ x. let no' : true ≡ false = sym is ∙ (x ∙ root) in cc)) in
                sym (any_root (λ x. covers_note d.item (note_of keys e) (note_of keys x)) ∙ ap (λ (b : Bool). b || covered new) miss)

        on : (b : Bool) → same d e ≡ b → is_left (cache_of u keys to new) d.item e ≡ is_left (cache_of t keys tlbs ds) d.item e
        on true is =
            let item_is : same_item e.item d.item ≡ true = ap (λ (x : Depend). same_item x.item d.item) (sym (same_tells d e is)) ∙ item_itself d in
            gone (has new e) (same_item e.item d.item) (is_leaf (key_at keys e.root) && covered new) item_is ∙ sym (gone (has ds e) (same_item e.item d.item) (is_leaf (key_at keys e.root) && covered ds) item_is)
        on false is =
            let stays' : has new e ≡ has ds e = takes.records e ∙ ap (λ (b : Bool). not b && has ds e) is in
            (λ i. stays' i && (not (same_item e.item d.item) && not (covers_same i)))

    coherent : (o : Items) → IsCoherent (cache_of t keys tlbs ds) o → IsCoherent (cache_of u keys to new) o
    coherent o was = record {
      entries = λ f j e made low at.
          let before = more f LeafUse made in
          entry-map o (key_at keys f) j e (IsRecorded ds f j) (IsRecorded new f j)
          (λ n rec. record { there = kept_leaf f before n.item n.block rec.there; held = rec.held })
          (was.entries f j e before low (sym (entries_same f j before low) ∙ at));
      links = λ r i f made low at. link r i f (more r RootUse made) low ((r == d.root) && holds d.block (i * 1024)) refl (sym (unlinks r i (more r RootUse made) low) ∙ at);
    }
      where
        kept_leaf : (f : ℕ) → IsLeafTable t f → (item : Item) (block : BlockValue) → has ds (depend item f block) ≡ true → has new (depend item f block) ≡ true
        kept_leaf f made item block had = elim (has-taken_cases ds new d (depend item f block) takes had) [
          | inl left ↦ left
          | inr is ↦ absurd (
              let one : f ≡ d.root = ap (λ (x : Depend). x.root) is in
              let both' : Some LeafUse ≡ Some RootUse = sym made ∙ (ap (λ (n : ℕ). slice_get t.uses n) one ∙ root_there) in
              cc)
        ]

        link : (r i f : ℕ) → IsSharedRoot t r → i < 1024 → (b : Bool) → ((r == d.root) && holds d.block (i * 1024)) ≡ b → (if b then None else link_at t r i) ≡ Some f
            → IsLink o (key_at keys r).space i (key_at keys f) (IsRecorded new r (i * 1024))
        link r i f made low true is at = absurd (none-some f at)
        link r i f made low false is at =
            link-map o (key_at keys r).space i (key_at keys f) (IsRecorded ds r (i * 1024)) (IsRecorded new r (i * 1024))
            (λ n rec. record {
              there = elim (has-taken_cases ds new d (depend n.item r n.block) takes rec.there) [
                | inl left ↦ left
                | inr same' ↦ absurd (
                    let one : r ≡ d.root = ap (λ (x : Depend). x.root) same' in
                    let blocks : n.block ≡ d.block = ap (λ (x : Depend). x.block) same' in
                    let hits : ((r == d.root) && holds d.block (i * 1024)) ≡ true = together (r == d.root) (holds d.block (i * 1024)) (ap (λ (m : ℕ). m == d.root) one ∙ number_itself d.root) (ap (λ (b : BlockValue). holds b (i * 1024)) (sym blocks) ∙ rec.held) in
                    cc)
              ];
              held = rec.held;
            })
            (was.links r i f made low at)

    -- what is left when a root's record is taken
    pub root_taken : Made u keys to new (λ v. Forgets (cache_of t keys tlbs ds) v d.item)
    root_taken = record {
      cache = record {
        frames = cache.frames ∙ sym (ap (λ (us : List SharedUse). length us) uses);
        most_keys = cache.most_keys;
        frame = λ f v at. cache.frame f v (more f v at);
        apart = cache.apart;
        linked = λ r i f made low at.
            ap (λ (us : List SharedUse). slice_get us f) uses
            ∙ was_linked r i f (more r RootUse made) low ((r == d.root) && holds d.block (i * 1024)) (sym (unlinks r i (more r RootUse made) low) ∙ at);
        backed = λ hart r p l found. absurd (none-some l (ap (λ (es : List TlbEntry). look es r p) (sym (dropped hart)) ∙ found));
        within = λ e had. cache.within e (has-taken ds new d e takes had);
        noted = noted-taken key_coding (key_at keys) ds new d takes (λ e had same'. alone t keys tlbs ds cache d (cache.within d there) e (has-taken ds new d e takes had) same') cache.noted;
        most_records = let fewer = takes.count in omega (arith, fewer, cache.most_records);
      };
      done = record { keys = refl; links = links; entries = entries; records = records; coherent = coherent; tlbs = λ hart. nothing_left ds new d (tlb_at to hart) (tlb_at tlbs hart) there (dropped hart); harts = harts };
    }
      where
        was_linked : (r i f : ℕ) → IsSharedRoot t r → i < 1024 → (b : Bool) → (if b then None else link_at t r i) ≡ Some f → IsLeafTable t f
        was_linked r i f made low true at = absurd (none-some f at)
        was_linked r i f made low false at = cache.linked r i f made low at
