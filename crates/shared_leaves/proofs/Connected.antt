-- A region is linked to a leaf table, and a place of one gets an entry.
use Rattle.std.proofs.Common.{◌≡◌, ◌≢◌, ◌⊎◌, inl, inr, ℕ, ◌*◌, ◌/◌, ◌%◌, ◌<◌, Bool, true, false, ◌&&◌, ◌==◌, if◌then◌else◌, List, [], length, Option, Some, None, refl, sym, ap, ◌∙◌, subst, arith}
use Rattle.std.specs.Prelude.{slice_get}
use Rattle.std.proofs.lemmas.Option.{none-some}
use Rattle.cap_format.specs.Capability.{Capability}
use Rattle.object_store.specs.Store.{Items}
use Rattle.sv32_tables.specs.declared.leaf.Leaf.{Leaf as Entry}
use Rattle.sv32_tables.specs.declared.shared_use.SharedUse.{SharedUse}
use Rattle.sv32_tables.specs.declared.shared_use.SharedUse.TheVariants.{Root as RootUse, Leaf as LeafUse}
use Rattle.sv32_tables.specs.Pool.{leaf_below}
use Rattle.sv32_tables.specs.Shared.{IsLeafTable, IsSharedRoot, SharedValue, entry_at, link_at}
use Rattle.sv32_tables.specs.SharedHistory.{SetsEntry, SetsLink}
use Rattle.tlb_model.specs.declared.entry.Entry.{Entry as TlbEntry}
use Rattle.tlb_model.specs.Tlb.{look}
use Rattle.depend_table.specs.Depend.{Depend}
use Rattle.map_cache.specs.Key.{same_space}
use Rattle.map_cache.specs.Cache.{tlb_at}
use Rattle.shared_leaves.specs.declared.key.Key.{Key}
use Rattle.shared_leaves.specs.Key.{is_leaf, root_key, same_key}
use Rattle.shared_leaves.specs.Kept.{has_no_other}
use Rattle.shared_leaves.specs.Cache.{IsBacked, IsCache, cache_of, entry_for, entry_in, frame_of, key_at, key_of_link, link_for, link_in, root_at}
use Rattle.shared_leaves.specs.Coherent.{IsCoherent, IsEntry, IsLink, IsRecorded}
use Rattle.shared_leaves.specs.Effects.{Connects, SameEntriesFor, SetsPlace}
use Rattle.shared_leaves.proofs.Filed.{Made}
use Rattle.shared_leaves.proofs.Invariant.{leaf_by, leaf_keyed, leaf_made, leaf_none, root_made, root_space}
use Rattle.depend_table.proofs.Coded.{frame_of-is, frame_of-some, key_itself, key_tells, one_key}
use Rattle.depend_table.proofs.Tests.{both, number_itself, same_numbers, same_tests}
use Rattle.map_cache.proofs.Codes.{space_coding}
use Rattle.shared_leaves.proofs.Codes.{key_coding}

-- a choice of links, by their keys
key_choice : (keys : List Key) (b : Bool) (f : ℕ) (l : Option ℕ) → key_of_link keys (if b then Some f else l) ≡ (if b then Some (key_at keys f) else key_of_link keys l)
key_choice keys true f l = refl
key_choice keys false f l = refl

module _ (t : SharedValue) (keys : List Key) (tlbs : List (List TlbEntry)) (ds : List Depend) (cache : IsCache t keys tlbs ds) where
  -- the root of a space is this one where the space is this one's
  root_same : (root q : ℕ) (s : Capability) → IsSharedRoot t root → root_at keys s ≡ Some q → (q == root) ≡ same_space s (key_at keys root).space
  root_same root q s made is = same_tests (q == root) (same_space s (key_at keys root).space)
      (λ e.
      let at = ap (slice_get keys) (sym (same_numbers q root e)) ∙ frame_of-some key_coding keys (root_key s) q is in
      let k = one_key keys root (root_key s) (root_key (key_at keys root).space) at (root_space t keys tlbs ds cache root made) in
      ap (same_space s) (sym (ap (λ (k : Key). k.space) k)) ∙ key_itself space_coding s)
      (λ e.
      let same = key_tells space_coding s (key_at keys root).space e in
      let there = frame_of-is key_coding keys (root_key s) root cache.apart (root_space t keys tlbs ds cache root made ∙ ap (λ (x : Capability). Some (root_key x)) (sym same)) in
      let some : Some q ≡ Some root = sym is ∙ there in
      let one : q ≡ root = cc in
      ap (λ (n : ℕ). n == root) one ∙ number_itself root)

  root_other : (root : ℕ) (s : Capability) → IsSharedRoot t root → root_at keys s ≡ None → same_space s (key_at keys root).space ≡ false
  root_other root s made is = on (same_space s (key_at keys root).space) refl
    where
      on : (b : Bool) → same_space s (key_at keys root).space ≡ b → b ≡ false
      on false e = refl
      on true e =
          let same = key_tells space_coding s (key_at keys root).space e in
          let there = frame_of-is key_coding keys (root_key s) root cache.apart (root_space t keys tlbs ds cache root made ∙ ap (λ (x : Capability). Some (root_key x)) (sym same)) in
          absurd (none-some root (sym is ∙ there))

  -- a region of a root is linked to the key of the leaf table to which the words lead
  leads-there : (root region table : ℕ) → IsSharedRoot t root → link_at t root region ≡ Some table
      → has_no_other (link_for (cache_of t keys tlbs ds) (key_at keys root).space region) (key_at keys table) ≡ true
  leads-there root region table made at =
      ap (λ (r : Option ℕ). has_no_other (link_in t keys region r) (key_at keys table)) (frame_of-is key_coding keys (root_key (key_at keys root).space) root cache.apart (root_space t keys tlbs ds cache root made))
      ∙ (ap (λ (l : Option ℕ). has_no_other (key_of_link keys l) (key_at keys table)) at ∙ key_itself key_coding (key_at keys table))

  -- one that has no link has no other
  leads-nowhere : (root region : ℕ) (key : Key) → IsSharedRoot t root → link_at t root region ≡ None
      → has_no_other (link_for (cache_of t keys tlbs ds) (key_at keys root).space region) key ≡ true
  leads-nowhere root region key made at =
      ap (λ (r : Option ℕ). has_no_other (link_in t keys region r) key) (frame_of-is key_coding keys (root_key (key_at keys root).space) root cache.apart (root_space t keys tlbs ds cache root made))
      ∙ ap (λ (l : Option ℕ). has_no_other (key_of_link keys l) key) at

  -- and one that leads to another table has another
  leads-elsewhere : (root region table f : ℕ) → IsSharedRoot t root → IsLeafTable t table → region < 1024 → link_at t root region ≡ Some f → f ≢ table
      → has_no_other (link_for (cache_of t keys tlbs ds) (key_at keys root).space region) (key_at keys table) ≡ false
  leads-elsewhere root region table f made leaf inside at differs =
      ap (λ (r : Option ℕ). has_no_other (link_in t keys region r) (key_at keys table)) (frame_of-is key_coding keys (root_key (key_at keys root).space) root cache.apart (root_space t keys tlbs ds cache root made))
      ∙ (ap (λ (l : Option ℕ). has_no_other (key_of_link keys l) (key_at keys table)) at ∙ case (same_key (key_at keys f) (key_at keys table)) refl)
    where
      case : (b : Bool) → same_key (key_at keys f) (key_at keys table) ≡ b → b ≡ false
      case false e = refl
      case true e =
          let same = key_tells key_coding (key_at keys f) (key_at keys table) e in
          let here = (leaf_keyed t keys tlbs ds cache f (cache.linked root region f made inside at)).0 in
          let there = (leaf_keyed t keys tlbs ds cache table leaf).0 in
          let one = cache.apart f table (key_at keys table) (here ∙ ap (λ (k : Key). Some k) same) there in
          absurd (differs one)

  module _ (u : SharedValue) (to : List (List TlbEntry)) (root region table : ℕ) (made : IsSharedRoot t root) (leaf : IsLeafTable t table) (inside : region < 1024)
      (sets : SetsLink t u root region (Some table)) where
    more : (f : ℕ) (v : SharedUse) → slice_get u.uses f ≡ Some v → slice_get t.uses f ≡ Some v
    more f v at = sym (ap (λ (us : List SharedUse). slice_get us f) sets.uses) ∙ at

    links : (s : Capability) (r : ℕ) → r < 1024 → link_for (cache_of u keys to ds) s r ≡ (if same_space s (key_at keys root).space && (r == region) then Some (key_at keys table) else link_for (cache_of t keys tlbs ds) s r)
    links s r low = on (root_at keys s) refl
      where
        on : (q : Option ℕ) → root_at keys s ≡ q → link_in u keys r q ≡ (if same_space s (key_at keys root).space && (r == region) then Some (key_at keys table) else link_in t keys r q)
        on None is = sym (ap (λ (b : Bool). if b && (r == region) then Some (key_at keys table) else None) (root_other root s made is))
        on (Some q) is =
            let there = root_made t keys tlbs ds cache q s (frame_of-some key_coding keys (root_key s) q is) in
            ap (key_of_link keys) (sets.links q r there low)
            ∙ (key_choice keys ((q == root) && (r == region)) table (link_at t q r)
            ∙ ap (λ (b : Bool). if b && (r == region) then Some (key_at keys table) else key_of_link keys (link_at t q r)) (root_same root q s made is))

    entries : SameEntriesFor (cache_of t keys tlbs ds) (cache_of u keys to ds)
    entries x j low = on (is_leaf x) refl (frame_of keys x) refl
      where
        on : (b : Bool) → is_leaf x ≡ b → (f : Option ℕ) → frame_of keys x ≡ f → (if b then entry_in u j f else None) ≡ (if b then entry_in t j f else None)
        on false is f at = refl
        on true is None at = refl
        on true is (Some f) at = sets.entries f j (leaf_made t keys tlbs ds cache f x (frame_of-some key_coding keys x f at) is) low

    coherent : (o : Items) → IsLink o (key_at keys root).space region (key_at keys table) (IsRecorded ds root (region * 1024)) → IsCoherent (cache_of t keys tlbs ds) o → IsCoherent (cache_of u keys to ds) o
    coherent o link was = record {
      entries = λ f j e there low at. was.entries f j e (more f LeafUse there) low (sym (sets.entries f j (more f LeafUse there) low) ∙ at);
      links = λ r i f there low at. on r i f (more r RootUse there) low ((r == root) && (i == region)) refl (sym (sets.links r i (more r RootUse there) low) ∙ at);
    }
      where
        on : (r i f : ℕ) → IsSharedRoot t r → i < 1024 → (b : Bool) → ((r == root) && (i == region)) ≡ b → (if b then Some table else link_at t r i) ≡ Some f
            → IsLink o (key_at keys r).space i (key_at keys f) (IsRecorded ds r (i * 1024))
        on r i f there low false is at = was.links r i f there low at
        on r i f there low true is at =
            let parts = both (r == root) (i == region) is in
            let r_is : root ≡ r = sym (same_numbers r root parts.0) in
            let i_is : region ≡ i = sym (same_numbers i region parts.1) in
            let f_is : table ≡ f = cc in
            subst (λ (n : ℕ). IsLink o (key_at keys r).space i (key_at keys n) (IsRecorded ds r (i * 1024))) f_is
            (subst (λ (n : ℕ). IsLink o (key_at keys r).space n (key_at keys table) (IsRecorded ds r (n * 1024))) i_is
            (subst (λ (n : ℕ). IsLink o (key_at keys n).space region (key_at keys table) (IsRecorded ds n (region * 1024))) r_is link))

    -- a region that gets a link, where what the harts hold stands in the tables still
    connects : ((hart r p : ℕ) (l : Entry) → look (tlb_at to hart) r p ≡ Some l → IsBacked u r p l)
        → ((k : ℕ) → tlb_at to k ≡ (if has_no_other (link_for (cache_of t keys tlbs ds) (key_at keys root).space region) (key_at keys table) then tlb_at tlbs k else []))
        → length to ≡ length tlbs → Made u keys to ds (λ v. Connects (cache_of t keys tlbs ds) v (key_at keys root).space root region (key_at keys table) table)
    connects backed others harts = record {
      cache = record {
        frames = cache.frames ∙ sym (ap (λ (us : List SharedUse). length us) sets.uses);
        most_keys = cache.most_keys;
        frame = λ f v at. cache.frame f v (more f v at);
        apart = cache.apart;
        linked = λ r i f there low at.
            ap (λ (us : List SharedUse). slice_get us f) sets.uses
            ∙ on r i f (more r RootUse there) low ((r == root) && (i == region)) (sym (sets.links r i (more r RootUse there) low) ∙ at);
        backed = backed;
        within = cache.within;
        noted = cache.noted;
        most_records = cache.most_records;
      };
      done = record {
        linked = sets.links root region made inside ∙ itself;
        keys = refl;
        records = refl;
        links = links;
        entries = entries;
        coherent = coherent;
        others = others;
        harts = harts;
      };
    }
      where
        itself : (if (root == root) && (region == region) then Some table else link_at t root region) ≡ Some table
        itself = rw (number_itself root, number_itself region) refl

        on : (r i f : ℕ) → IsSharedRoot t r → i < 1024 → (b : Bool) → (if b then Some table else link_at t r i) ≡ Some f → IsLeafTable t f
        on r i f there low true at = let same : table ≡ f = cc in subst (λ (n : ℕ). IsLeafTable t n) same leaf
        on r i f there low false at = cache.linked r i f there low at

    -- one that had another link, where no hart holds anything
    pub connected : ((hart : ℕ) → tlb_at to hart ≡ []) → length to ≡ length tlbs → (f : ℕ) → link_at t root region ≡ Some f → f ≢ table
        → Made u keys to ds (λ v. Connects (cache_of t keys tlbs ds) v (key_at keys root).space root region (key_at keys table) table)
    connected dropped harts f at differs = connects
        (λ hart r p l found. absurd (none-some l (ap (λ (es : List TlbEntry). look es r p) (sym (dropped hart)) ∙ found)))
        (λ k. dropped k ∙ sym (ap (λ (b : Bool). if b then tlb_at tlbs k else []) (leads-elsewhere root region table f made leaf inside at differs)))
        harts

    -- one that had none: no hart holds a page of it
    pub connected-first : to ≡ tlbs → link_at t root region ≡ None
        → Made u keys to ds (λ v. Connects (cache_of t keys tlbs ds) v (key_at keys root).space root region (key_at keys table) table)
    connected-first same bare = connects
        (λ hart r p l found. still r p l (cache.backed hart r p l (ap (λ (ts : List (List TlbEntry)). look (tlb_at ts hart) r p) (sym same) ∙ found)))
        (λ k. ap (λ (ts : List (List TlbEntry)). tlb_at ts k) same ∙ sym (ap (λ (b : Bool). if b then tlb_at tlbs k else []) (leads-nowhere root region (key_at keys table) made bare)))
        (ap (λ (ts : List (List TlbEntry)). length ts) same)
      where
        still : (r p : ℕ) (l : Entry) → IsBacked t r p l → IsBacked u r p l
        still r p l was =
            let low : p / 1024 < 1024 = let inside' = was.inside in omega (arith, inside') in
            record {
              made = ap (λ (us : List SharedUse). slice_get us r) sets.uses ∙ was.made;
              inside = was.inside;
              there = ap (λ (k : Option ℕ). leaf_below u.words (p % 1024) k) (sets.links r (p / 1024) was.made low)
                  ∙ on low ((r == root) && (p / 1024 == region)) refl (link_at t r (p / 1024)) refl was.there;
            }
          where
            on : p / 1024 < 1024 → (b : Bool) → ((r == root) && (p / 1024 == region)) ≡ b → (k : Option ℕ) → link_at t r (p / 1024) ≡ k → leaf_below t.words (p % 1024) (link_at t r (p / 1024)) ≡ Some l
                → leaf_below u.words (p % 1024) (if b then Some table else link_at t r (p / 1024)) ≡ Some l
            on low true e k is there =
                let parts = both (r == root) (p / 1024 == region) e in
                let none : link_at t r (p / 1024) ≡ None =
                ap (λ (n : ℕ). link_at t n (p / 1024)) (same_numbers r root parts.0) ∙ (ap (λ (n : ℕ). link_at t root n) (same_numbers (p / 1024) region parts.1) ∙ bare) in
                absurd (none-some l (sym (ap (λ (k : Option ℕ). leaf_below t.words (p % 1024) k) none) ∙ there))
            on low false e None is there = absurd (none-some l (sym (ap (λ (k : Option ℕ). leaf_below t.words (p % 1024) k) is) ∙ there))
            on low false e (Some f) is there =
                ap (λ (k : Option ℕ). leaf_below u.words (p % 1024) k) is
                ∙ (sets.entries f (p % 1024) (cache.linked r (p / 1024) f was.made low is) (omega arith)
                ∙ (sym (ap (λ (k : Option ℕ). leaf_below t.words (p % 1024) k) is) ∙ there))

  -- a region that has the link
  pub connected-there : (root region table : ℕ) → IsSharedRoot t root → region < 1024 → link_at t root region ≡ Some table
      → Connects (cache_of t keys tlbs ds) (cache_of t keys tlbs ds) (key_at keys root).space root region (key_at keys table) table
  connected-there root region table made inside at = record {
    linked = at;
    keys = refl;
    records = refl;
    links = λ s r low. on s r (root_at keys s) refl;
    entries = λ x j low. refl;
    coherent = λ o link was. was;
    others = λ k. sym (ap (λ (b : Bool). if b then tlb_at tlbs k else []) (leads-there root region table made at));
    harts = refl;
  }
    where
      on : (s : Capability) (r : ℕ) (q : Option ℕ) → root_at keys s ≡ q → link_in t keys r q ≡ (if same_space s (key_at keys root).space && (r == region) then Some (key_at keys table) else link_in t keys r q)
      on s r None is = sym (ap (λ (b : Bool). if b && (r == region) then Some (key_at keys table) else None) (root_other root s made is))
      on s r (Some q) is =
          case ((q == root) && (r == region)) refl
          ∙ ap (λ (b : Bool). if b && (r == region) then Some (key_at keys table) else link_in t keys r (Some q)) (root_same root q s made is)
        where
          case : (b : Bool) → ((q == root) && (r == region)) ≡ b → link_in t keys r (Some q) ≡ (if b then Some (key_at keys table) else link_in t keys r (Some q))
          case false e = refl
          case true e =
              let parts = both (q == root) (r == region) e in
              ap (key_of_link keys) ((λ i. link_at t (same_numbers q root parts.0 i) (same_numbers r region parts.1 i)) ∙ at)

  module _ (u : SharedValue) (table place : ℕ) (entry : Entry) (leaf : IsLeafTable t table) (inside : place < 1024) (sets : SetsEntry t u table place entry)
      (agrees : (e : Entry) → entry_at t table place ≡ Some e → e ≡ entry) where
    still : (f : ℕ) (v : SharedUse) → slice_get u.uses f ≡ Some v → slice_get t.uses f ≡ Some v
    still f v at = sym (ap (λ (us : List SharedUse). slice_get us f) sets.uses) ∙ at

    -- an entry that was there is there
    stays : (f j : ℕ) (e : Entry) → IsLeafTable t f → j < 1024 → entry_at t f j ≡ Some e → entry_at u f j ≡ Some e
    stays f j e there low at = sets.entries f j there low ∙ on ((f == table) && (j == place)) refl
      where
        on : (b : Bool) → ((f == table) && (j == place)) ≡ b → (if b then Some entry else entry_at t f j) ≡ Some e
        on false is = at
        on true is =
            let parts = both (f == table) (j == place) is in
            let here : entry_at t table place ≡ Some e = (λ i. entry_at t (sym (same_numbers f table parts.0) i) (sym (same_numbers j place parts.1) i)) ∙ at in
            ap (λ (x : Entry). Some x) (sym (agrees e here))

    backed : (hart r p : ℕ) (l : Entry) → look (tlb_at tlbs hart) r p ≡ Some l → IsBacked u r p l
    backed hart r p l found = on (link_at t r (p / 1024)) refl
      where
        was : IsBacked t r p l
        was = cache.backed hart r p l found

        region : p / 1024 < 1024
        region = let low = was.inside in omega (arith, low)

        on : (k : Option ℕ) → link_at t r (p / 1024) ≡ k → IsBacked u r p l
        on None is = absurd (none-some l (sym (leaf_none t r p is) ∙ was.there))
        on (Some f) is = record {
          made = ap (λ (us : List SharedUse). slice_get us r) sets.uses ∙ was.made;
          inside = was.inside;
          there =
              leaf_by u r p f (sets.links r (p / 1024) was.made region ∙ is)
              ∙ stays f (p % 1024) l (cache.linked r (p / 1024) f was.made region is) (omega arith) (sym (leaf_by t r p f is) ∙ was.there);
        }

    places : (x : Key) (j : ℕ) → j < 1024 → entry_for (cache_of u keys tlbs ds) x j ≡ (if same_key x (key_at keys table) && (j == place) then Some entry else entry_for (cache_of t keys tlbs ds) x j)
    places x j low = on (is_leaf x) refl (frame_of keys x) refl
      where
        here : (slice_get keys table ≡ Some (key_at keys table)) × (is_leaf (key_at keys table) ≡ true)
        here = leaf_keyed t keys tlbs ds cache table leaf

        apart : (is_leaf x ≡ false) ⊎ (frame_of keys x ≡ None) → same_key x (key_at keys table) ≡ false
        apart why = case (same_key x (key_at keys table)) refl
          where
            case : (b : Bool) → same_key x (key_at keys table) ≡ b → b ≡ false
            case false e = refl
            case true e =
                let same = key_tells key_coding x (key_at keys table) e in
                absurd (elim why [
                  | inl unlike ↦ let yes : is_leaf x ≡ true = ap is_leaf same ∙ here.1 in cc
                  | inr gone ↦ none-some table (sym gone ∙ frame_of-is key_coding keys x table cache.apart (here.0 ∙ ap (λ (k : Key). Some k) (sym same)))
                ])

        on : (b : Bool) → is_leaf x ≡ b → (f : Option ℕ) → frame_of keys x ≡ f
            → (if b then entry_in u j f else None) ≡ (if same_key x (key_at keys table) && (j == place) then Some entry else (if b then entry_in t j f else None))
        on false is f at = sym (ap (λ (b : Bool). if b && (j == place) then Some entry else None) (apart (inl is)))
        on true is None at = sym (ap (λ (b : Bool). if b && (j == place) then Some entry else None) (apart (inr at)))
        on true is (Some f) at =
            let there = frame_of-some key_coding keys x f at in
            let one : (f == table) ≡ same_key x (key_at keys table) = same_tests (f == table) (same_key x (key_at keys table))
            (λ e.
            let k = one_key keys table x (key_at keys table) (ap (slice_get keys) (sym (same_numbers f table e)) ∙ there) here.0 in
            ap (same_key x) (sym k) ∙ key_itself key_coding x)
            (λ e.
            let same = key_tells key_coding x (key_at keys table) e in
            let f_is = cache.apart f table x there (here.0 ∙ ap (λ (k : Key). Some k) (sym same)) in
            ap (λ (n : ℕ). n == table) f_is ∙ number_itself table) in
            sets.entries f j (leaf_made t keys tlbs ds cache f x there is) low
            ∙ ap (λ (b : Bool). if b && (j == place) then Some entry else entry_at t f j) one

    -- a place that gets an entry
    pub placed : Made u keys tlbs ds (λ v. SetsPlace (cache_of t keys tlbs ds) v (key_at keys table) table place entry)
    placed = record {
      cache = record {
        frames = cache.frames ∙ sym (ap (λ (us : List SharedUse). length us) sets.uses);
        most_keys = cache.most_keys;
        frame = λ f v at. cache.frame f v (still f v at);
        apart = cache.apart;
        linked = λ r i f there low at.
            ap (λ (us : List SharedUse). slice_get us f) sets.uses ∙ cache.linked r i f (still r RootUse there) low (sym (sets.links r i (still r RootUse there) low) ∙ at);
        backed = backed;
        within = cache.within;
        noted = cache.noted;
        most_records = cache.most_records;
      };
      done = record {
        there = sets.entries table place leaf inside ∙ itself;
        keys = refl;
        records = refl;
        tlbs = refl;
        links = λ s r low. same_link s r low (root_at keys s) refl;
        same_links = sets.links;
        entries = places;
        coherent = λ o fresh was. record {
          entries = λ f j e there low at. on o fresh was f j e (still f LeafUse there) low ((f == table) && (j == place)) refl (sym (sets.entries f j (still f LeafUse there) low) ∙ at);
          links = λ r i f there low at. was.links r i f (still r RootUse there) low (sym (sets.links r i (still r RootUse there) low) ∙ at);
        };
      };
    }
      where
        itself : (if (table == table) && (place == place) then Some entry else entry_at t table place) ≡ Some entry
        itself = rw (number_itself table, number_itself place) refl

        same_link : (s : Capability) (r : ℕ) → r < 1024 → (q : Option ℕ) → root_at keys s ≡ q → link_in u keys r q ≡ link_in t keys r q
        same_link s r low None is = refl
        same_link s r low (Some q) is = ap (key_of_link keys) (sets.links q r (root_made t keys tlbs ds cache q s (frame_of-some key_coding keys (root_key s) q is)) low)

        on : (o : Items) → IsEntry o (key_at keys table) place entry (IsRecorded ds table place) → IsCoherent (cache_of t keys tlbs ds) o
            → (f j : ℕ) (e : Entry) → IsLeafTable t f → j < 1024 → (b : Bool) → ((f == table) && (j == place)) ≡ b → (if b then Some entry else entry_at t f j) ≡ Some e
            → IsEntry o (key_at keys f) j e (IsRecorded ds f j)
        on o fresh was f j e there low false is at = was.entries f j e there low at
        on o fresh was f j e there low true is at =
            let parts = both (f == table) (j == place) is in
            let f_is : table ≡ f = sym (same_numbers f table parts.0) in
            let j_is : place ≡ j = sym (same_numbers j place parts.1) in
            let e_is : entry ≡ e = cc in
            subst (λ (x : Entry). IsEntry o (key_at keys f) j x (IsRecorded ds f j)) e_is
            (subst (λ (n : ℕ). IsEntry o (key_at keys f) n entry (IsRecorded ds f n)) j_is
            (subst (λ (n : ℕ). IsEntry o (key_at keys n) place entry (IsRecorded ds n place)) f_is fresh))
