-- What is always true of the parts: what it tells of frames, and after each change of one part.
use Rattle.std.proofs.Common.{◌≡◌, ◌≢◌, inl, inr, ℕ, ◌<◌, ◌≤◌, ◌/◌, ◌%◌, true, false, List, [], ◌∷◌, ◌++◌, length, length-append, Option, Some, None, refl, sym, ap, ◌∙◌, subst, arith}
use Rattle.std.specs.Prelude.{slice_get}
use Rattle.std.specs.FinSet.{FinSet, len}
use Rattle.std.proofs.lemmas.Option.{none-some, slice_get-get_or, slice_get_within}
use Rattle.cap_format.specs.Capability.{Capability}
use Rattle.sv32_tables.specs.declared.leaf.Leaf.{Leaf as Entry}
use Rattle.sv32_tables.specs.declared.shared_use.SharedUse.{SharedUse}
use Rattle.sv32_tables.specs.declared.shared_use.SharedUse.TheVariants.{Root as RootUse, Leaf as LeafUse}
use Rattle.sv32_tables.specs.Pool.{leaf_below}
use Rattle.sv32_tables.specs.Shared.{IsLeafTable, IsSharedRoot, SharedValue, entry_at, link_at, shared_leaf_at, shared_of}
use Rattle.sv32_tables.specs.SharedHistory.{MakesFrame}
use Rattle.sv32_tables.proofs.Uses.{slice_get-more, slice_get-push, slice_get-push_new}
use Rattle.tlb_model.specs.declared.entry.Entry.{Entry as TlbEntry}
use Rattle.tlb_model.specs.Tlb.{IsTlb, filled, look}
use Rattle.tlb_model.specs.Laws.{FillLaw}
use Rattle.depend_table.specs.Depend.{Adds, Depend, has}
use Rattle.depend_table.proofs.Members.{has-added_cases}
use Rattle.map_cache.specs.Cache.{tlb_at}
use Rattle.shared_leaves.specs.declared.key.Key.{Key}
use Rattle.shared_leaves.specs.declared.key.Table.{Table}
use Rattle.shared_leaves.specs.declared.key.Table.TheVariants.{Producer, Region, Root}
use Rattle.shared_leaves.specs.Key.{has_entries, has_key, is_leaf, no_key, root_key}
use Rattle.shared_leaves.specs.Kept.{Note}
use Rattle.shared_leaves.specs.Cache.{HasUse, IsBacked, IsCache, key_at}
use Rattle.shared_leaves.specs.Effects.{use_of}
use Rattle.shared_leaves.proofs.Keyed.{HasUse-more, key_at-at}
use Rattle.shared_leaves.proofs.Keyed.{notes_of-more}
use Rattle.depend_table.proofs.Coded.{apart-more, one_key}
use Rattle.depend_table.proofs.Notes.{IsAlone, noted-added}
use Rattle.depend_table.proofs.Tests.{one_or_not}
use Rattle.shared_leaves.proofs.Codes.{key_coding}

-- links, entries and leaves go by the words alone
pub link_at-words : (t u : SharedValue) (r i : ℕ) → u.words ≡ t.words → link_at u r i ≡ link_at t r i
link_at-words t u r i same = ap (λ (ws : List ℕ). link_at (shared_of ws []) r i) same

pub entry_at-words : (t u : SharedValue) (f j : ℕ) → u.words ≡ t.words → entry_at u f j ≡ entry_at t f j
entry_at-words t u f j same = ap (λ (ws : List ℕ). entry_at (shared_of ws []) f j) same

pub shared_leaf_at-words : (t u : SharedValue) (r p : ℕ) → u.words ≡ t.words → shared_leaf_at u r p ≡ shared_leaf_at t r p
shared_leaf_at-words t u r p same = ap (λ (ws : List ℕ). shared_leaf_at (shared_of ws []) r p) same

-- a leaf by the link and the entry
pub leaf_by : (t : SharedValue) (r p f : ℕ) → link_at t r (p / 1024) ≡ Some f → shared_leaf_at t r p ≡ entry_at t f (p % 1024)
leaf_by t r p f linked = ap (λ (l : Option ℕ). leaf_below t.words (p % 1024) l) linked

pub leaf_none : (t : SharedValue) (r p : ℕ) → link_at t r (p / 1024) ≡ None → shared_leaf_at t r p ≡ None
leaf_none t r p none = ap (λ (l : Option ℕ). leaf_below t.words (p % 1024) l) none

-- the use of the frame where a key stands
pub HasUse-at : (keys : List Key) (k : Key) (f : ℕ) → slice_get keys f ≡ Some k → HasUse keys f (use_of k)
HasUse-at keys k f at = on k.table refl
  where
    on : (t : Table) → k.table ≡ t → HasUse keys f (use_of k)
    on Root e =
        let same : k ≡ root_key k.space = λ i. record { space = k.space; table = e i } in
        let use' : use_of k ≡ RootUse = ap (λ (x : Key). use_of x) same in
        subst (λ (u : SharedUse). HasUse keys f u) (sym use') (k.space, at ∙ ap (λ (x : Key). Some x) same)
    on (Region r) e =
        let same : k ≡ record { space = k.space; table = Region r } = λ i. record { space = k.space; table = e i } in
        let use' : use_of k ≡ LeafUse = ap (λ (x : Key). use_of x) same in
        subst (λ (u : SharedUse). HasUse keys f u) (sym use') (k, at, ap has_entries e)
    on (Producer p) e =
        let same : k ≡ record { space = k.space; table = Producer p } = λ i. record { space = k.space; table = e i } in
        let use' : use_of k ≡ LeafUse = ap (λ (x : Key). use_of x) same in
        subst (λ (u : SharedUse). HasUse keys f u) (sym use') (k, at, ap has_entries e)

module _ (t : SharedValue) (keys : List Key) (tlbs : List (List TlbEntry)) (ds : List Depend) (cache : IsCache t keys tlbs ds) where
  -- a root's key is that of its space
  pub root_space : (r : ℕ) → IsSharedRoot t r → slice_get keys r ≡ Some (root_key (key_at keys r).space)
  root_space r made =
      let key = cache.frame r RootUse made in
      key.1 ∙ ap (λ (k : Key). Some (root_key k.space)) (sym (key_at-at keys r (root_key key.0) key.1))

  -- a leaf table's key is one of leaf tables
  pub leaf_keyed : (f : ℕ) → IsLeafTable t f → (slice_get keys f ≡ Some (key_at keys f)) × (is_leaf (key_at keys f) ≡ true)
  leaf_keyed f made =
      let key = cache.frame f LeafUse made in
      let same = key_at-at keys f key.0 key.1 in
      (key.1 ∙ ap (λ (k : Key). Some k) (sym same), ap is_leaf same ∙ key.2)

  -- where a key stands there is a frame of its use
  pub used : (f : ℕ) (k : Key) → slice_get keys f ≡ Some k → (u : SharedUse) × (slice_get t.uses f ≡ Some u)
  used f k at = on (slice_get t.uses f) refl
    where
      on : (u : Option SharedUse) → slice_get t.uses f ≡ u → (u : SharedUse) × (slice_get t.uses f ≡ Some u)
      on None is =
          let within = slice_get_within keys f k at in
          let some = slice_get-get_or t.uses f RootUse (omega (arith, within, cache.frames)) in
          absurd (cc)
      on (Some u) is = (u, is)

  pub root_made : (r : ℕ) (space : Capability) → slice_get keys r ≡ Some (root_key space) → IsSharedRoot t r
  root_made r space at = let found = used r (root_key space) at in on found.0 found.1
    where
      on : (u : SharedUse) → slice_get t.uses r ≡ Some u → slice_get t.uses r ≡ Some RootUse
      on RootUse is = is
      on LeafUse is =
          let key = cache.frame r LeafUse is in
          let one = one_key keys r (root_key space) key.0 at key.1 in
          absurd (let no : false ≡ true = ap is_leaf one ∙ key.2 in cc)

  pub leaf_made : (f : ℕ) (k : Key) → slice_get keys f ≡ Some k → is_leaf k ≡ true → IsLeafTable t f
  leaf_made f k at leaf = let found = used f k at in on found.0 found.1
    where
      on : (u : SharedUse) → slice_get t.uses f ≡ Some u → slice_get t.uses f ≡ Some LeafUse
      on LeafUse is = is
      on RootUse is =
          let key = cache.frame f RootUse is in
          let one = one_key keys f k (root_key key.0) at key.1 in
          absurd (let no : true ≡ false = sym leaf ∙ ap is_leaf one in cc)

  -- what stands at a frame in use
  pub standing : (f : ℕ) → f < length keys → slice_get keys f ≡ Some (key_at keys f)
  standing f less = slice_get-get_or keys f no_key less

  -- each record of a frame has a note of its own
  pub alone : (d : Depend) → d.root < length keys → IsAlone (key_at keys) ds d
  alone d less e there same =
      let keyed : key_at keys e.root ≡ key_at keys d.root = ap (λ (n : Note). n.key) same in
      let roots = cache.apart e.root d.root (key_at keys d.root) (standing e.root (cache.within e there) ∙ ap (λ (k : Key). Some k) keyed) (standing d.root less) in
      λ i. record { item = ap (λ (n : Note). n.item) same i; root = roots i; block = ap (λ (n : Note). n.block) same i }

  -- a new frame
  pub cache-frame : (u : SharedValue) (frame : ℕ) (k : Key) → MakesFrame t u (use_of k) frame → has_key keys k ≡ false → length keys < 256
      → IsCache u (keys ++ k ∷ []) tlbs ds
  cache-frame u frame k makes new room = record {
    frames = omega (arith, length-append keys (k ∷ []), ap (λ (us : List SharedUse). length us) makes.uses, length-append t.uses (use_of k ∷ []), cache.frames);
    most_keys = omega (arith, length-append keys (k ∷ []), room);
    frame = λ f v at. elim (slice_get-push t.uses (use_of k) f v (sym (ap (λ (us : List SharedUse). slice_get us f) makes.uses) ∙ at)) [
      | inl old ↦ HasUse-more keys k f v (cache.frame f v old)
      | inr last ↦
          let here : f ≡ length keys = last.0 ∙ sym cache.frames in
          subst (λ (v : SharedUse). HasUse (keys ++ k ∷ []) f v) last.1 (HasUse-at (keys ++ k ∷ []) k f (ap (slice_get (keys ++ k ∷ [])) here ∙ slice_get-push_new keys k))
    ];
    apart = apart-more key_coding keys k cache.apart new;
    linked = λ r i f made inside at. elim (slice_get-push t.uses (use_of k) r RootUse (sym (ap (λ (us : List SharedUse). slice_get us r) makes.uses) ∙ made)) [
      | inl old ↦ more f LeafUse (cache.linked r i f old inside (sym (link_at-words t u r i makes.words) ∙ at))
      | inr last ↦
          let one : r ≡ frame = last.0 ∙ sym makes.number in
          absurd (none-some f (sym (ap (λ (x : ℕ). link_at u x i) one ∙ makes.bare_root i inside) ∙ at))
    ];
    backed = λ hart r p leaf found.
        let was = cache.backed hart r p leaf found in
        record { made = more r RootUse was.made; inside = was.inside; there = shared_leaf_at-words t u r p makes.words ∙ was.there };
    within = λ d there. let less = cache.within d there in omega (arith, less, length-append keys (k ∷ []));
    noted = ap (λ (s : FinSet _). len s) (notes_of-more keys k ds cache.within) ∙ cache.noted;
    most_records = cache.most_records;
  }
    where
      more : (f : ℕ) (v : SharedUse) → slice_get t.uses f ≡ Some v → slice_get u.uses f ≡ Some v
      more f v made = ap (λ (us : List SharedUse). slice_get us f) makes.uses ∙ slice_get-more t.uses (use_of k) f v made

  -- a record more
  pub cache-note : (new : List Depend) (d : Depend) → Adds ds new d → d.root < length keys → length new ≤ 16384 → IsCache t keys tlbs new
  cache-note new d adds less room = record {
    frames = cache.frames;
    most_keys = cache.most_keys;
    frame = cache.frame;
    apart = cache.apart;
    linked = cache.linked;
    backed = cache.backed;
    within = λ e there. elim (has-added_cases ds new d e adds there) [
      | inl was ↦ cache.within e was
      | inr is ↦ subst (λ (x : Depend). x.root < length keys) (sym is) less
    ];
    noted = noted-added key_coding (key_at keys) ds new d adds (alone d less) cache.noted;
    most_records = room;
  }

  -- a hart holds a leaf of the tables
  pub cache-fill : FillLaw → (to : List (List TlbEntry)) (hart root page : ℕ) (leaf : Entry) → IsBacked t root page leaf → IsTlb (tlb_at tlbs hart)
      → tlb_at to hart ≡ filled (tlb_at tlbs hart) root page leaf → ((k : ℕ) → k ≢ hart → tlb_at to k ≡ tlb_at tlbs k) → IsCache t keys to ds
  cache-fill law to hart root page leaf has is own others = record {
    frames = cache.frames;
    most_keys = cache.most_keys;
    frame = cache.frame;
    apart = cache.apart;
    linked = cache.linked;
    backed = λ k r p l found. elim (one_or_not k hart) [
      | inl same ↦
          let here : look (filled (tlb_at tlbs hart) root page leaf) r p ≡ Some l = ap (λ (es : List TlbEntry). look es r p) (sym own) ∙ ap (λ (h : ℕ). look (tlb_at to h) r p) (sym same) ∙ found in
          elim ((law (tlb_at tlbs hart) root page leaf is).old r p l here) [
            | inl new ↦
                let leaf_is : leaf ≡ l = sym new.2 in
                subst (λ (x : Entry). IsBacked t r p x) leaf_is
                (subst (λ (n : ℕ). IsBacked t n p leaf) (sym new.0) (subst (λ (n : ℕ). IsBacked t root n leaf) (sym new.1) has))
            | inr was ↦ cache.backed hart r p l was
          ]
      | inr differs ↦ cache.backed k r p l (ap (λ (es : List TlbEntry). look es r p) (sym (others k differs)) ∙ found)
    ];
    within = cache.within;
    noted = cache.noted;
    most_records = cache.most_records;
  }
