-- What is always true of the parts: after a new root, a new leaf, a fill, a record more, a record taken, and from the start.
use Rattle.std.proofs.Common.{◌≡◌, ◌≢◌, inl, inr, ℕ, ◌<◌, ◌≤◌, ◌/◌, ◌%◌, Bool, true, false, ◌&&◌, ◌==◌, if◌then◌else◌, List, [], ◌∷◌, ◌++◌, length, length-append, replicate, Option, Some, None, refl, sym, ap, ◌∙◌, subst, arith}
use Rattle.std.specs.Prelude.{slice_get, IfSome}
use Rattle.std.specs.FinSet.{FinSet, len, len-empty}
use Rattle.std.proofs.lemmas.Option.{none-some, slice_get-get_or, slice_get_within}
use Rattle.std.proofs.lemmas.Bool.Decides.{leb_tells}
use Rattle.std.proofs.lemmas.List.{get_or-replicate, get_or_past, length-replicate}
use Rattle.cap_format.specs.Capability.{Capability}
use Rattle.guard_math.specs.Block.{holds}
use Rattle.sv32_tables.specs.declared.leaf.Leaf.{Leaf}
use Rattle.sv32_tables.specs.declared.frame_use.FrameUse.{FrameUse}
use Rattle.sv32_tables.specs.declared.frame_use.FrameUse.TheVariants.{Root, Region}
use Rattle.sv32_tables.specs.Pool.{IsPlace, IsRoot, PoolValue, has_region, leaf_at, leaf_below, with_region, word_at}
use Rattle.sv32_tables.specs.Word.{table_of}
use Rattle.sv32_tables.specs.History.{Clears, Installs, MakesRoot, SameRoots}
use Rattle.sv32_tables.proofs.Regions.{has_region-frame, region-frame}
use Rattle.sv32_tables.proofs.Uses.{slice_get-more, slice_get-push, slice_get-push_new}
use Rattle.tlb_model.specs.declared.entry.Entry.{Entry}
use Rattle.tlb_model.specs.Tlb.{IsTlb, filled, look, without_block}
use Rattle.tlb_model.specs.Laws.{DropLaw, FillLaw}
use Rattle.depend_table.specs.Depend.{Adds, Depend, Takes, has}
use Rattle.depend_table.proofs.Members.{has-added_cases, has-taken}
use Rattle.map_cache.specs.declared.key.Key.{Key}
use Rattle.map_cache.specs.Key.{has_key, region_key, root_key, with_key}
use Rattle.map_cache.specs.Kept.{Note}
use Rattle.map_cache.specs.Cache.{HasKey, IsBacked, IsCache, notes_of, root_at, space_at, tlb_at}
use Rattle.map_cache.proofs.Keyed.{notes_of-more}
use Rattle.map_cache.proofs.Keyed.{HasKey-more, root_at-some, space_at-at}
use Rattle.depend_table.proofs.Coded.{apart-more, at-has, has-at, one_key}
use Rattle.depend_table.proofs.Notes.{IsAlone, noted-added, noted-taken}
use Rattle.depend_table.proofs.Tests.{one_or_not, same_numbers, same_tests}
use Rattle.map_cache.proofs.Codes.{key_coding, space_coding}

-- the leaf goes by the words alone
pub leaf_at-words : (t u : PoolValue) (r p : ℕ) → u.words ≡ t.words → leaf_at u r p ≡ leaf_at t r p
leaf_at-words t u r p same = ap (λ (ws : List ℕ). leaf_below ws (p % 1024) (table_of (word_at ws r (p / 1024)))) same

pub if-true : {X : Type 0} (b : Bool) (x y : X) → b ≡ true → (if b then x else y) ≡ x
if-true true x y is = refl
if-true false x y is = absurd (cc)

pub if-false : {X : Type 0} (b : Bool) (x y : X) → b ≡ false → (if b then x else y) ≡ y
if-false true x y is = absurd (cc)
if-false false x y is = refl

module _ (t : PoolValue) (keys : List Key) (tlbs : List (List Entry)) (ds : List Depend) (cache : IsCache t keys tlbs ds) where
  -- a root's key is that of its space
  pub root_space : (r : ℕ) → IsRoot t r → slice_get keys r ≡ Some (root_key (space_at keys r))
  root_space r made =
      let key = cache.frame r Root made in
      key.1 ∙ ap (λ (s : Capability). Some (root_key s)) (sym (space_at-at keys r (root_key key.0) key.1))

  -- a frame with the key of a root is one
  pub root_made : (r : ℕ) (space : Capability) → slice_get keys r ≡ Some (root_key space) → IsRoot t r
  root_made r space at = on (slice_get t.uses r) refl
    where
      on : (u : Option FrameUse) → slice_get t.uses r ≡ u → u ≡ Some Root
      on None is =
          let within = slice_get_within keys r (root_key space) at in
          let some = slice_get-get_or t.uses r Root (omega (arith, within, cache.frames)) in
          absurd (cc)
      on (Some Root) is = refl
      on (Some (Region root region)) is =
          let key = cache.frame r (Region root region) is in
          let one = one_key keys r (root_key space) (region_key key.0 region) at key.1 in
          let no : None ≡ Some region = ap (λ (k : Key). k.region) one in
          absurd (none-some region no)

  -- what is found for a space is a root
  pub found_made : (space : Capability) (r : Option ℕ) → r ≡ root_at keys space → IfSome r (λ root. IsRoot t root)
  found_made space None is = tt
  found_made space (Some r) is = root_made r space (root_at-some keys space r (sym is))

  -- a record's root is a frame in use
  pub root_within : (d : Depend) → has ds d ≡ true → d.root < length keys
  root_within d there = omega (arith, slice_get_within t.uses d.root Root (cache.roots d there), cache.frames)

  -- the root of a space is one alone
  pub one_root : (q r : ℕ) → IsRoot t q → IsRoot t r → space_at keys q ≡ space_at keys r → q ≡ r
  one_root q r madeq mader same =
      cache.apart q r (root_key (space_at keys r)) (root_space q madeq ∙ ap (λ (s : Capability). Some (root_key s)) same) (root_space r mader)

  -- each record under a root has a note of its own
  pub alone : (d : Depend) → IsRoot t d.root → IsAlone (space_at keys) ds d
  alone d made e there same =
      let roots = one_root e.root d.root (cache.roots e there) made (ap (λ (n : Note). n.key) same) in
      λ i. record { item = ap (λ (n : Note). n.item) same i; root = roots i; block = ap (λ (n : Note). n.block) same i }

  -- a region has a frame where its key is there
  pub region_keyed : (root region : ℕ) (space : Capability) → slice_get keys root ≡ Some (root_key space) → has_region t root region ≡ has_key keys (region_key space region)
  region_keyed root region space here = same_tests (has_region t root region) (has_key keys (region_key space region)) to from
    where
      to : has_region t root region ≡ true → has_key keys (region_key space region) ≡ true
      to holds =
          let found = region-frame root region t.uses holds in
          let key = cache.frame found.0 (Region root region) found.1 in
          let one = one_key keys root (root_key key.0) (root_key space) key.2 here in
          has-at key_coding keys found.0 (region_key space region) (key.1 ∙ ap (λ (k : Key). Some (region_key k.space region)) one)

      from : has_key keys (region_key space region) ≡ true → has_region t root region ≡ true
      from holds = on (slice_get t.uses frame) refl
        where
          frame : ℕ
          frame = (at-has key_coding keys (region_key space region) holds).0

          at : slice_get keys frame ≡ Some (region_key space region)
          at = (at-has key_coding keys (region_key space region) holds).1

          on : (u : Option FrameUse) → slice_get t.uses frame ≡ u → has_region t root region ≡ true
          on None is =
              let within = slice_get_within keys frame (region_key space region) at in
              let some = slice_get-get_or t.uses frame Root (omega (arith, within, cache.frames)) in
              absurd (cc)
          on (Some Root) is =
              let key = cache.frame frame Root is in
              let one = one_key keys frame (root_key key.0) (region_key space region) key.1 at in
              let no : None ≡ Some region = ap (λ (k : Key). k.region) one in
              absurd (none-some region no)
          on (Some (Region r i)) is =
              let key = cache.frame frame (Region r i) is in
              let one = one_key keys frame (region_key key.0 i) (region_key space region) key.1 at in
              let spaces : key.0 ≡ space = ap (λ (k : Key). k.space) one in
              let some : Some i ≡ Some region = ap (λ (k : Key). k.region) one in
              let regions : i ≡ region = cc in
              let roots = cache.apart r root (root_key space) (key.2 ∙ ap (λ (s : Capability). Some (root_key s)) spaces) here in
              has_region-frame t.words t.uses root region frame (is ∙ λ j. Some (Region (roots j) (regions j)))

  -- a new root
  pub cache-root : (u : PoolValue) (root : ℕ) (space : Capability) → MakesRoot t u root → has_key keys (root_key space) ≡ false → length keys < 256
      → IsCache u (keys ++ root_key space ∷ []) tlbs ds
  cache-root u root space makes new room = record {
    frames = omega (arith, length-append keys (root_key space ∷ []), ap (λ (us : List FrameUse). length us) makes.uses, length-append t.uses (Root ∷ []), cache.frames);
    most_keys = omega (arith, length-append keys (root_key space ∷ []), room);
    frame = frame;
    apart = apart-more key_coding keys (root_key space) cache.apart new;
    backed = λ hart r p leaf found.
        let was = cache.backed hart r p leaf found in
        record {
          place = record { made = more r was.place.made; inside = was.place.inside };
          there = leaf_at-words t u r p makes.words ∙ was.there;
        };
    roots = λ d there. more d.root (cache.roots d there);
    noted = ap (λ (s : FinSet _). len s) (notes_of-more keys (root_key space) ds root_within) ∙ cache.noted;
    most_records = cache.most_records;
  }
    where
      more : (r : ℕ) → IsRoot t r → IsRoot u r
      more r made = ap (λ (us : List FrameUse). slice_get us r) makes.uses ∙ slice_get-more t.uses Root r Root made

      frame : (f : ℕ) (use' : FrameUse) → slice_get u.uses f ≡ Some use' → HasKey (keys ++ root_key space ∷ []) f use'
      frame f use' at = elim (slice_get-push t.uses Root f use' (sym (ap (λ (us : List FrameUse). slice_get us f) makes.uses) ∙ at)) [
        | inl old ↦ HasKey-more keys (root_key space) f use' (cache.frame f use' old)
        | inr last ↦
            let here : f ≡ length keys = last.0 ∙ sym cache.frames in
            let P : FrameUse → Type 0 = λ v. HasKey (keys ++ root_key space ∷ []) f v in
            subst P last.1 (space, ap (slice_get (keys ++ root_key space ∷ [])) here ∙ slice_get-push_new keys (root_key space))
      ]

  module _ (u : PoolValue) (root page : ℕ) (leaf : Leaf) (space : Capability) (installs : Installs t u root page leaf)
      (uses : u.uses ≡ with_region t root (page / 1024)) (roots : SameRoots t u) (bare : leaf_at t root page ≡ None)
      (here : slice_get keys root ≡ Some (root_key space)) where
    -- a leaf that was there is there
    stays : (r p : ℕ) (l : Leaf) → IsPlace t r p → leaf_at t r p ≡ Some l → leaf_at u r p ≡ Some l
    stays r p l place was = on ((r == root) && (p == page)) refl (installs r p place)
      where
        on : (b : Bool) → ((r == root) && (p == page)) ≡ b → leaf_at u r p ≡ (if b then Some leaf else leaf_at t r p) → leaf_at u r p ≡ Some l
        on true is same = absurd (
            let r_is : r ≡ root = same_numbers r root (first (r == root) (p == page) is) in
            let p_is : p ≡ page = same_numbers p page (second (r == root) (p == page) is) in
            let none : leaf_at t r p ≡ None = (λ i. leaf_at t (r_is i) (p_is i)) ∙ bare in
            none-some l (sym none ∙ was))
          where
            first : (a b : Bool) → (a && b) ≡ true → a ≡ true
            first true b h = refl
            first false b h = absurd (cc)

            second : (a b : Bool) → (a && b) ≡ true → b ≡ true
            second true b h = h
            second false b h = absurd (cc)
        on false is same = same ∙ was

    backed : (hart r p : ℕ) (l : Leaf) → look (tlb_at tlbs hart) r p ≡ Some l → IsBacked u r p l
    backed hart r p l found =
        let was = cache.backed hart r p l found in
        record { place = record { made = (roots r).1 was.place.made; inside = was.place.inside }; there = stays r p l was.place was.there }

    -- a new leaf, whose region gets a frame and a key where it had none
    pub cache-install : length (with_key keys (region_key space (page / 1024))) ≤ 256 → IsCache u (with_key keys (region_key space (page / 1024))) tlbs ds
    cache-install room = on (has_key keys (region_key space (page / 1024))) refl room (uses ∙ ap (λ (b : Bool). if b then t.uses else t.uses ++ Region root (page / 1024) ∷ []) (region_keyed root (page / 1024) space here))
      where
        k : Key
        k = region_key space (page / 1024)

        on : (b : Bool) → has_key keys k ≡ b → length (if b then keys else keys ++ k ∷ []) ≤ 256 → u.uses ≡ (if b then t.uses else t.uses ++ Region root (page / 1024) ∷ [])
            → IsCache u (if b then keys else keys ++ k ∷ []) tlbs ds
        on true is room same = record {
          frames = cache.frames ∙ sym (ap (λ (us : List FrameUse). length us) same);
          most_keys = room;
          frame = λ f v at. cache.frame f v (sym (ap (λ (us : List FrameUse). slice_get us f) same) ∙ at);
          apart = cache.apart;
          backed = backed;
          roots = λ d there. (roots d.root).1 (cache.roots d there);
          noted = cache.noted;
          most_records = cache.most_records;
        }
        on false is room same = record {
          frames = omega (arith, length-append keys (k ∷ []), ap (λ (us : List FrameUse). length us) same, length-append t.uses (Region root (page / 1024) ∷ []), cache.frames);
          most_keys = room;
          frame = frame;
          apart = apart-more key_coding keys k cache.apart is;
          backed = backed;
          roots = λ d there. (roots d.root).1 (cache.roots d there);
          noted = ap (λ (s : FinSet _). len s) (notes_of-more keys k ds root_within) ∙ cache.noted;
          most_records = cache.most_records;
        }
          where
            frame : (f : ℕ) (v : FrameUse) → slice_get u.uses f ≡ Some v → HasKey (keys ++ k ∷ []) f v
            frame f v at = elim (slice_get-push t.uses (Region root (page / 1024)) f v (sym (ap (λ (us : List FrameUse). slice_get us f) same) ∙ at)) [
              | inl old ↦ HasKey-more keys k f v (cache.frame f v old)
              | inr last ↦
                  let here' : f ≡ length keys = last.0 ∙ sym cache.frames in
                  let P : FrameUse → Type 0 = λ v. HasKey (keys ++ k ∷ []) f v in
                  subst P last.1 (space, ap (slice_get (keys ++ k ∷ [])) here' ∙ slice_get-push_new keys k, slice_get-more keys k root (root_key space) here)
            ]

  -- a hart holds a leaf of the tables
  pub cache-fill : FillLaw → (to : List (List Entry)) (hart root page : ℕ) (leaf : Leaf) → IsBacked t root page leaf → IsTlb (tlb_at tlbs hart)
      → tlb_at to hart ≡ filled (tlb_at tlbs hart) root page leaf → ((k : ℕ) → k ≢ hart → tlb_at to k ≡ tlb_at tlbs k) → IsCache t keys to ds
  cache-fill law to hart root page leaf has is own others = record {
    frames = cache.frames;
    most_keys = cache.most_keys;
    frame = cache.frame;
    apart = cache.apart;
    backed = λ k r p l found. elim (one_or_not k hart) [
      | inl same ↦
          let here : look (filled (tlb_at tlbs hart) root page leaf) r p ≡ Some l = ap (λ (es : List Entry). look es r p) (sym own) ∙ ap (λ (h : ℕ). look (tlb_at to h) r p) (sym same) ∙ found in
          elim ((law (tlb_at tlbs hart) root page leaf is).old r p l here) [
            | inl new ↦ subst (λ (r : ℕ). IsBacked t r p l) (sym new.0) (subst (λ (p : ℕ). IsBacked t root p l) (sym new.1) (subst (λ (l : Leaf). IsBacked t root page l) (sym new.2) has))
            | inr old ↦ cache.backed hart r p l old
          ]
      | inr differs ↦ cache.backed k r p l (ap (λ (es : List Entry). look es r p) (sym (others k differs)) ∙ found)
    ];
    roots = cache.roots;
    noted = cache.noted;
    most_records = cache.most_records;
  }

  -- a record more
  pub cache-note : (new : List Depend) (d : Depend) → Adds ds new d → IsRoot t d.root → length new ≤ 16384 → IsCache t keys tlbs new
  cache-note new d adds made room = record {
    frames = cache.frames;
    most_keys = cache.most_keys;
    frame = cache.frame;
    apart = cache.apart;
    backed = cache.backed;
    roots = λ e there. elim (has-added_cases ds new d e adds there) [
      | inl was ↦ cache.roots e was
      | inr is ↦ ap (λ (x : Depend). slice_get t.uses x.root) is ∙ made
    ];
    noted = noted-added space_coding (space_at keys) ds new d adds (alone d made) cache.noted;
    most_records = room;
  }

  -- a record taken, and its block cleared
  pub cache-clear : DropLaw → (u : PoolValue) (to : List (List Entry)) (new : List Depend) (d : Depend) → Takes ds new d → Clears t u d.root d.block → u.uses ≡ t.uses
      → ((k : ℕ) → tlb_at to k ≡ without_block (tlb_at tlbs k) d.root d.block) → IsCache u keys to new
  cache-clear law u to new d takes clears uses drops = record {
    frames = cache.frames ∙ sym (ap (λ (us : List FrameUse). length us) uses);
    most_keys = cache.most_keys;
    frame = λ f v at. cache.frame f v (sym (ap (λ (us : List FrameUse). slice_get us f) uses) ∙ at);
    apart = cache.apart;
    backed = λ k r p l found. backed k r p l ((r == d.root) && holds d.block p) refl (sym (law (tlb_at tlbs k) d.root d.block r p) ∙ ap (λ (es : List Entry). look es r p) (sym (drops k)) ∙ found);
    roots = λ e there. again e.root (cache.roots e (has-taken ds new d e takes there));
    noted = noted-taken space_coding (space_at keys) ds new d takes (λ e there same. alone d (cache.roots d takes.there) e (has-taken ds new d e takes there) same) cache.noted;
    most_records = omega (arith, takes.count, cache.most_records);
  }
    where
      again : (r : ℕ) → IsRoot t r → IsRoot u r
      again r made = ap (λ (us : List FrameUse). slice_get us r) uses ∙ made

      backed : (k r p : ℕ) (l : Leaf) (b : Bool) → ((r == d.root) && holds d.block p) ≡ b → (if b then None else look (tlb_at tlbs k) r p) ≡ Some l → IsBacked u r p l
      backed k r p l true is found = absurd (none-some l found)
      backed k r p l false is found =
          let was = cache.backed k r p l found in
          record {
            place = record { made = again r was.place.made; inside = was.place.inside };
            there = clears r p was.place ∙ ap (λ (b : Bool). if b then None else leaf_at t r p) is ∙ was.there;
          }

-- nothing is kept
pub cache-blank : (t : PoolValue) (keys : List Key) (tlbs : List (List Entry)) (ds : List Depend) → t.uses ≡ [] → keys ≡ [] → ((k : ℕ) → tlb_at tlbs k ≡ []) → ds ≡ [] → IsCache t keys tlbs ds
cache-blank t keys tlbs ds uses none tlb records = record {
  frames = ap (λ (ks : List Key). length ks) none ∙ sym (ap (λ (us : List FrameUse). length us) uses);
  most_keys = omega (arith, ap (λ (ks : List Key). length ks) none);
  frame = λ f v at. absurd (none-some v (sym (ap (λ (us : List FrameUse). slice_get us f) uses) ∙ at));
  apart = λ f g k atf atg. absurd (none-some k (sym (ap (λ (ks : List Key). slice_get ks f) none) ∙ atf));
  backed = λ k r p l found. absurd (none-some l (sym (ap (λ (es : List Entry). look es r p) (tlb k)) ∙ found));
  roots = λ d there. absurd (let no : has ds d ≡ false = ap (λ (es : List Depend). has es d) records in cc);
  noted = ap (λ (es : List Depend). len (notes_of keys es)) records ∙ len-empty _ ∙ sym (ap (λ (es : List Depend). length es) records);
  most_records = omega (arith, ap (λ (es : List Depend). length es) records);
}

-- the caches of harts that hold nothing
pub tlb_at-replicate : (n k : ℕ) → tlb_at (replicate n []) k ≡ []
tlb_at-replicate n k = elim (leb_tells n k) [
  | inl past ↦ get_or_past (replicate n []) k [] (omega (arith, past.1, length-replicate {A = List Entry} n []))
  | inr low ↦ get_or-replicate n k [] [] low.1
]
