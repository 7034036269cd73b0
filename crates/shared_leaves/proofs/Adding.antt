-- The whole of an addition.
use Rattle.std.proofs.Common.{◌≡◌, ◌≢◌, ℕ, ◌+◌, ◌*◌, ◌/◌, ◌%◌, ◌^◌, ◌<◌, ◌≤◌, Bool, true, false, ◌&&◌, ◌||◌, ◌==◌, nat_lt, if◌then◌else◌, List, [], ◌∷◌, ◌++◌, length, Option, Some, None, is_some, refl, sym, ap, ◌∙◌, subst, arith}
use Rattle.std.specs.Prelude.{slice_get, OnErr, Result, Ok, Err}
use Rattle.std.specs.FinSet.{FinSet, len}
use Rattle.std.proofs.Math.Path.{fun_ext}
use Rattle.std.proofs.lemmas.Bool.Decides.{nat_tests}
use Rattle.std.proofs.lemmas.Option.{none-some}
use Rattle.sv32_tables.proofs.Uses.{slice_get-more}
use Rattle.cap_format.specs.Capability.{Capability}
use Rattle.object_store.specs.Store.{Items}
use Rattle.sv32_tables.specs.declared.leaf.Leaf.{Leaf as Entry}
use Rattle.sv32_tables.specs.Shared.{IsSharedRoot, SharedValue, entry_at, shared_leaf_at}
use Rattle.tlb_model.specs.declared.entry.Entry.{Entry as TlbEntry}
use Rattle.tlb_model.specs.Tlb.{IsTlb, filled, look}
use Rattle.tlb_model.specs.Laws.{FillLaw}
use Rattle.depend_table.specs.Depend.{Depend, depend, has}
use Rattle.walk_meaning.specs.declared.noted.Noted.{Noted}
use Rattle.map_cache.specs.Key.{same_space}
use Rattle.map_cache.specs.Cache.{tlb_at}
use Rattle.shared_leaves.specs.declared.key.Key.{Key}
use Rattle.shared_leaves.specs.Key.{has_key, is_leaf, root_key, same_key, with_key}
use Rattle.shared_leaves.specs.Kept.{Addition, SharedKept, added, fits, has_no_other, note_order, noted_all, nothing}
use Rattle.shared_leaves.specs.Cache.{IsCache, SharedCache, cache_of, entry_for, entry_in, frame_of, kept_of, key_at, link_for, notes_of}
use Rattle.shared_leaves.specs.Coherent.{IsCoherent, IsEntry, IsLink, IsRecorded}
use Rattle.shared_leaves.specs.Effects.{Agrees, Connects, HasFrame, IsBlank, IsDue, IsWalked, Keeps, NotesReads, Remembers, SameEntriesFor, SetsPlace}
use Rattle.shared_leaves.proofs.Blank.{kept-blank, starts}
use Rattle.shared_leaves.proofs.Economy.{fits-alone, over-keys, over-notes}
use Rattle.shared_leaves.proofs.Filed.{Made, if-false, if-true}
use Rattle.shared_leaves.proofs.Invariant.{cache-fill, leaf_by, root_made}
use Rattle.shared_leaves.proofs.Keyed.{key_at-at}
use Rattle.shared_leaves.proofs.Readings.{due-recorded, each_map, entry-map, link-map}
use Rattle.depend_table.proofs.Coded.{frame_of-is, with_key-grows}
use Rattle.depend_table.proofs.Notes.{noted_all-grows}
use Rattle.shared_leaves.proofs.Codes.{key_coding}

-- coherence goes by tables, keys and records, and more records do no harm
pub coherent-more : (v w : SharedCache) (o : Items) → w.tables ≡ v.tables → w.keys ≡ v.keys → ((d : Depend) → has v.records d ≡ true → has w.records d ≡ true) → IsCoherent v o → IsCoherent w o
coherent-more v w o tables keys stay was =
    let more : IsCoherent (cache_of v.tables v.keys w.tlbs w.records) o = record {
      entries = λ f j e there low at. entry-map o (key_at v.keys f) j e (IsRecorded v.records f j) (IsRecorded w.records f j) (λ n rec. record { there = stay (depend n.item f n.block) rec.there; held = rec.held }) (was.entries f j e there low at);
      links = λ r i f there low at. link-map o (key_at v.keys r).space i (key_at v.keys f) (IsRecorded v.records r (i * 1024)) (IsRecorded w.records r (i * 1024)) (λ n rec. record { there = stay (depend n.item r n.block) rec.there; held = rec.held }) (was.links r i f there low at);
    } in
    subst (λ (t : SharedValue). IsCoherent (cache_of t w.keys w.tlbs w.records) o) (sym tables) (subst (λ (ks : List Key). IsCoherent (cache_of v.tables ks w.tlbs w.records) o) (sym keys) more)

-- the links and entries of a cache go by tables and keys
pub same-links : (v w : SharedCache) → w.tables ≡ v.tables → w.keys ≡ v.keys → (s : Capability) (r : ℕ) → link_for w s r ≡ link_for v s r
same-links v w tables keys s r = λ i. link_for (record { tables = tables i; keys = keys i; tlbs = []; records = [] }) s r

pub same-entries : (v w : SharedCache) → w.tables ≡ v.tables → w.keys ≡ v.keys → (x : Key) (j : ℕ) → entry_for w x j ≡ entry_for v x j
same-entries v w tables keys x j = λ i. entry_for (record { tables = tables i; keys = keys i; tlbs = []; records = [] }) x j

-- the steps of an addition, up to a hart's cache
pub record Steps (v0 v1 v2 v3 v4 v5 v6 : SharedCache) (space : Capability) (page root table : ℕ) (leaf : Entry) (add : Addition) : Type 0 where
  pub root_has : HasFrame v0 v1 (root_key space) root
  pub table_has : HasFrame v1 v2 add.key table
  pub links_noted : NotesReads v2 v3 (key_at v2.keys root) root add.link_reads
  pub entries_noted : NotesReads v3 v4 (key_at v3.keys table) table add.entry_reads
  pub connects : Connects v4 v5 (key_at v4.keys root).space root (page / 1024) (key_at v4.keys table) table
  pub places : SetsPlace v5 v6 (key_at v5.keys table) table (page % 1024) leaf
  pub root_still : slice_get v2.keys root ≡ Some (root_key space)

module _ (v0 v1 v2 v3 v4 v5 v6 : SharedCache) (space : Capability) (page root table : ℕ) (leaf : Entry) (add : Addition)
    (low : page < 2 ^ 20) (steps : Steps v0 v1 v2 v3 v4 v5 v6 space page root table leaf add) where
  keys3 : v3.keys ≡ v2.keys
  keys3 = steps.links_noted.keys

  keys4 : v4.keys ≡ v2.keys
  keys4 = steps.entries_noted.keys ∙ keys3

  keys6 : v6.keys ≡ v2.keys
  keys6 = steps.places.keys ∙ (steps.connects.keys ∙ keys4)

  root_key_is : (keys : List Key) → keys ≡ v2.keys → key_at keys root ≡ root_key space
  root_key_is keys same = ap (λ (ks : List Key). key_at ks root) same ∙ key_at-at v2.keys root (root_key space) steps.root_still

  table_key_is : (keys : List Key) → keys ≡ v2.keys → key_at keys table ≡ add.key
  table_key_is keys same = ap (λ (ks : List Key). key_at ks table) same ∙ key_at-at v2.keys table add.key steps.table_has.here

  tables4 : v4.tables ≡ v2.tables
  tables4 = steps.entries_noted.tables ∙ steps.links_noted.tables

  inside : page / 1024 < 1024
  inside = omega (arith, low)

  links : (s : Capability) (r : ℕ) → (if nat_lt r 1024 then link_for v6 s r else None) ≡ (if same_space s space && (r == page / 1024) then Some add.key else (if nat_lt r 1024 then link_for v0 s r else None))
  links s r = on (nat_lt r 1024) refl
    where
      away : (a : Bool) → (r == page / 1024) ≡ false → ◌≡◌ {A = Option Key} None (if a && (r == page / 1024) then Some add.key else None)
      away true is = sym (ap (λ (b : Bool). if b then Some add.key else None) is)
      away false is = refl

      on : (b : Bool) → nat_lt r 1024 ≡ b → (if b then link_for v6 s r else None) ≡ (if same_space s space && (r == page / 1024) then Some add.key else (if b then link_for v0 s r else None))
      on true is =
          let less : r < 1024 = grind (arith, nat_tests, is) in
          steps.places.links s r less
          ∙ (steps.connects.links s r less
          ∙ ((λ i. if same_space s (root_key_is v4.keys keys4 i).space && (r == page / 1024) then Some (table_key_is v4.keys keys4 i) else link_for v4 s r)
          ∙ ap (λ (x : Option Key). if same_space s space && (r == page / 1024) then Some add.key else x)
          (same-links v2 v4 tables4 keys4 s r ∙ (steps.table_has.links s r less ∙ steps.root_has.links s r less))))
      on false is = away (same_space s space) (let less = inside in grind (arith, nat_tests, is, less))

  held : (x : Key) (j : ℕ) → (nat_lt j 1024 && is_some (entry_for v6 x j)) ≡ ((same_key x add.key && (j == page % 1024)) || (nat_lt j 1024 && is_some (entry_for v0 x j)))
  held x j = on (nat_lt j 1024) refl
    where
      some : (b : Bool) (e : Option Entry) → is_some (if b then Some leaf else e) ≡ (b || is_some e)
      some true e = refl
      some false e = refl

      away : (a b : Bool) → b ≡ false → false ≡ ((a && b) || false)
      away true b is = sym (ap (λ (x : Bool). x || false) is)
      away false b is = refl

      on : (b : Bool) → nat_lt j 1024 ≡ b → (b && is_some (entry_for v6 x j)) ≡ ((same_key x add.key && (j == page % 1024)) || (b && is_some (entry_for v0 x j)))
      on true is =
          let less : j < 1024 = grind (arith, nat_tests, is) in
          ap is_some (steps.places.entries x j less)
          ∙ (some (same_key x (key_at v5.keys table) && (j == page % 1024)) (entry_for v5 x j)
          ∙ ((λ i. (same_key x (table_key_is v5.keys (steps.connects.keys ∙ keys4) i) && (j == page % 1024)) || is_some (entry_for v5 x j))
          ∙ ap (λ (e : Option Entry). (same_key x add.key && (j == page % 1024)) || is_some e)
          (steps.connects.entries x j less ∙ (same-entries v2 v4 tables4 keys4 x j ∙ (steps.table_has.entries x j less ∙ steps.root_has.entries x j less)))))
      on false is = away (same_key x add.key) (j == page % 1024) (grind (arith, nat_tests, is))

  notes : notes_of v6.keys v6.records ≡ noted_all (noted_all (notes_of v0.keys v0.records) (root_key space) add.link_reads) add.key add.entry_reads
  notes =
      (λ i. notes_of (steps.places.keys i) (steps.places.records i))
      ∙ ((λ i. notes_of (steps.connects.keys i) (steps.connects.records i))
      ∙ (steps.entries_noted.notes
      ∙ ((λ i. noted_all (steps.links_noted.notes i) (table_key_is v3.keys keys3 i) add.entry_reads)
      ∙ (λ i. noted_all (noted_all ((steps.table_has.notes ∙ steps.root_has.notes) i) (root_key_is v2.keys refl i) add.link_reads) add.key add.entry_reads))))

  pub kept : kept_of v6 ≡ added (kept_of v0) space page add
  kept = λ i. record {
    keys = (keys6 ∙ (steps.table_has.keys ∙ ap (λ (ks : List Key). with_key ks add.key) steps.root_has.keys)) i;
    links = fun_ext {f = λ s r. if nat_lt r 1024 then link_for v6 s r else None} {g = λ s r. if same_space s space && (r == page / 1024) then Some add.key else (if nat_lt r 1024 then link_for v0 s r else None)} (λ s. fun_ext (λ r. links s r)) i;
    held = fun_ext {f = λ x j. nat_lt j 1024 && is_some (entry_for v6 x j)} {g = λ x j. (same_key x add.key && (j == page % 1024)) || (nat_lt j 1024 && is_some (entry_for v0 x j))} (λ x. fun_ext (λ j. held x j)) i;
    notes = notes i;
  }

  pub coherent : (o : Items) → IsWalked o space page leaf add → IsCoherent v0 o → IsCoherent v6 o
  coherent o walked was =
      let two = steps.table_has.coherent o (steps.root_has.coherent o was) in
      let four = coherent-more v3 v4 o steps.entries_noted.tables steps.entries_noted.keys steps.entries_noted.stay
      (coherent-more v2 v3 o steps.links_noted.tables steps.links_noted.keys steps.links_noted.stay two) in
      let link_there = each_map (λ n. has v3.records (depend n.item root n.block) ≡ true) (λ n. has v4.records (depend n.item root n.block) ≡ true) (λ n there. steps.entries_noted.stay (depend n.item root n.block) there) add.link_reads steps.links_noted.there in
      let link : IsLink o space (page / 1024) add.key (IsRecorded v4.records root (page / 1024 * 1024)) =
      link-map o space (page / 1024) add.key (IsDue add.link_reads (page / 1024 * 1024)) (IsRecorded v4.records root (page / 1024 * 1024)) (due-recorded v4.records root (page / 1024 * 1024) add.link_reads link_there) walked.link in
      let five = steps.connects.coherent o
      (subst (λ (k : Key). IsLink o k.space (page / 1024) (key_at v4.keys table) (IsRecorded v4.records root (page / 1024 * 1024))) (sym (root_key_is v4.keys keys4))
      (subst (λ (k : Key). IsLink o space (page / 1024) k (IsRecorded v4.records root (page / 1024 * 1024))) (sym (table_key_is v4.keys keys4)) link)) four in
      let entry_there : (n : Noted) → IsDue add.entry_reads (page % 1024) n → IsRecorded v5.records table (page % 1024) n =
      due-recorded v5.records table (page % 1024) add.entry_reads (each_map (λ n. has v4.records (depend n.item table n.block) ≡ true) (λ n. has v5.records (depend n.item table n.block) ≡ true) (λ n there. ap (λ (ds : List Depend). has ds (depend n.item table n.block)) steps.connects.records ∙ there) add.entry_reads steps.entries_noted.there) in
      steps.places.coherent o
      (subst (λ (k : Key). IsEntry o k (page % 1024) leaf (IsRecorded v5.records table (page % 1024))) (sym (table_key_is v5.keys (steps.connects.keys ∙ keys4)))
      (entry-map o add.key (page % 1024) leaf (IsDue add.entry_reads (page % 1024)) (IsRecorded v5.records table (page % 1024)) entry_there walked.entry)) five

  -- what the other harts hold
  others : (k : ℕ) → tlb_at v6.tlbs k ≡ (if has_no_other (if nat_lt (page / 1024) 1024 then link_for v0 space (page / 1024) else None) add.key then tlb_at v0.tlbs k else [])
  others k =
      ap (λ (ts : List (List TlbEntry)). tlb_at ts k) steps.places.tlbs
      ∙ (steps.connects.others k ∙ (λ i. if has_no_other (linked i) (table_key_is v4.keys keys4 i) then tlb_at (tlbs4 i) k else []))
    where
      tlbs4 : v4.tlbs ≡ v0.tlbs
      tlbs4 = steps.entries_noted.tlbs ∙ (steps.links_noted.tlbs ∙ (steps.table_has.tlbs ∙ steps.root_has.tlbs))

      yes : nat_lt (page / 1024) 1024 ≡ true
      yes = let less = inside in grind (arith, nat_tests, less)

      linked : link_for v4 (key_at v4.keys root).space (page / 1024) ≡ (if nat_lt (page / 1024) 1024 then link_for v0 space (page / 1024) else None)
      linked =
          ap (λ (x : Key). link_for v4 x.space (page / 1024)) (root_key_is v4.keys keys4)
          ∙ (same-links v2 v4 tables4 keys4 space (page / 1024)
          ∙ (steps.table_has.links space (page / 1024) inside
          ∙ (steps.root_has.links space (page / 1024) inside
          ∙ sym (ap (λ (b : Bool). if b then link_for v0 space (page / 1024) else None) yes))))

  -- the leaf is there
  pub leaf_there : IsSharedRoot v5.tables root → shared_leaf_at v6.tables root page ≡ Some leaf
  leaf_there made =
      leaf_by v6.tables root page table (steps.places.same_links root (page / 1024) made inside ∙ steps.connects.linked) ∙ steps.places.there

  -- what an addition leaves, with the leaf in a hart's cache
  pub page-kept : FillLaw → IsCache v5.tables v5.keys v5.tlbs v5.records → IsCache v6.tables v6.keys v6.tlbs v6.records → (to : List (List TlbEntry)) (hart : ℕ) → IsTlb (tlb_at v6.tlbs hart) → tlb_at to hart ≡ filled (tlb_at v6.tlbs hart) root page leaf
      → ((k : ℕ) → k ≢ hart → tlb_at to k ≡ tlb_at v6.tlbs k) → length to ≡ length v0.tlbs
      → Made v6.tables v6.keys to v6.records (λ v. Keeps v0 v hart space page leaf add)
  page-kept law before cache to hart is own same harts =
      let at5 : slice_get v5.keys root ≡ Some (root_key space) = ap (λ (ks : List Key). slice_get ks root) (steps.connects.keys ∙ keys4) ∙ steps.root_still in
      let at6 : slice_get v6.keys root ≡ Some (root_key space) = ap (λ (ks : List Key). slice_get ks root) keys6 ∙ steps.root_still in
      let made5 = root_made v5.tables v5.keys v5.tlbs v5.records before root space at5 in
      let made6 = root_made v6.tables v6.keys v6.tlbs v6.records cache root space at6 in
      let there = leaf_there made5 in
      record {
        cache = cache-fill v6.tables v6.keys v6.tlbs v6.records cache law to hart root page leaf (record { made = made6; inside = low; there = there }) is own same;
        done = record {
          kept = kept;
          coherent = λ o walked was. coherent-more v6 (cache_of v6.tables v6.keys to v6.records) o refl refl (λ d h. h) (coherent o walked was);
          held = record {
            root = root;
            root_is = frame_of-is key_coding v6.keys (root_key space) root cache.apart at6;
            tables = there;
            tlb = ap (λ (es : List TlbEntry). look es root page) own ∙ (law (tlb_at v6.tlbs hart) root page leaf is).new;
          };
          others = λ k differs. same k differs ∙ others k;
          harts = harts;
        };
      }

-- ---- on the way

-- what stands at a frame stands there with a key more
pub still-at : (v w : SharedCache) (k x : Key) (frame f : ℕ) → HasFrame v w k frame → slice_get v.keys f ≡ Some x → slice_get w.keys f ≡ Some x
still-at v w k x frame f has at = ap (λ (ks : List Key). slice_get ks f) has.keys ∙ on (has_key v.keys k)
  where
    on : (b : Bool) → slice_get (if b then v.keys else v.keys ++ k ∷ []) f ≡ Some x
    on true = at
    on false = slice_get-more v.keys k f x at

-- a leaf table that agreed still does
pub agrees-still : (v0 v1 v2 v4 v5 : SharedCache) (space : Capability) (key : Key) (page root table : ℕ) (leaf : Entry) → IsCache v5.tables v5.keys v5.tlbs v5.records
    → HasFrame v0 v1 (root_key space) root → HasFrame v1 v2 key table → v4.tables ≡ v2.tables → v4.keys ≡ v2.keys → SameEntriesFor v4 v5 → v5.keys ≡ v4.keys → is_leaf key ≡ true
    → Agrees v0 key (page % 1024) leaf → (e : Entry) → entry_at v5.tables table (page % 1024) ≡ Some e → e ≡ leaf
agrees-still v0 v1 v2 v4 v5 space key page root table leaf cache first second tables keys connects keys5 is agrees e at =
    agrees e (sym (connects key (page % 1024) inside ∙ (same-entries v2 v4 tables keys key (page % 1024) ∙ (second.entries key (page % 1024) inside ∙ first.entries key (page % 1024) inside))) ∙ here)
  where
    inside : page % 1024 < 1024
    inside = omega arith

    there : frame_of v5.keys key ≡ Some table
    there = frame_of-is key_coding v5.keys key table cache.apart (ap (λ (ks : List Key). slice_get ks table) (keys5 ∙ keys) ∙ second.here)

    here : entry_for v5 key (page % 1024) ≡ Some e
    here = if-true (is_leaf key) (entry_in v5.tables (page % 1024) (frame_of v5.keys key)) None is ∙ (ap (entry_in v5.tables (page % 1024)) there ∙ at)

-- a refusal with its cause
pub on_err : {A B : Type 0} (r : Result A B) (P : Type 0) → P → OnErr r P
on_err (Ok x) P h = tt
on_err (Err x) P h = h

-- ---- too much

-- too many keys once the space has its root, or the key its leaf table
pub root-over : (v : SharedCache) (space : Capability) (page : ℕ) (add : Addition) → 256 < length (with_key v.keys (root_key space)) → fits (added (kept_of v) space page add) ≡ false
root-over v space page add more = over-keys (kept_of v) space page add (let grows = (with_key-grows key_coding (with_key v.keys (root_key space)) add.key).0 in omega (arith, more, grows))

pub table-over : (v w : SharedCache) (space : Capability) (page root : ℕ) (add : Addition) → HasFrame v w (root_key space) root → 256 < length (with_key w.keys add.key) → fits (added (kept_of v) space page add) ≡ false
table-over v w space page root add has more = over-keys (kept_of v) space page add (subst (λ (ks : List Key). 256 < length (with_key ks add.key)) has.keys more)

-- too many notes of the link, or of the entry then
pub links-over : (v w x : SharedCache) (space : Capability) (page root table : ℕ) (add : Addition) → HasFrame v w (root_key space) root → HasFrame w x add.key table → slice_get x.keys root ≡ Some (root_key space)
    → 16384 < len (noted_all (notes_of x.keys x.records) (key_at x.keys root) add.link_reads) → fits (added (kept_of v) space page add) ≡ false
links-over v w x space page root table add first second at more =
    over-notes (kept_of v) space page add
    (let same : noted_all (notes_of x.keys x.records) (key_at x.keys root) add.link_reads ≡ noted_all (notes_of v.keys v.records) (root_key space) add.link_reads = (λ i. noted_all ((second.notes ∙ first.notes) i) (key_at-at x.keys root (root_key space) at i) add.link_reads) in
    let grows = noted_all-grows key_coding (noted_all (notes_of v.keys v.records) (root_key space) add.link_reads) add.key add.entry_reads in
    let long = ap (λ (s : FinSet note_order). len s) same in
    omega (arith, more, grows, long))

pub entries-over : (v w x y : SharedCache) (space : Capability) (page root table : ℕ) (add : Addition) → HasFrame v w (root_key space) root → HasFrame w x add.key table → slice_get x.keys root ≡ Some (root_key space)
    → NotesReads x y (key_at x.keys root) root add.link_reads
    → 16384 < len (noted_all (notes_of y.keys y.records) (key_at y.keys table) add.entry_reads) → fits (added (kept_of v) space page add) ≡ false
entries-over v w x y space page root table add first second at noted more =
    over-notes (kept_of v) space page add
    (let links : notes_of y.keys y.records ≡ noted_all (notes_of v.keys v.records) (root_key space) add.link_reads = noted.notes ∙ (λ i. noted_all ((second.notes ∙ first.notes) i) (key_at-at x.keys root (root_key space) at i) add.link_reads) in
    let keyed : key_at y.keys table ≡ add.key = ap (λ (ks : List Key). key_at ks table) noted.keys ∙ key_at-at x.keys table add.key second.here in
    let long : len (noted_all (notes_of y.keys y.records) (key_at y.keys table) add.entry_reads) ≡ len (noted_all (noted_all (notes_of v.keys v.records) (root_key space) add.link_reads) add.key add.entry_reads) = (λ i. len (noted_all (links i) (keyed i) add.entry_reads)) in
    subst (λ (m : ℕ). 16384 < m) long more)

and-false : (x y : Bool) → y ≡ false → (x && y) ≡ false
and-false true y is = is
and-false false y is = refl

-- an addition after everything was forgotten
pub remembers-anew : (v b w : SharedCache) (hart page : ℕ) (space : Capability) (leaf : Entry) (add : Addition) → fits (added (kept_of v) space page add) ≡ false → IsBlank b → length b.tlbs ≡ length v.tlbs
    → Keeps b w hart space page leaf add → Remembers v w hart space page leaf add
remembers-anew v b w hart page space leaf add full blank harts keeps = record {
  kept = keeps.kept ∙ ap (λ (k : SharedKept). added k space page add) (kept-blank b blank) ∙ sym (if-false (fits (added (kept_of v) space page add)) (added (kept_of v) space page add) (added nothing space page add) full);
  coherent = λ o walked coherent. keeps.coherent o walked (starts b o blank);
  held = keeps.held;
  others = λ k differs.
      keeps.others k differs
      ∙ (ap (λ (x : SharedKept). if has_no_other (x.links space (page / 1024)) add.key then tlb_at b.tlbs k else []) (kept-blank b blank)
      ∙ (blank.tlbs k
      ∙ ap (λ (y : Bool). if y then tlb_at v.tlbs k else [])
      (sym (and-false (has_no_other ((kept_of v).links space (page / 1024)) add.key) (fits (added (kept_of v) space page add)) full))));
  harts = keeps.harts ∙ harts;
}

-- there is always room for one addition then
pub anew-fits : (b : SharedCache) (space : Capability) (page : ℕ) (add : Addition) → IsBlank b → length add.link_reads + length add.entry_reads ≤ 1024 → fits (added (kept_of b) space page add) ≡ true
anew-fits b space page add blank few = ap (λ (k : SharedKept). fits (added k space page add)) (kept-blank b blank) ∙ fits-alone space page add few

-- nothing that is kept disagrees, where nothing is kept
pub anew-agrees : (b : SharedCache) (key : Key) (place : ℕ) (leaf : Entry) → IsBlank b → Agrees b key place leaf
anew-agrees b key place leaf blank e at = absurd (none-some e (sym (blank-entry (is_leaf key)) ∙ at))
  where
    blank-entry : (c : Bool) → ◌≡◌ {A = Option Entry} (if c then entry_in b.tables place (frame_of b.keys key) else None) None
    blank-entry true = ap (λ (ks : List Key). entry_in b.tables place (frame_of ks key)) blank.keys
    blank-entry false = refl
