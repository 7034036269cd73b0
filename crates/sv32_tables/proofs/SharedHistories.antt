-- What a history of calls leaves in a shared pool.
use Rattle.std.proofs.Common.{◌≡◌, ◌≢◌, ◌⊎◌, inl, inr, ℕ, ◌+◌, ◌/◌, ◌%◌, ◌<◌, ◌==◌, ◌&&◌, if◌then◌else◌, eqb, Bool, List, [], ◌∷◌, ◌++◌, length, Option, Some, None, refl, ap, sym, subst, ◌∙◌, arith, true, false}
use Rattle.std.specs.List.{slice_get}
use Rattle.std.proofs.lemmas.Bool.Decides.{eqb_tells}
use Rattle.std.proofs.lemmas.List.{length-append}
use Rattle.std.proofs.lemmas.Option.{none-some}
use Rattle.guard_math.specs.Block.{holds}
use Rattle.sv32_tables.specs.declared.leaf.Leaf.{Leaf as Entry}
use Rattle.sv32_tables.specs.declared.shared_use.SharedUse.{SharedUse}
use Rattle.sv32_tables.specs.declared.shared_use.SharedUse.TheVariants.{Root, Leaf}
use Rattle.sv32_tables.specs.Pool.{leaf_below}
use Rattle.sv32_tables.specs.Shared.{IsLeafTable, IsSharedRoot, SharedValue, entry_at, link_at, shared_of}
use Rattle.sv32_tables.specs.SharedHistory.{SharedChange, Made, Linked, Unlinked, Set, Cleared, AllCleared, HasLastEntries, LeadsTo, MakesFrame, frames_made, last_below, last_entry, last_link}
use Rattle.sv32_tables.proofs.Choices.{if-false, if-true}
use Rattle.sv32_tables.proofs.Uses.{slice_get-more, slice_get-push}

-- a frame of a pool with one more that is not the new one was in use before
old_frame : (old new : SharedValue) (u v : SharedUse) (made frame : ℕ) → MakesFrame old new u made → frame ≢ made → slice_get new.uses frame ≡ Some v → slice_get old.uses frame ≡ Some v
old_frame old new u v made frame makes other there =
    on (slice_get-push old.uses u frame v (ap (λ (us : List SharedUse). slice_get us frame) (sym makes.uses) ∙ there))
  where
    on : (slice_get old.uses frame ≡ Some v) ⊎ ((frame ≡ length old.uses) × (u ≡ v)) → slice_get old.uses frame ≡ Some v
    on (inl before) = before
    on (inr last) = absurd (other (last.0 ∙ sym makes.number))

-- a frame that was in use still is
same_frame : (old new : SharedValue) (v : SharedUse) (frame : ℕ) → new.uses ≡ old.uses → slice_get new.uses frame ≡ Some v → slice_get old.uses frame ≡ Some v
same_frame old new v frame same there = ap (λ (us : List SharedUse). slice_get us frame) (sym same) ∙ there

-- the links
links_left : (history : List SharedChange) (pool : SharedValue) → LeadsTo history pool → (root region : ℕ) → IsSharedRoot pool root → region < 1024
    → link_at pool root region ≡ last_link history root region
links_left [] pool unused root region made inside = absurd (none-some Root (ap (λ (us : List SharedUse). slice_get us root) (sym unused.unused) ∙ made))
links_left (Made u frame ∷ earlier) pool leads root region made inside = on (links_left earlier leads.0 leads.1) (eqb_tells root frame)
  where
    on : ((r i : ℕ) → IsSharedRoot leads.0 r → i < 1024 → link_at leads.0 r i ≡ last_link earlier r i)
        → ((eqb root frame ≡ true) × (root ≡ frame)) ⊎ ((eqb root frame ≡ false) × (root ≢ frame))
        → link_at pool root region ≡ (if root == frame then None else last_link earlier root region)
    on rest (inl same) =
        ap (λ (x : ℕ). link_at pool x region) same.1 ∙ (leads.2.bare_root region inside ∙ sym (if-true (root == frame) None (last_link earlier root region) same.0))
    on rest (inr other) =
        ap (λ (ws : List ℕ). link_at (shared_of ws pool.uses) root region) leads.2.words
        ∙ (rest root region (old_frame leads.0 pool u Root frame root leads.2 other.1 made) inside
        ∙ sym (if-false (root == frame) None (last_link earlier root region) other.0))
links_left (Linked r i leaf ∷ earlier) pool leads root region made inside =
    let old = same_frame leads.0 pool Root root leads.2.0.uses made in
    leads.2.0.links root region old inside
    ∙ ap (λ (o : Option ℕ). if (root == r) && (region == i) then Some leaf else o) (links_left earlier leads.0 leads.1 root region old inside)
links_left (Unlinked r i ∷ earlier) pool leads root region made inside =
    let old = same_frame leads.0 pool Root root leads.2.uses made in
    leads.2.links root region old inside
    ∙ ap (λ (o : Option ℕ). if (root == r) && (region == i) then None else o) (links_left earlier leads.0 leads.1 root region old inside)
links_left (Set leaf index entry ∷ earlier) pool leads root region made inside =
    let old = same_frame leads.0 pool Root root leads.2.uses made in
    leads.2.links root region old inside ∙ links_left earlier leads.0 leads.1 root region old inside
links_left (Cleared leaf block ∷ earlier) pool leads root region made inside =
    let old = same_frame leads.0 pool Root root leads.2.uses made in
    leads.2.links root region old inside ∙ links_left earlier leads.0 leads.1 root region old inside
links_left (AllCleared ∷ earlier) pool leads root region made inside = absurd (none-some Root (ap (λ (us : List SharedUse). slice_get us root) (sym leads.2.unused) ∙ made))

-- the entries
entries_left : (history : List SharedChange) (pool : SharedValue) → LeadsTo history pool → (leaf index : ℕ) → IsLeafTable pool leaf → index < 1024
    → entry_at pool leaf index ≡ last_entry history leaf index
entries_left [] pool unused leaf index made inside = absurd (none-some Leaf (ap (λ (us : List SharedUse). slice_get us leaf) (sym unused.unused) ∙ made))
entries_left (Made u frame ∷ earlier) pool leads leaf index made inside = on (entries_left earlier leads.0 leads.1) (eqb_tells leaf frame)
  where
    on : ((f i : ℕ) → IsLeafTable leads.0 f → i < 1024 → entry_at leads.0 f i ≡ last_entry earlier f i)
        → ((eqb leaf frame ≡ true) × (leaf ≡ frame)) ⊎ ((eqb leaf frame ≡ false) × (leaf ≢ frame))
        → entry_at pool leaf index ≡ (if leaf == frame then None else last_entry earlier leaf index)
    on rest (inl same) =
        ap (λ (x : ℕ). entry_at pool x index) same.1 ∙ (leads.2.bare_leaf index inside ∙ sym (if-true (leaf == frame) None (last_entry earlier leaf index) same.0))
    on rest (inr other) =
        ap (λ (ws : List ℕ). entry_at (shared_of ws pool.uses) leaf index) leads.2.words
        ∙ (rest leaf index (old_frame leads.0 pool u Leaf frame leaf leads.2 other.1 made) inside
        ∙ sym (if-false (leaf == frame) None (last_entry earlier leaf index) other.0))
entries_left (Linked r i linked ∷ earlier) pool leads leaf index made inside =
    let old = same_frame leads.0 pool Leaf leaf leads.2.0.uses made in
    leads.2.0.entries leaf index old inside ∙ entries_left earlier leads.0 leads.1 leaf index old inside
entries_left (Unlinked r i ∷ earlier) pool leads leaf index made inside =
    let old = same_frame leads.0 pool Leaf leaf leads.2.uses made in
    leads.2.entries leaf index old inside ∙ entries_left earlier leads.0 leads.1 leaf index old inside
entries_left (Set f i entry ∷ earlier) pool leads leaf index made inside =
    let old = same_frame leads.0 pool Leaf leaf leads.2.uses made in
    leads.2.entries leaf index old inside
    ∙ ap (λ (o : Option Entry). if (leaf == f) && (index == i) then Some entry else o) (entries_left earlier leads.0 leads.1 leaf index old inside)
entries_left (Cleared f block ∷ earlier) pool leads leaf index made inside =
    let old = same_frame leads.0 pool Leaf leaf leads.2.uses made in
    leads.2.entries leaf index old inside
    ∙ ap (λ (o : Option Entry). if (leaf == f) && holds block index then None else o) (entries_left earlier leads.0 leads.1 leaf index old inside)
entries_left (AllCleared ∷ earlier) pool leads leaf index made inside = absurd (none-some Leaf (ap (λ (us : List SharedUse). slice_get us leaf) (sym leads.2.unused) ∙ made))

-- a leaf table that is linked was made
links_lead : (history : List SharedChange) (pool : SharedValue) → LeadsTo history pool → (root region leaf : ℕ) → last_link history root region ≡ Some leaf → IsLeafTable pool leaf
links_lead [] pool unused root region leaf e = absurd (none-some leaf e)
links_lead (Made u frame ∷ earlier) pool leads root region leaf e = on (root == frame) e (links_lead earlier leads.0 leads.1 root region leaf)
  where
    on : (b : Bool) → (if b then None else last_link earlier root region) ≡ Some leaf
        → (last_link earlier root region ≡ Some leaf → IsLeafTable leads.0 leaf) → IsLeafTable pool leaf
    on true e rest = absurd (none-some leaf e)
    on false e rest = ap (λ (us : List SharedUse). slice_get us leaf) leads.2.uses ∙ slice_get-more leads.0.uses u leaf Leaf (rest e)
links_lead (Linked r i linked ∷ earlier) pool leads root region leaf e = on ((root == r) && (region == i)) e (links_lead earlier leads.0 leads.1 root region leaf)
  where
    on : (b : Bool) → (if b then Some linked else last_link earlier root region) ≡ Some leaf
        → (last_link earlier root region ≡ Some leaf → IsLeafTable leads.0 leaf) → IsLeafTable pool leaf
    on true e rest =
        let one : linked ≡ leaf = cc in
        ap (λ (us : List SharedUse). slice_get us leaf) leads.2.0.uses ∙ subst (λ (f : ℕ). IsLeafTable leads.0 f) one leads.2.1
    on false e rest = ap (λ (us : List SharedUse). slice_get us leaf) leads.2.0.uses ∙ rest e
links_lead (Unlinked r i ∷ earlier) pool leads root region leaf e = on ((root == r) && (region == i)) e (links_lead earlier leads.0 leads.1 root region leaf)
  where
    on : (b : Bool) → (if b then None else last_link earlier root region) ≡ Some leaf
        → (last_link earlier root region ≡ Some leaf → IsLeafTable leads.0 leaf) → IsLeafTable pool leaf
    on true e rest = absurd (none-some leaf e)
    on false e rest = ap (λ (us : List SharedUse). slice_get us leaf) leads.2.uses ∙ rest e
links_lead (Set f i entry ∷ earlier) pool leads root region leaf e =
    ap (λ (us : List SharedUse). slice_get us leaf) leads.2.uses ∙ links_lead earlier leads.0 leads.1 root region leaf e
links_lead (Cleared f block ∷ earlier) pool leads root region leaf e =
    ap (λ (us : List SharedUse). slice_get us leaf) leads.2.uses ∙ links_lead earlier leads.0 leads.1 root region leaf e
links_lead (AllCleared ∷ earlier) pool leads root region leaf e = absurd (none-some leaf e)

-- the frames in use
used_left : (history : List SharedChange) (pool : SharedValue) → LeadsTo history pool → length pool.uses ≡ frames_made history
used_left [] pool unused = ap (λ (us : List SharedUse). length us) unused.unused
used_left (Made u frame ∷ earlier) pool leads =
    let longer : length (leads.0.uses ++ u ∷ []) ≡ length leads.0.uses + 1 = length-append leads.0.uses (u ∷ []) in
    let is = ap (λ (us : List SharedUse). length us) leads.2.uses in
    let before = used_left earlier leads.0 leads.1 in
    omega (arith, longer, is, before)
used_left (Linked r i leaf ∷ earlier) pool leads = ap (λ (us : List SharedUse). length us) leads.2.0.uses ∙ used_left earlier leads.0 leads.1
used_left (Unlinked r i ∷ earlier) pool leads = ap (λ (us : List SharedUse). length us) leads.2.uses ∙ used_left earlier leads.0 leads.1
used_left (Set f i entry ∷ earlier) pool leads = ap (λ (us : List SharedUse). length us) leads.2.uses ∙ used_left earlier leads.0 leads.1
used_left (Cleared f block ∷ earlier) pool leads = ap (λ (us : List SharedUse). length us) leads.2.uses ∙ used_left earlier leads.0 leads.1
used_left (AllCleared ∷ earlier) pool leads = ap (λ (us : List SharedUse). length us) leads.2.unused

pub all_left : HasLastEntries
all_left history pool leads = record {
  links = links_left history pool leads;
  entries = entries_left history pool leads;
  pages = λ root page made inside.
      ap (λ (t : Option ℕ). leaf_below pool.words (page % 1024) t) (links_left history pool leads root (page / 1024) made (omega (arith, inside)))
      ∙ below (page % 1024) (omega arith) (last_link history root (page / 1024)) (links_lead history pool leads root (page / 1024));
  used = used_left history pool leads;
}
  where
    below : (index : ℕ) → index < 1024 → (link : Option ℕ) → ((leaf : ℕ) → link ≡ Some leaf → IsLeafTable pool leaf)
        → leaf_below pool.words index link ≡ last_below history index link
    below index inside None lead = refl
    below index inside (Some leaf) lead = entries_left history pool leads leaf index (lead leaf refl) inside
