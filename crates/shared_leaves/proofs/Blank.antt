-- Nothing kept.
use Rattle.std.proofs.Common.{◌≡◌, inl, inr, ℕ, Bool, true, false, ◌&&◌, nat_lt, if◌then◌else◌, List, [], length, replicate, Option, Some, None, is_some, refl, sym, ap, ◌∙◌, arith}
use Rattle.std.specs.Prelude.{slice_get}
use Rattle.std.specs.FinSet.{len, len-empty}
use Rattle.std.proofs.Math.Path.{fun_ext}
use Rattle.std.proofs.lemmas.Option.{none-some}
use Rattle.std.proofs.lemmas.Bool.Decides.{leb_tells}
use Rattle.std.proofs.lemmas.List.{get_or-replicate, get_or_past, length-replicate}
use Rattle.cap_format.specs.Capability.{Capability}
use Rattle.object_store.specs.Store.{Items}
use Rattle.sv32_tables.specs.declared.shared_use.SharedUse.{SharedUse}
use Rattle.sv32_tables.specs.Shared.{SharedValue}
use Rattle.tlb_model.specs.declared.entry.Entry.{Entry as TlbEntry}
use Rattle.tlb_model.specs.Tlb.{look}
use Rattle.depend_table.specs.Depend.{Depend, has}
use Rattle.map_cache.specs.Cache.{tlb_at}
use Rattle.shared_leaves.specs.declared.key.Key.{Key}
use Rattle.shared_leaves.specs.Key.{is_leaf}
use Rattle.shared_leaves.specs.Kept.{note_order, nothing}
use Rattle.shared_leaves.specs.Cache.{IsCache, SharedCache, entry_for, entry_in, frame_of, kept_of, link_for, link_in, notes_of, root_at}
use Rattle.shared_leaves.specs.Coherent.{IsCoherent}
use Rattle.shared_leaves.specs.Effects.{IsBlank}

-- the parts of one that keeps nothing
pub cache-blank : (t : SharedValue) (keys : List Key) (tlbs : List (List TlbEntry)) (ds : List Depend) → t.uses ≡ [] → keys ≡ [] → ((k : ℕ) → tlb_at tlbs k ≡ []) → ds ≡ [] → IsCache t keys tlbs ds
cache-blank t keys tlbs ds unused none empty unread =
    let no_frame : (f : ℕ) (u : SharedUse) → slice_get t.uses f ≡ Some u → ⊥ = λ f u at. none-some u (ap (λ (us : List SharedUse). slice_get us f) (sym unused) ∙ at) in
    let no_key : (f : ℕ) (k : Key) → slice_get keys f ≡ Some k → ⊥ = λ f k at. none-some k (ap (λ (ks : List Key). slice_get ks f) (sym none) ∙ at) in
    record {
      frames = ap (λ (ks : List Key). length ks) none ∙ sym (ap (λ (us : List SharedUse). length us) unused);
      most_keys = let long = ap (λ (ks : List Key). length ks) none in omega (arith, long);
      frame = λ f u at. absurd (no_frame f u at);
      apart = λ f g k atf atg. absurd (no_key f k atf);
      linked = λ r i f made inside at. absurd (no_frame r _ made);
      backed = λ hart r p l found. absurd (none-some l (ap (λ (es : List TlbEntry). look es r p) (sym (empty hart)) ∙ found));
      within = λ d there. absurd (let no : has ds d ≡ false = ap (λ (es : List Depend). has es d) unread in cc);
      noted = (λ i. len (notes_of (none i) (unread i))) ∙ (len-empty note_order ∙ sym (ap (λ (es : List Depend). length es) unread));
      most_records = let long = ap (λ (es : List Depend). length es) unread in omega (arith, long);
    }

-- where no frame is in use there is no entry and no link
pub starts : (v : SharedCache) (o : Items) → IsBlank v → IsCoherent v o
starts v o blank = record {
  entries = λ f j e there low at. absurd (none-some _ (ap (λ (us : List SharedUse). slice_get us f) (sym blank.tables) ∙ there));
  links = λ r i f there low at. absurd (none-some _ (ap (λ (us : List SharedUse). slice_get us r) (sym blank.tables) ∙ there));
}

-- nothing is kept by a cache that was emptied
pub kept-blank : (v : SharedCache) → IsBlank v → kept_of v ≡ nothing
kept-blank v blank = λ i. record {
  keys = blank.keys i;
  links = fun_ext {f = λ s r. if nat_lt r 1024 then link_for v s r else None} {g = λ s r. None} (λ s. fun_ext (λ r. link s r (nat_lt r 1024))) i;
  held = fun_ext {f = λ x j. nat_lt j 1024 && is_some (entry_for v x j)} {g = λ x j. false} (λ x. fun_ext (λ j. held x j (nat_lt j 1024) (is_leaf x))) i;
  notes = notes_of (blank.keys i) (blank.records i);
}
  where
    link : (s : Capability) (r : ℕ) (b : Bool) → ◌≡◌ {A = Option Key} (if b then link_for v s r else None) None
    link s r true = ap (λ (ks : List Key). link_in v.tables v.keys r (root_at ks s)) blank.keys
    link s r false = refl

    held : (x : Key) (j : ℕ) (b c : Bool) → (b && is_some (if c then entry_in v.tables j (frame_of v.keys x) else None)) ≡ false
    held x j true true = ap (λ (ks : List Key). is_some (entry_in v.tables j (frame_of ks x))) blank.keys
    held x j true false = refl
    held x j false c = refl

-- caches that hold nothing
pub tlb_at-replicate : (n k : ℕ) → tlb_at (replicate n []) k ≡ []
tlb_at-replicate n k = elim (leb_tells n k) [
  | inl past ↦ get_or_past (replicate n []) k [] (omega (arith, past.1, length-replicate {A = List TlbEntry} n []))
  | inr low ↦ get_or-replicate n k [] [] low.1
]
