-- What a new frame and a recorded read leave.
use Rattle.std.proofs.Common.{◌≡◌, ◌≢◌, ◌⊎◌, inl, inr, ℕ, ◌+◌, ◌*◌, ◌<◌, ◌≤◌, Bool, true, false, cond, if◌then◌else◌, List, [], ◌∷◌, ◌++◌, length, length-append, Option, Some, None, refl, sym, ap, ◌∙◌, subst, arith}
use Rattle.std.specs.Prelude.{slice_get}
use Rattle.std.specs.FinSet.{len, len-insert}
use Rattle.std.proofs.lemmas.Option.{none-some, slice_get_within}
use Rattle.object_store.specs.Store.{Items}
use Rattle.sv32_tables.specs.declared.leaf.Leaf.{Leaf as Entry}
use Rattle.sv32_tables.specs.declared.shared_use.SharedUse.{SharedUse}
use Rattle.sv32_tables.specs.declared.shared_use.SharedUse.TheVariants.{Root as RootUse, Leaf as LeafUse}
use Rattle.sv32_tables.specs.Shared.{IsSharedRoot, SharedValue, entry_at, link_at}
use Rattle.sv32_tables.specs.SharedHistory.{MakesFrame}
use Rattle.sv32_tables.proofs.Uses.{slice_get-push, slice_get-push_new}
use Rattle.tlb_model.specs.declared.entry.Entry.{Entry as TlbEntry}
use Rattle.depend_table.specs.Depend.{Adds, Depend, depend, has}
use Rattle.depend_table.proofs.Members.{has-added, has-added_itself}
use Rattle.walk_meaning.specs.declared.noted.Noted.{Noted}
use Rattle.shared_leaves.specs.declared.key.Key.{Key}
use Rattle.shared_leaves.specs.Key.{has_key, is_leaf, root_key, with_key}
use Rattle.shared_leaves.specs.Kept.{noted_all}
use Rattle.shared_leaves.specs.Cache.{IsCache, SharedCache, cache_of, entry_in, frame_of, key_at, key_of_link, link_in, note_of, notes_of, root_at}
use Rattle.shared_leaves.specs.Coherent.{IsCoherent, IsEntry, IsLink, IsRecorded}
use Rattle.shared_leaves.specs.Effects.{HasFrame, NotesReads, SameEntriesFor, SameLinksFor, use_of}
use Rattle.depend_table.proofs.Coded.{apart-more, frame_of-new, frame_of-other, frame_of-some, has-at, key_cases, none-frame_of}
use Rattle.shared_leaves.proofs.Codes.{key_coding}
use Rattle.shared_leaves.proofs.Keyed.{key_at-more}
use Rattle.shared_leaves.proofs.Keyed.{notes_of-more}
use Rattle.shared_leaves.proofs.Invariant.{alone, cache-frame, cache-note, entry_at-words, link_at-words, root_made}
use Rattle.depend_table.proofs.Notes.{contains-note, notes_of-added, notes_total}

-- both, where one was to be said of two
pub record Made (t : SharedValue) (keys : List Key) (tlbs : List (List TlbEntry)) (ds : List Depend) (P : SharedCache → Type 0) : Type 0 where
  pub cache : IsCache t keys tlbs ds
  pub done : P (cache_of t keys tlbs ds)

pub if-true : {X : Type 0} (b : Bool) (x y : X) → b ≡ true → (if b then x else y) ≡ x
if-true true x y is = refl
if-true false x y is = absurd (cc)

pub if-false : {X : Type 0} (b : Bool) (x y : X) → b ≡ false → (if b then x else y) ≡ y
if-false true x y is = absurd (cc)
if-false false x y is = refl

module _ (t : SharedValue) (keys : List Key) (tlbs : List (List TlbEntry)) (ds : List Depend) (cache : IsCache t keys tlbs ds) where
  -- a key that has a frame
  pub frame-there : (k : Key) (frame : ℕ) → frame_of keys k ≡ Some frame → HasFrame (cache_of t keys tlbs ds) (cache_of t keys tlbs ds) k frame
  frame-there k frame is = record {
    here = frame_of-some key_coding keys k frame is;
    keys = sym (if-true (has_key keys k) keys (keys ++ k ∷ []) (has-at key_coding keys frame k (frame_of-some key_coding keys k frame is)));
    notes = refl;
    tlbs = refl;
    links = λ s r low. refl;
    entries = λ x j low. refl;
    coherent = λ o coherent. coherent;
  }

  -- a key for which there is no frame
  pub frame-wanting : (k : Key) → frame_of keys k ≡ None → length t.uses ≡ 256 → 256 < length (with_key keys k)
  frame-wanting k none full =
      let is = if-false (has_key keys k) keys (keys ++ k ∷ []) (none-frame_of key_coding keys k cache.apart none) in
      omega (arith, ap (λ (ks : List Key). length ks) is, length-append keys (k ∷ []), cache.frames, full)

  module _ (u : SharedValue) (frame : ℕ) (k : Key) (makes : MakesFrame t u (use_of k) frame) (none : frame_of keys k ≡ None) where
    new : has_key keys k ≡ false
    new = none-frame_of key_coding keys k cache.apart none

    at_frame : length keys ≡ frame
    at_frame = cache.frames ∙ sym makes.number

    -- the keys of links that were there
    link_same : (l : Option ℕ) → ((f : ℕ) → l ≡ Some f → f < length keys) → key_of_link (keys ++ k ∷ []) l ≡ key_of_link keys l
    link_same None less = refl
    link_same (Some f) less = ap (λ (x : Key). Some x) (key_at-more keys k f (less f refl))

    linked_less : (r i f : ℕ) → IsSharedRoot t r → i < 1024 → link_at t r i ≡ Some f → f < length keys
    linked_less r i f made inside at = omega (arith, slice_get_within t.uses f LeafUse (cache.linked r i f made inside at), cache.frames)

    links : SameLinksFor (cache_of t keys tlbs ds) (cache_of u (keys ++ k ∷ []) tlbs ds)
    links s r low = elim (key_cases key_coding k (root_key s)) [
      | inl same ↦
          let there : root_at (keys ++ k ∷ []) s ≡ Some frame = ap (frame_of (keys ++ k ∷ [])) (sym same.1) ∙ frame_of-new key_coding keys k (apart-more key_coding keys k cache.apart new) ∙ ap (λ (n : ℕ). Some n) at_frame in
          let gone : root_at keys s ≡ None = ap (frame_of keys) (sym same.1) ∙ none in
          ap (link_in u (keys ++ k ∷ []) r) there ∙ ap (key_of_link (keys ++ k ∷ [])) (makes.bare_root r low) ∙ sym (ap (link_in t keys r) gone)
      | inr other ↦ ap (link_in u (keys ++ k ∷ []) r) (frame_of-other key_coding keys k (root_key s) (apart-more key_coding keys k cache.apart new) other.1) ∙ on (root_at keys s) refl
    ]
      where
        on : (q : Option ℕ) → root_at keys s ≡ q → link_in u (keys ++ k ∷ []) r q ≡ link_in t keys r q
        on None is = refl
        on (Some root) is =
            let made = root_made t keys tlbs ds cache root s (frame_of-some key_coding keys (root_key s) root is) in
            ap (key_of_link (keys ++ k ∷ [])) (link_at-words t u root r makes.words)
            ∙ link_same (link_at t root r) (λ f at. linked_less root r f made low at)

    entries : SameEntriesFor (cache_of t keys tlbs ds) (cache_of u (keys ++ k ∷ []) tlbs ds)
    entries x j low = ap (λ (e : Option Entry). if is_leaf x then e else None) (elim (key_cases key_coding k x) [
      | inl same ↦
          let there : frame_of (keys ++ k ∷ []) x ≡ Some frame = ap (frame_of (keys ++ k ∷ [])) (sym same.1) ∙ frame_of-new key_coding keys k (apart-more key_coding keys k cache.apart new) ∙ ap (λ (n : ℕ). Some n) at_frame in
          let gone : frame_of keys x ≡ None = ap (frame_of keys) (sym same.1) ∙ none in
          ap (entry_in u j) there ∙ makes.bare_leaf j low ∙ sym (ap (entry_in t j) gone)
      | inr other ↦ ap (entry_in u j) (frame_of-other key_coding keys k x (apart-more key_coding keys k cache.apart new) other.1) ∙ words (frame_of keys x)
    ])
      where
        words : (q : Option ℕ) → entry_in u j q ≡ entry_in t j q
        words None = refl
        words (Some f) = entry_at-words t u f j makes.words

    coherent : (o : Items) → IsCoherent (cache_of t keys tlbs ds) o → IsCoherent (cache_of u (keys ++ k ∷ []) tlbs ds) o
    coherent o was = record {
      entries = λ f j e made low at. elim (old f LeafUse made) [
        | inl there ↦
            subst (λ (x : Key). IsEntry o x j e (IsRecorded ds f j)) (sym (key_at-more keys k f (less f LeafUse there)))
            (was.entries f j e there low (sym (entry_at-words t u f j makes.words) ∙ at))
        | inr last ↦ absurd (none-some e (sym (ap (λ (x : ℕ). entry_at u x j) last ∙ makes.bare_leaf j low) ∙ at))
      ];
      links = λ r i f made low at. elim (old r RootUse made) [
        | inl there ↦
            let before = sym (link_at-words t u r i makes.words) ∙ at in
            subst (λ (x : Key). IsLink o x.space i (key_at (keys ++ k ∷ []) f) (IsRecorded ds r (i * 1024))) (sym (key_at-more keys k r (less r RootUse there)))
            (subst (λ (x : Key). IsLink o (key_at keys r).space i x (IsRecorded ds r (i * 1024))) (sym (key_at-more keys k f (linked_less r i f there low before)))
            (was.links r i f there low before))
        | inr last ↦ absurd (none-some f (sym (ap (λ (x : ℕ). link_at u x i) last ∙ makes.bare_root i low) ∙ at))
      ];
    }
      where
        less : (f : ℕ) (v : SharedUse) → slice_get t.uses f ≡ Some v → f < length keys
        less f v there = omega (arith, slice_get_within t.uses f v there, cache.frames)

        old : (f : ℕ) (v : SharedUse) → slice_get u.uses f ≡ Some v → (slice_get t.uses f ≡ Some v) ⊎ (f ≡ frame)
        old f v made = elim (slice_get-push t.uses (use_of k) f v (sym (ap (λ (us : List SharedUse). slice_get us f) makes.uses) ∙ made)) [
          | inl there ↦ inl there
          | inr last ↦ inr (last.0 ∙ sym makes.number)
        ]

    -- a key that gets a frame
    pub frame-new : (more : List Key) → length keys < 256 → more ≡ keys ++ k ∷ [] → Made u more tlbs ds (λ v. HasFrame (cache_of t keys tlbs ds) v k frame)
    frame-new more room is = subst (λ (ks : List Key). Made u ks tlbs ds (λ v. HasFrame (cache_of t keys tlbs ds) v k frame)) (sym is) (record {
      cache = cache-frame t keys tlbs ds cache u frame k makes new room;
      done = record {
        here = ap (slice_get (keys ++ k ∷ [])) (sym at_frame) ∙ slice_get-push_new keys k;
        keys = sym (if-false (has_key keys k) keys (keys ++ k ∷ []) new);
        notes = notes_of-more keys k ds cache.within;
        tlbs = refl;
        links = links;
        entries = entries;
        coherent = coherent;
      };
    })

  -- a read that is recorded
  pub note-added : (frame : ℕ) (read : Noted) (new : List Depend) → frame < length keys → Adds ds new (depend read.item frame read.block) → ((has ds (depend read.item frame read.block) ≡ false) × (length ds ≡ 16384) → ⊥)
      → Made t keys tlbs new (λ v. NotesReads (cache_of t keys tlbs ds) v (key_at keys frame) frame (read ∷ []))
  note-added frame read new less adds room = record {
    cache = cache-note t keys tlbs ds cache new d adds less (most (has ds d) refl adds.count);
    done = record {
      tables = refl;
      keys = refl;
      tlbs = refl;
      notes = notes_of-added key_coding (key_at keys) ds new d adds;
      stay = λ e there. has-added ds new d e adds there;
      there = (has-added_itself ds new d adds, tt);
    };
  }
    where
      d : Depend
      d = depend read.item frame read.block

      most : (b : Bool) → has ds d ≡ b → length new ≡ (if b then length ds else length ds + 1) → length new ≤ 16384
      most true is count = omega (arith, count, cache.most_records)
      most false is count = let less : length ds ≢ 16384 = λ full. room (is, full) in omega (arith, count, cache.most_records, less)

  -- a read for which there is no room
  pub note-wanting : (frame : ℕ) (read : Noted) → frame < length keys → has ds (depend read.item frame read.block) ≡ false → length ds ≡ 16384
      → 16384 < len (noted_all (notes_of keys ds) (key_at keys frame) (read ∷ []))
  note-wanting frame read less none full =
      let d : Depend = depend read.item frame read.block in
      let more = len-insert (notes_total key_coding) (notes_of keys ds) (note_of keys d)
      ∙ ap (λ (b : Bool). cond b (len (notes_of keys ds)) (len (notes_of keys ds) + 1)) (contains-note key_coding (key_at keys) ds d (alone t keys tlbs ds cache d less) ∙ none) in
      omega (arith, more, cache.noted, full)
