-- Reads recorded one after the other; and what holds of each.
use Rattle.std.proofs.Common.{◌≡◌, inl, inr, ℕ, ◌+◌, ◌*◌, ◌^◌, ◌<◌, true, List, [], ◌∷◌, ◌++◌, length, get_or, take, drop, refl, sym, ap, ◌∙◌, subst, arith}
use Rattle.std.specs.List.{AllByRecursion as Each}
use Rattle.std.specs.FinSet.{FinSet, len}
use Rattle.std.proofs.lemmas.List.{drop_more, take-append-drop, take_more}
use Rattle.cap_format.specs.Capability.{Capability}
use Rattle.object_store.specs.Store.{Items}
use Rattle.object_store.specs.Meaning.{meaning}
use Rattle.depend_table.specs.Depend.{Depend, depend, has}
use Rattle.sv32_tables.specs.declared.leaf.Leaf.{Leaf as Entry}
use Rattle.walk_meaning.specs.declared.kind.Kind.TheVariants.{Load}
use Rattle.walk_meaning.specs.declared.noted.Noted.{Noted}
use Rattle.walk_meaning.specs.Trail.{header_noted, trail}
use Rattle.producers.specs.Producer.{cut, joined_trail}
use Rattle.shared_leaves.specs.declared.key.Key.{Key}
use Rattle.shared_leaves.specs.declared.key.Table.{Table}
use Rattle.shared_leaves.specs.declared.key.Table.TheVariants.{Producer, Region, Root}
use Rattle.shared_leaves.specs.Kept.{background_reads, note_order, noted_all}
use Rattle.shared_leaves.specs.Cache.{SharedCache, key_at, notes_of}
use Rattle.shared_leaves.specs.Coherent.{IsEntry, IsEntryIn, IsLink, IsLinkTo, IsRecorded}
use Rattle.shared_leaves.specs.Effects.{IsAmong, IsDue, NotesReads}
use Rattle.depend_table.proofs.Notes.{noted_all-append, noted_all-grows}
use Rattle.shared_leaves.proofs.Codes.{key_coding}

-- ---- each of some reads

pub each_map : (P Q : Noted → Type 0) → ((n : Noted) → P n → Q n) → (ns : List Noted) → Each P ns → Each Q ns
each_map P Q f [] all = tt
each_map P Q f (n ∷ ns) all = (f n all.0, each_map P Q f ns all.1)

pub each_append : (P : Noted → Type 0) (xs ys : List Noted) → Each P xs → Each P ys → Each P (xs ++ ys)
each_append P [] ys all also = also
each_append P (x ∷ xs) ys all also = (all.0, each_append P xs ys all.1 also)

pub each_front : (P : Noted → Type 0) (xs ys : List Noted) → Each P (xs ++ ys) → Each P xs × Each P ys
each_front P [] ys all = (tt, all)
each_front P (x ∷ xs) ys all = let rest = each_front P xs ys all.1 in ((all.0, rest.0), rest.1)

pub each_among : (P : Noted → Type 0) (ns : List Noted) → Each P ns → (n : Noted) → IsAmong ns n → P n
each_among P [] all n among = absurd among
each_among P (m ∷ ns) all n (inl same) = subst P same all.0
each_among P (m ∷ ns) all n (inr later) = each_among P ns all.1 n later

-- each is among them
pub all_among : (ns : List Noted) → Each (IsAmong ns) ns
all_among [] = tt
all_among (n ∷ ns) = (inl refl, each_map (IsAmong ns) (IsAmong (n ∷ ns)) (λ m among. inr among) ns (all_among ns))

-- what holds of each read that a link or an entry depends on
pub link-map : (o : Items) (space : Capability) (region : ℕ) (k : Key) (P Q : Noted → Type 0) → ((n : Noted) → P n → Q n) → IsLink o space region k P → IsLink o space region k Q
link-map o space region k P Q f link = on k.table link
  where
    on : (t : Table) → IsLinkTo o space region k.space t P → IsLinkTo o space region k.space t Q
    on Root link = link
    on (Region r) link = link
    on (Producer p) link = record {
      point = link.point;
      reads = link.reads;
      met = link.met;
      passes = link.passes;
      suits = link.suits;
      recorded = each_map P Q f (link.reads ++ header_noted link.point.cap (region * 2 ^ 22) link.point.at.l2) link.recorded;
    }

pub entry-map : (o : Items) (k : Key) (place : ℕ) (entry : Entry) (P Q : Noted → Type 0) → ((n : Noted) → P n → Q n) → IsEntry o k place entry P → IsEntry o k place entry Q
entry-map o k place entry P Q f is = on k.table is
  where
    on : (t : Table) → IsEntryIn o k.space t place entry P → IsEntryIn o k.space t place entry Q
    on Root is = is
    on (Region r) is = record {
      place = is.place;
      reached = is.reached;
      number = is.number;
      write = is.write;
      execute = is.execute;
      reads = each_map (λ n. P (cut n)) (λ n. Q (cut n)) (λ n h. f (cut n) h) (trail o (meaning o k.space) ((r * 1024 + place) * 4096) Load) is.reads;
    }
    on (Producer p) is = record {
      ends = is.ends;
      reached = is.reached;
      number = is.number;
      write = is.write;
      execute = is.execute;
      reads = each_map P Q f (background_reads p.background ++ joined_trail o p (place * 4096) Load) is.reads;
    }

-- what is due is recorded
pub due-recorded : (records : List Depend) (frame page : ℕ) (reads : List Noted) → Each (λ (n : Noted). has records (depend n.item frame n.block) ≡ true) reads
    → (n : Noted) → IsDue reads page n → IsRecorded records frame page n
due-recorded records frame page reads there n due =
    record { there = each_among (λ (m : Noted). has records (depend m.item frame m.block) ≡ true) reads there n due.among; held = due.held }

-- ---- recorded one after the other

pub reads-append : (v w x : SharedCache) (key : Key) (frame : ℕ) (xs ys : List Noted) → NotesReads v w key frame xs → NotesReads w x key frame ys → NotesReads v x key frame (xs ++ ys)
reads-append v w x key frame xs ys first second = record {
  tables = second.tables ∙ first.tables;
  keys = second.keys ∙ first.keys;
  tlbs = second.tlbs ∙ first.tlbs;
  notes = second.notes ∙ ap (λ (s : FinSet note_order). noted_all s key ys) first.notes ∙ sym (noted_all-append key_coding (notes_of v.keys v.records) key xs ys);
  stay = λ d there. second.stay d (first.stay d there);
  there = each_append (λ n. has x.records (depend n.item frame n.block) ≡ true) xs ys
      (each_map (λ n. has w.records (depend n.item frame n.block) ≡ true) (λ n. has x.records (depend n.item frame n.block) ≡ true) (λ n there. second.stay (depend n.item frame n.block) there) xs first.there) second.there;
}

-- where some reads are too many, so are all
reads-wanting : (v w : SharedCache) (key : Key) (frame : ℕ) (xs ys zs : List Noted) → NotesReads v w key frame xs → 16384 < len (noted_all (notes_of w.keys w.records) key ys)
    → 16384 < len (noted_all (notes_of v.keys v.records) key (xs ++ (ys ++ zs)))
reads-wanting v w key frame xs ys zs first more =
    let all = noted_all-append key_coding (notes_of v.keys v.records) key xs (ys ++ zs) ∙ ap (λ (s : FinSet note_order). noted_all s key (ys ++ zs)) (sym first.notes) ∙ noted_all-append key_coding (notes_of w.keys w.records) key ys zs in
    omega (arith, more, ap (λ (s : FinSet note_order). len s) all, noted_all-grows key_coding (noted_all (notes_of w.keys w.records) key ys) key zs)

-- a list of reads with one more, and that it is a front of all
module _ (v w x : SharedCache) (frame : ℕ) (reads : List Noted) (i : ℕ) (read : Noted) (less : i < length reads) (at : read ≡ get_or reads i read)
    (done : NotesReads v w (key_at v.keys frame) frame (take i reads)) where
  same_key_at : key_at w.keys frame ≡ key_at v.keys frame
  same_key_at = ap (λ (ks : List Key). key_at ks frame) done.keys

  pub reads-next : NotesReads w x (key_at w.keys frame) frame (read ∷ []) → NotesReads v x (key_at v.keys frame) frame (take (i + 1) reads)
  reads-next next =
      let more : take (i + 1) reads ≡ take i reads ++ read ∷ [] = take_more reads i read less ∙ ap (λ (n : Noted). take i reads ++ n ∷ []) (sym at) in
      subst (λ (ns : List Noted). NotesReads v x (key_at v.keys frame) frame ns) (sym more)
      (reads-append v w x (key_at v.keys frame) frame (take i reads) (read ∷ []) done (subst (λ (s : Key). NotesReads w x s frame (read ∷ [])) same_key_at next))

  pub reads-over : 16384 < len (noted_all (notes_of w.keys w.records) (key_at w.keys frame) (read ∷ [])) → 16384 < len (noted_all (notes_of v.keys v.records) (key_at v.keys frame) reads)
  reads-over more =
      let rest : drop i reads ≡ read ∷ drop (i + 1) reads = drop_more reads i read less ∙ ap (λ (n : Noted). n ∷ drop (i + 1) reads) (sym at) in
      let whole : take i reads ++ (read ∷ drop (i + 1) reads) ≡ reads = ap (λ (ns : List Noted). take i reads ++ ns) (sym rest) ∙ take-append-drop i reads in
      subst (λ (ns : List Noted). 16384 < len (noted_all (notes_of v.keys v.records) (key_at v.keys frame) ns)) whole
      (reads-wanting v w (key_at v.keys frame) frame (take i reads) (read ∷ []) (drop (i + 1) reads) done
      (subst (λ (s : Key). 16384 < len (noted_all (notes_of w.keys w.records) s (read ∷ []))) same_key_at more))
