-- The notes of records and of reads: their order, what one more adds, what stays, and how many there are.
use Rattle.std.proofs.Common.{◌≡◌, ◌⊎◌, inl, inr, ℕ, ◌+◌, ◌≤◌, Bool, true, false, ◌&&◌, ◌||◌, cond, if◌then◌else◌, List, [], ◌∷◌, ◌++◌, length, map, refl, sym, ap, ◌∙◌, arith}
use Rattle.std.specs.Prelude.{slice_index}
use Rattle.std.specs.List.{list_any, AllByRecursion as Each}
use Rattle.std.specs.Cmp.{IsTotalOrder}
use Rattle.std.specs.Cmp.Lexicographic.{on_texts}
use Rattle.std.specs.FinMap.{IsAntisymmetric, nat_cmp-IsAntisymmetric, slice_cmp-IsAntisymmetric}
use Rattle.std.specs.Ordering.{eq_by_cmp}
use Rattle.std.specs.FinSet.{FinSet, contains, contains-from_list, contains-insert, contains-retain, insert, items, len, len-insert, retain, same_set}
use Rattle.cap_format.proofs.KindNumbers.{kind_of_number}
use Rattle.cap_format.specs.declared.item.Item.{Item}
use Rattle.cap_format.specs.declared.item.Item.TheVariants.{Header, Slot}
use Rattle.guard_math.specs.Block.{BlockValue}
use Rattle.walk_meaning.specs.declared.noted.Noted.{Noted}
use Rattle.depend_table.specs.Depend.{Adds, Depend, Takes, has, same}
use Rattle.depend_table.specs.Notes.{Note, note, note_by, note_code, noted_by, notes_by, order_by}
use Rattle.depend_table.proofs.Coded.{Coding}
use Rattle.depend_table.proofs.Members.{same_itself}
use Rattle.depend_table.proofs.Records.{adds-taken, any-added, any_has, has_any}
use Rattle.depend_table.proofs.Sets.{any-note, insert-grows, insert-more, insert-tells, insert-there, itself, note-any, tells}
use Rattle.depend_table.proofs.Tests.{both, or_left, or_right, same_tests}

-- the numbers behind the first two, and behind the first five
abbrev pub tail2 : List ℕ → List ℕ
tail2 (x ∷ (y ∷ rest)) = rest
tail2 _ = []

abbrev tail5 : List ℕ → List ℕ
tail5 (a ∷ (b ∷ (x ∷ (y ∷ (z ∷ rest))))) = rest
tail5 _ = []

pub zero_one : {X : Type 0} → ◌≡◌ {A = ℕ} 0 1 → X
zero_one e = absurd (omega (arith, e))

list_any-map : {X Y : Type 0} (p : Y → Bool) (h : X → Y) (xs : List X) → list_any p (map h xs) ≡ list_any (λ x. p (h x)) xs
list_any-map p h [] = refl
list_any-map p h (x ∷ xs) = ap (λ (b : Bool). p (h x) || b) (list_any-map p h xs)

-- no other record has this record's note
abbrev pub IsAlone : {K : Type 0} → (ℕ → K) → List Depend → Depend → Type 0
IsAlone key_at ds d = (e : Depend) → has ds e ≡ true → note_by key_at e ≡ note_by key_at d → e ≡ d

-- a note is that of a read for a key
pub record IsOf {K : Type 0} (key : K) (reads : List Noted) (q : Note K) : Type 0 where
  pub before : List Noted
  pub read : Noted
  pub after : List Noted
  pub whole : reads ≡ before ++ read ∷ after
  pub note_is : q ≡ note key read.item read.block

module _ {K : Type 0} (c : Coding K) where
  -- ---- the order of notes

  note_parts : (s t : K) (a b : Item) (x y : BlockValue) → a ≡ b → c.code s ≡ c.code t → x.base ≡ y.base → x.l2 ≡ y.l2 → note s a x ≡ note t b y
  note_parts s t a b x y items keys base l2 = λ i. record { key = c.apart s t keys i; item = items i; block = record { base = base i; l2 = l2 i } }

  -- notes of the same numbers are one
  note_code-apart : (s t : K) (a b : Item) (x y : BlockValue) → note_code c.code (note s a x) ≡ note_code c.code (note t b y) → note s a x ≡ note t b y
  note_code-apart s t (Header j m) (Header k n) x y e =
      note_parts s t (Header j m) (Header k n) x y
      (λ i. Header (kind_of_number j k (ap (λ (l : List ℕ). slice_index l 3) e) i) (ap (λ (l : List ℕ). slice_index l 4) e i))
      (ap tail5 e) (ap (λ (l : List ℕ). slice_index l 0) e) (ap (λ (l : List ℕ). slice_index l 1) e)
  note_code-apart s t (Header j m) (Slot h u) x y e = zero_one (ap (λ (l : List ℕ). slice_index l 2) e)
  note_code-apart s t (Slot g r) (Header k n) x y e = zero_one (sym (ap (λ (l : List ℕ). slice_index l 2) e))
  note_code-apart s t (Slot g r) (Slot h u) x y e =
      note_parts s t (Slot g r) (Slot h u) x y
      (λ i. Slot (ap (λ (l : List ℕ). slice_index l 3) e i) (ap (λ (l : List ℕ). slice_index l 4) e i))
      (ap tail5 e) (ap (λ (l : List ℕ). slice_index l 0) e) (ap (λ (l : List ℕ). slice_index l 1) e)

  -- the order is total, and only a note ties with itself
  pub notes_total : IsTotalOrder (order_by c.code)
  notes_total = on_texts (note_code c.code)

  pub notes_apart : IsAntisymmetric (order_by c.code)
  notes_apart q n tie =
      let codes = slice_cmp-IsAntisymmetric nat_cmp-IsAntisymmetric (note_code c.code q) (note_code c.code n) tie in
      note_code-apart q.key n.key q.item n.item q.block n.block codes

  -- ---- notes of records, each of whose roots stands for a key

  module _ (key_at : ℕ → K) where
    abbrev noted : List Depend → FinSet (order_by c.code)
    noted ds = notes_by c.code key_at ds

    -- a note is there where a record has it
    pub contains-notes : (ds : List Depend) (q : Note K) → contains (noted ds) q ≡ list_any (λ d. eq_by_cmp (order_by c.code) q (note_by key_at d)) ds
    contains-notes ds q = contains-from_list notes_total (map (note_by key_at) ds) q ∙ list_any-map (eq_by_cmp (order_by c.code) q) (note_by key_at) ds

    -- a record that is there has its note
    pub has-note : (ds : List Depend) (d : Depend) → has ds d ≡ true → contains (noted ds) (note_by key_at d) ≡ true
    has-note ds d there =
        contains-notes ds (note_by key_at d)
        ∙ has_any (λ e. eq_by_cmp (order_by c.code) (note_by key_at d) (note_by key_at e)) ds d there (itself notes_total notes_apart (note_by key_at d))

    -- a note that is there has its record
    pub note-has : (ds : List Depend) (q : Note K) → contains (noted ds) q ≡ true → (d : Depend) × ((has ds d ≡ true) × (q ≡ note_by key_at d))
    note-has ds q there =
        let found = any_has (λ d. eq_by_cmp (order_by c.code) q (note_by key_at d)) ds (sym (contains-notes ds q) ∙ there) in
        (found.0, (found.1.0, tells notes_total notes_apart q (note_by key_at found.0) found.1.1))

    -- some note passes a test where some record's does
    pub any-items : (p : Note K → Bool) (ds : List Depend) → list_any p (items (noted ds)) ≡ list_any (λ d. p (note_by key_at d)) ds
    any-items p ds = same_tests (list_any p (items (noted ds))) (list_any (λ d. p (note_by key_at d)) ds)
        (λ holds.
        let found = any-note notes_total notes_apart p (noted ds) holds in
        let record' = note-has ds found.0 found.1.0 in
        has_any (λ d. p (note_by key_at d)) ds record'.0 record'.1.0 (ap p (sym record'.1.1) ∙ found.1.1))
        (λ holds.
        let found = any_has (λ d. p (note_by key_at d)) ds holds in
        note-any notes_total notes_apart p (noted ds) (note_by key_at found.0) (has-note ds found.0 found.1.0) found.1.1)

    -- the note of a record that has it alone is there where the record is
    pub contains-note : (ds : List Depend) (d : Depend) → IsAlone key_at ds d → contains (noted ds) (note_by key_at d) ≡ has ds d
    contains-note ds d alone = same_tests (contains (noted ds) (note_by key_at d)) (has ds d)
        (λ there. let found = note-has ds (note_by key_at d) there in ap (has ds) (sym (alone found.0 found.1.0 (sym found.1.1))) ∙ found.1.0)
        (λ there. has-note ds d there)

    -- with a record more there is its note more
    pub notes_of-added : (old new : List Depend) (d : Depend) → Adds old new d → noted new ≡ insert (noted old) (note_by key_at d)
    notes_of-added old new d adds = same_set notes_total notes_apart (noted new) (insert (noted old) (note_by key_at d)) (λ q.
        contains-notes new q
        ∙ any-added (λ e. eq_by_cmp (order_by c.code) q (note_by key_at e)) old new d adds
        ∙ ap (λ (b : Bool). eq_by_cmp (order_by c.code) q (note_by key_at d) || b) (sym (contains-notes old q))
        ∙ sym (contains-insert notes_total (noted old) (note_by key_at d) q))

    -- and the two numbers rise alike
    count-added : (old new : List Depend) (d : Depend) → Adds old new d → IsAlone key_at old d → len (noted new) + length old ≡ length new + len (noted old)
    count-added old new d adds alone =
        on (has old d) (ap len (notes_of-added old new d adds) ∙ len-insert notes_total (noted old) (note_by key_at d) ∙ ap (λ (b : Bool). cond b (len (noted old)) (len (noted old) + 1)) (contains-note old d alone)) adds.count
      where
        on : (b : Bool) → len (noted new) ≡ cond b (len (noted old)) (len (noted old) + 1) → length new ≡ (if b then length old else length old + 1) → len (noted new) + length old ≡ length new + len (noted old)
        on true notes records = omega (arith, notes, records)
        on false notes records = omega (arith, notes, records)

    -- where each record has a note of its own, so it is with one more
    pub noted-added : (old new : List Depend) (d : Depend) → Adds old new d → IsAlone key_at old d → len (noted old) ≡ length old → len (noted new) ≡ length new
    noted-added old new d adds alone own = omega (arith, count-added old new d adds alone, own)

    -- and with one taken
    pub noted-taken : (old new : List Depend) (d : Depend) → Takes old new d → IsAlone key_at new d → len (noted old) ≡ length old → len (noted new) ≡ length new
    noted-taken old new d takes alone own = omega (arith, count-added new old d (adds-taken old new d takes) alone, own)

    -- the notes of the records that stay, where those of the others go by a test of their notes
    pub notes_of-kept : (old new : List Depend) (p : Note K → Bool) → ((e : Depend) → has new e ≡ (has old e && p (note_by key_at e)))
        → noted new ≡ retain (noted old) p
    notes_of-kept old new p left = same_set notes_total notes_apart (noted new) (retain (noted old) p) (λ q.
        same_tests (contains (noted new) q) (contains (noted old) q && p q) (to q) (from q)
        ∙ sym (contains-retain (noted old) p q (λ x tie. ap p (sym (notes_apart q x tie)))))
      where
        together : (a b : Bool) → a ≡ true → b ≡ true → (a && b) ≡ true
        together true b x y = y
        together false b x y = x

        to : (q : Note K) → contains (noted new) q ≡ true → (contains (noted old) q && p q) ≡ true
        to q there =
            let found = note-has new q there in
            let parts = both (has old found.0) (p (note_by key_at found.0)) (sym (left found.0) ∙ found.1.0) in
            together (contains (noted old) q) (p q)
            (ap (contains (noted old)) found.1.1 ∙ has-note old found.0 parts.0)
            (ap p found.1.1 ∙ parts.1)

        from : (q : Note K) → (contains (noted old) q && p q) ≡ true → contains (noted new) q ≡ true
        from q there =
            let parts = both (contains (noted old) q) (p q) there in
            let found = note-has old q parts.0 in
            ap (contains (noted new)) found.1.1
            ∙ has-note new found.0 (left found.0 ∙ together (has old found.0) (p (note_by key_at found.0)) found.1.0 (ap p (sym found.1.1) ∙ parts.1))

  -- roots that stand for the same keys give the same notes
  pub notes_of-same : (key_at other_at : ℕ → K) (ds : List Depend) → ((d : Depend) → has ds d ≡ true → other_at d.root ≡ key_at d.root)
      → notes_by c.code other_at ds ≡ notes_by c.code key_at ds
  notes_of-same key_at other_at [] alike = refl
  notes_of-same key_at other_at (d ∷ ds) alike =
      let rest = notes_of-same key_at other_at ds (λ e there. alike e (or_right (same d e) (has ds e) there)) in
      let here = alike d (or_left (same d d) (has ds d) (same_itself d)) in
      λ i. insert (rest i) (note (here i) d.item d.block)

  -- ---- notes of reads

  abbrev with_reads : FinSet (order_by c.code) → K → List Noted → FinSet (order_by c.code)
  with_reads s key reads = noted_by c.code s key reads

  pub noted_all-grows : (s : FinSet (order_by c.code)) (key : K) (reads : List Noted) → len s ≤ len (with_reads s key reads)
  noted_all-grows s key [] = omega arith
  noted_all-grows s key (n ∷ rest) =
      omega (arith, (insert-grows notes_total notes_apart s (note key n.item n.block)).0, noted_all-grows (insert s (note key n.item n.block)) key rest)

  pub noted_all-most : (s : FinSet (order_by c.code)) (key : K) (reads : List Noted) → len (with_reads s key reads) ≤ len s + length reads
  noted_all-most s key [] = omega arith
  noted_all-most s key (n ∷ rest) =
      omega (arith, (insert-grows notes_total notes_apart s (note key n.item n.block)).1, noted_all-most (insert s (note key n.item n.block)) key rest)

  -- reads one after the other
  pub noted_all-append : (s : FinSet (order_by c.code)) (key : K) (xs ys : List Noted) → with_reads s key (xs ++ ys) ≡ with_reads (with_reads s key xs) key ys
  noted_all-append s key [] ys = refl
  noted_all-append s key (n ∷ xs) ys = noted_all-append (insert s (note key n.item n.block)) key xs ys

  pub noted_all-more : (s : FinSet (order_by c.code)) (key : K) (reads : List Noted) (q : Note K) → contains s q ≡ true → contains (with_reads s key reads) q ≡ true
  noted_all-more s key [] q there = there
  noted_all-more s key (r ∷ reads) q there =
      noted_all-more (insert s (note key r.item r.block)) key reads q (insert-more notes_total notes_apart s (note key r.item r.block) q there)

  -- each read is noted
  pub noted_all-each : (s : FinSet (order_by c.code)) (key : K) (reads : List Noted) → Each (λ n. contains (with_reads s key reads) (note key n.item n.block) ≡ true) reads
  noted_all-each s key [] = tt
  noted_all-each s key (r ∷ reads) = (
    noted_all-more (insert s (note key r.item r.block)) key reads (note key r.item r.block) (insert-there notes_total notes_apart s (note key r.item r.block)),
    noted_all-each (insert s (note key r.item r.block)) key reads,
  )

  -- what is noted was noted, or is of a read
  pub noted_all-tells : (s : FinSet (order_by c.code)) (key : K) (reads : List Noted) (q : Note K) → contains (with_reads s key reads) q ≡ true → (contains s q ≡ true) ⊎ IsOf key reads q
  noted_all-tells s key [] q there = inl there
  noted_all-tells s key (r ∷ reads) q there = on (noted_all-tells (insert s (note key r.item r.block)) key reads q there)
    where
      on : (contains (insert s (note key r.item r.block)) q ≡ true) ⊎ IsOf key reads q → (contains s q ≡ true) ⊎ IsOf key (r ∷ reads) q
      on (inr of) = inr (record { before = r ∷ of.before; read = of.read; after = of.after; whole = ap (λ (t : List Noted). r ∷ t) of.whole; note_is = of.note_is })
      on (inl there) = elim (insert-tells notes_total notes_apart s (note key r.item r.block) q there) [
        | inl here ↦ inr (record { before = []; read = r; after = reads; whole = refl; note_is = here })
        | inr was ↦ inl was
      ]
