-- Notes of reads that are known one by one: how many they are, which tests they pass, and that none is noted twice.
use Rattle.std.proofs.Common.{◌≡◌, inl, inr, ℕ, ◌+◌, Bool, true, false, ◌||◌, cond, List, [], ◌∷◌, refl, sym, ap, ◌∙◌, arith}
use Rattle.std.specs.List.{list_any, AllByRecursion as Each}
use Rattle.std.specs.Ordering.{eq_by_cmp}
use Rattle.std.specs.FinSet.{FinSet, contains, contains-insert, insert, items, len, len-insert, same_set}
use Rattle.cap_format.specs.Capability.{Capability}
use Rattle.walk_meaning.specs.declared.noted.Noted.{Noted}
use Rattle.map_cache.specs.Kept.{Note, note_order, noted_all}
use Rattle.fetch_economy.proofs.Added.{noted_all-first}
use Rattle.depend_table.proofs.Notes.{notes_apart, notes_total}
use Rattle.depend_table.proofs.Sets.{any-note, found, note-any, passes, tells}
use Rattle.depend_table.proofs.Tests.{either, same_tests}
use Rattle.depend_table.specs.Notes.{note}
use Rattle.map_cache.proofs.Codes.{space_coding}

-- the notes of a set are those of a list
abbrev pub Lists : List Note → FinSet note_order → Type 0
Lists notes s = (q : Note) → contains s q ≡ list_any (eq_by_cmp note_order q) notes

-- some note of a set passes (notes_total space_coding) (notes_apart space_coding) a test where one of its list does
pub any-listed : (p : Note → Bool) (notes : List Note) (s : FinSet note_order) → Lists notes s → list_any p (items s) ≡ list_any p notes
any-listed p notes s are = same_tests (list_any p (items s)) (list_any p notes)
    (λ some. let at = any-note (notes_total space_coding) (notes_apart space_coding) p s some in passes (notes_total space_coding) (notes_apart space_coding) p notes at.0 (sym (are at.0) ∙ at.1.0) at.1.1)
    (λ some. let at = found (notes_total space_coding) (notes_apart space_coding) p notes some in note-any (notes_total space_coding) (notes_apart space_coding) p s at.0 (are at.0 ∙ at.1.0) at.1.1)

module _ (aged : Capability) where
  abbrev note_at : Noted → Note
  note_at r = note aged r.item r.block

  -- these notes, and those of reads
  abbrev pub with_notes : List Note → List Noted → List Note
  with_notes notes [] = notes
  with_notes notes (r ∷ reads) = with_notes (note_at r ∷ notes) reads

  -- how many of the reads' notes are new
  abbrev pub new_notes : List Note → List Noted → ℕ
  new_notes notes [] = 0
  new_notes notes (r ∷ reads) = cond (list_any (eq_by_cmp note_order (note_at r)) notes) 0 1 + new_notes (note_at r ∷ notes) reads

  one-more : (s : FinSet note_order) (notes : List Note) (k : Note) → Lists notes s → Lists (k ∷ notes) (insert s k)
  one-more s notes k are q = contains-insert (notes_total space_coding) s k q ∙ ap (λ (b : Bool). eq_by_cmp note_order q k || b) (are q)

  -- what is noted is listed
  pub lists-noted_all : (s : FinSet note_order) (notes : List Note) → Lists notes s → (reads : List Noted) → Lists (with_notes notes reads) (noted_all s aged reads)
  lists-noted_all s notes are [] = are
  lists-noted_all s notes are (r ∷ reads) = lists-noted_all (insert s (note_at r)) (note_at r ∷ notes) (one-more s notes (note_at r) are) reads

  -- there are as many notes more as are new
  pub len-noted_all : (s : FinSet note_order) (notes : List Note) → Lists notes s → (reads : List Noted) → len (noted_all s aged reads) ≡ len s + new_notes notes reads
  len-noted_all s notes are [] = sym (omega arith)
  len-noted_all s notes are (r ∷ reads) =
      let one : len (insert s (note_at r)) ≡ cond (list_any (eq_by_cmp note_order (note_at r)) notes) (len s) (len s + 1) =
      len-insert (notes_total space_coding) s (note_at r) ∙ ap (λ (b : Bool). cond b (len s) (len s + 1)) (are (note_at r)) in
      step (list_any (eq_by_cmp note_order (note_at r)) notes) (len s) (len (insert s (note_at r))) (len (noted_all s aged (r ∷ reads))) (new_notes (note_at r ∷ notes) reads) one
      (len-noted_all (insert s (note_at r)) (note_at r ∷ notes) (one-more s notes (note_at r) are) reads)
    where
      step : (b : Bool) (before one all more : ℕ) → one ≡ cond b before (before + 1) → all ≡ one + more → all ≡ before + (cond b 0 1 + more)
      step true before one all more is rest = omega (arith, is, rest)
      step false before one all more is rest = omega (arith, is, rest)

  -- each read is noted
  pub each-noted : (s : FinSet note_order) (reads : List Noted) → Each (λ (r : Noted). contains (noted_all s aged reads) (note_at r) ≡ true) reads
  each-noted s [] = tt
  each-noted s (r ∷ reads) = (noted_all-first s aged r reads, each-noted (insert s (note_at r)) reads)

  -- what is noted is not noted again
  pub noted_all-there : (s : FinSet note_order) (reads : List Noted) → Each (λ (r : Noted). contains s (note_at r) ≡ true) reads → noted_all s aged reads ≡ s
  noted_all-there s [] there = refl
  noted_all-there s (r ∷ reads) there = ap (λ (t : FinSet note_order). noted_all t aged reads) same ∙ noted_all-there s reads there.1
    where
      or_true : (b : Bool) → (b || true) ≡ true
      or_true true = refl
      or_true false = refl

      same : insert s (note_at r) ≡ s
      same = same_set (notes_total space_coding) (notes_apart space_coding) (insert s (note_at r)) s (λ q.
          contains-insert (notes_total space_coding) s (note_at r) q
          ∙ same_tests (eq_by_cmp note_order q (note_at r) || contains s q) (contains s q)
          (λ holds. elim (either (eq_by_cmp note_order q (note_at r)) (contains s q) holds) [
            | inl here ↦ ap (contains s) (tells (notes_total space_coding) (notes_apart space_coding) q (note_at r) here) ∙ there.0
            | inr more ↦ more
          ])
          (λ holds. rw holds (or_true (eq_by_cmp note_order q (note_at r)))))
