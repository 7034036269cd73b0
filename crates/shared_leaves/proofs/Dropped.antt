-- Records that are dropped: what stays, and that each has a note of its own still.
use Rattle.std.proofs.Common.{◌≡◌, ℕ, suc, ◌+◌, ◌<◌, ◌≤◌, Bool, true, false, ◌&&◌, ◌||◌, nat_le, nat_lt, cond, if◌then◌else◌, List, [], ◌∷◌, filter, length, refl, sym, ap, ◌∙◌, arith}
use Rattle.std.specs.FinSet.{contains, insert, len, len-empty, len-insert}
use Rattle.std.proofs.lemmas.Bool.Decides.{nat_tests}
use Rattle.guard_math.specs.Block.{BlockValue, first_page, holds, page_count}
use Rattle.depend_table.specs.Depend.{Depend, has, lies_in, same}
use Rattle.depend_table.proofs.Members.{same_tells}
use Rattle.shared_leaves.specs.declared.key.Key.{Key}
use Rattle.shared_leaves.specs.Kept.{note_order}
use Rattle.shared_leaves.specs.Cache.{note_of, notes_of, key_at}
use Rattle.depend_table.proofs.Notes.{has-note, note-has, notes_total}
use Rattle.depend_table.proofs.Tests.{both}
use Rattle.shared_leaves.proofs.Codes.{key_coding}

-- what is among those that pass a test
pub has-filter : (p : Depend → Bool) (ds : List Depend) (e : Depend) → has (filter p ds) e ≡ (p e && has ds e)
has-filter p [] e = on (p e)
  where
    on : (b : Bool) → false ≡ (b && false)
    on true = refl
    on false = refl
has-filter p (d ∷ ds) e = on (p d) (p e) (same d e) refl refl refl (has-filter p ds e)
  where
    on : (b c s : Bool) → p d ≡ b → p e ≡ c → same d e ≡ s → has (filter p ds) e ≡ (p e && has ds e)
        → has (if b then d ∷ filter p ds else filter p ds) e ≡ (c && (s || has ds e))
    on true c true pd pe se rest =
        let one : p e ≡ true = ap p (sym (same_tells d e se)) ∙ pd in
        let yes : c ≡ true = sym pe ∙ one in
        ap (λ (b : Bool). b || has (filter p ds) e) se ∙ sym (ap (λ (b : Bool). b && true) yes)
    on true c false pd pe se rest = ap (λ (b : Bool). b || has (filter p ds) e) se ∙ (rest ∙ ap (λ (b : Bool). b && has ds e) pe)
    on false c true pd pe se rest =
        let one : p e ≡ false = ap p (sym (same_tells d e se)) ∙ pd in
        let no' : c ≡ false = sym pe ∙ one in
        rest ∙ (ap (λ (b : Bool). b && has ds e) one ∙ sym (ap (λ (b : Bool). b && true) no'))
    on false c false pd pe se rest = rest ∙ ap (λ (b : Bool). b && has ds e) pe

pub length-filter_most : (p : Depend → Bool) (ds : List Depend) → length (filter p ds) ≤ length ds
length-filter_most p [] = omega arith
length-filter_most p (d ∷ ds) = on (p d) (length-filter_most p ds)
  where
    on : (b : Bool) → length (filter p ds) ≤ length ds → length (if b then d ∷ filter p ds else filter p ds) ≤ suc (length ds)
    on true rest = omega (arith, rest)
    on false rest = omega (arith, rest)

notes-most : (keys : List Key) (ds : List Depend) → len (notes_of keys ds) ≤ length ds
notes-most keys [] = omega (arith, len-empty note_order)
notes-most keys (d ∷ ds) = on (contains (notes_of keys ds) (note_of keys d)) (len-insert (notes_total key_coding) (notes_of keys ds) (note_of keys d)) (notes-most keys ds)
  where
    on : (b : Bool) → len (insert (notes_of keys ds) (note_of keys d)) ≡ cond b (len (notes_of keys ds)) (len (notes_of keys ds) + 1) → len (notes_of keys ds) ≤ length ds → len (insert (notes_of keys ds) (note_of keys d)) ≤ suc (length ds)
    on true is rest = omega (arith, is, rest)
    on false is rest = omega (arith, is, rest)

-- where each record has a note of its own, so it is with those that pass a test
pub noted-filter : (keys : List Key) (p : Depend → Bool) (ds : List Depend) → len (notes_of keys ds) ≡ length ds → len (notes_of keys (filter p ds)) ≡ length (filter p ds)
noted-filter keys p [] noted = noted
noted-filter keys p (d ∷ ds) noted =
    on (contains (notes_of keys ds) (note_of keys d)) refl (len-insert (notes_total key_coding) (notes_of keys ds) (note_of keys d)) (notes-most keys ds) (noted-filter keys p ds)
  where
    on : (b : Bool) → contains (notes_of keys ds) (note_of keys d) ≡ b → len (insert (notes_of keys ds) (note_of keys d)) ≡ cond b (len (notes_of keys ds)) (len (notes_of keys ds) + 1) → len (notes_of keys ds) ≤ length ds
        → (len (notes_of keys ds) ≡ length ds → len (notes_of keys (filter p ds)) ≡ length (filter p ds)) → len (notes_of keys (if p d then d ∷ filter p ds else filter p ds)) ≡ length (if p d then d ∷ filter p ds else filter p ds)
    on true there is most rest = absurd (omega (arith, is, most, noted))
    on false there is most rest = keep (p d)
      where
        all : len (notes_of keys ds) ≡ length ds
        all = omega (arith, is, noted)

        absent : contains (notes_of keys (filter p ds)) (note_of keys d) ≡ false
        absent = gone (contains (notes_of keys (filter p ds)) (note_of keys d)) refl
          where
            gone : (b : Bool) → contains (notes_of keys (filter p ds)) (note_of keys d) ≡ b → b ≡ false
            gone false e = refl
            gone true e =
                let found = note-has key_coding (key_at keys) (filter p ds) (note_of keys d) e in
                let was = (both (p found.0) (has ds found.0) (sym (has-filter p ds found.0) ∙ found.1.0)).1 in
                let here : contains (notes_of keys ds) (note_of keys d) ≡ true = ap (contains (notes_of keys ds)) found.1.1 ∙ has-note key_coding (key_at keys) ds found.0 was in
                absurd (cc)

        keep : (c : Bool) → len (notes_of keys (if c then d ∷ filter p ds else filter p ds)) ≡ length (if c then d ∷ filter p ds else filter p ds)
        keep false = rest all
        keep true =
            let more = len-insert (notes_total key_coding) (notes_of keys (filter p ds)) (note_of keys d) ∙ ap (λ (b : Bool). cond b (len (notes_of keys (filter p ds))) (len (notes_of keys (filter p ds)) + 1)) absent in
            let before = rest all in
            omega (arith, more, before)

-- ---- blocks in blocks

-- a page of a block that lies in another is one of the other's
pub holds-within : (b c : BlockValue) (page : ℕ) → lies_in b c ≡ true → holds b page ≡ true → holds c page ≡ true
holds-within b c page inner there = on (first_page b) (page_count b) (first_page c) (page_count c) inner there
  where
    on : (f n g m : ℕ) → (nat_le g f && nat_le (f + n) (g + m)) ≡ true → (nat_le f page && nat_lt page (f + n)) ≡ true → (nat_le g page && nat_lt page (g + m)) ≡ true
    on f n g m inner there =
        let one = both (nat_le g f) (nat_le (f + n) (g + m)) inner in
        let two = both (nat_le f page) (nat_lt page (f + n)) there in
        let low : g ≤ f = grind (arith, nat_tests, one.0) in
        let high : f + n ≤ g + m = grind (arith, nat_tests, one.1) in
        let from : f ≤ page = grind (arith, nat_tests, two.0) in
        let to : page < f + n = grind (arith, nat_tests, two.1) in
        rw (le_true g page (omega (arith, low, from)), lt_true page (g + m) (omega (arith, high, to))) refl
      where
        le_true : (x y : ℕ) → x ≤ y → nat_le x y ≡ true
        le_true x y e = grind (arith, nat_tests, e)

        lt_true : (x y : ℕ) → x < y → nat_lt x y ≡ true
        lt_true x y e = grind (arith, nat_tests, e)

-- a block in a block in a block
pub lies-through : (b c d : BlockValue) → lies_in b c ≡ true → lies_in c d ≡ true → lies_in b d ≡ true
lies-through b c d inner outer = on (first_page b) (first_page b + page_count b) (first_page c) (first_page c + page_count c) (first_page d) (first_page d + page_count d) inner outer
  where
    le_true : (x y : ℕ) → x ≤ y → nat_le x y ≡ true
    le_true x y e = grind (arith, nat_tests, e)

    on : (f n g m h k : ℕ) → (nat_le g f && nat_le n m) ≡ true → (nat_le h g && nat_le m k) ≡ true → (nat_le h f && nat_le n k) ≡ true
    on f n g m h k inner outer =
        let one = both (nat_le g f) (nat_le n m) inner in
        let two = both (nat_le h g) (nat_le m k) outer in
        let a : g ≤ f = grind (arith, nat_tests, one.0) in
        let b' : n ≤ m = grind (arith, nat_tests, one.1) in
        let c' : h ≤ g = grind (arith, nat_tests, two.0) in
        let d' : m ≤ k = grind (arith, nat_tests, two.1) in
        rw (le_true h f (omega (arith, a, c')), le_true n k (omega (arith, b', d'))) refl
