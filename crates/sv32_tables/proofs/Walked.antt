-- The walk of the Privileged ISA over a pool's words reaches the page of the leaf found.
use Rattle.std.proofs.Common.{◌≡◌, inl, inr, ℕ, ◌+◌, ◌-◌, ◌/◌, ◌%◌, ◌&&◌, ◌||◌, not, if◌then◌else◌, ◌⊎◌, List, [], Option, Some, None, refl, ap, sym, ◌∙◌, arith, Bool, true, false}
use Rattle.std.proofs.lemmas.Bool.Decides.{nat_tests}
use Rattle.sv32_tables.specs.declared.leaf.Leaf.{Leaf}
use Rattle.sv32_tables.specs.Word.{has, leaf_of, leaf_word, number_of, pointer, table_of}
use Rattle.sv32_tables.specs.Pool.{IsLeafWord, leaf_below, word_at}
use Rattle.sv32_tables.specs.Sv32.{Access, Fetch, Load, Store, first_level, last_level, memory_word, reached, superpage, through}
use Rattle.sv32_tables.proofs.Leaves.{leaf_at-led, leaf_at-zero}
use Rattle.sv32_tables.proofs.WordLaws.{SaysLeaf-leaf_word, leaf_of-leaf_word}

-- a pointer has V and none of R, W and X, so the walk goes on in its frame
first_level-pointer : (words : List ℕ) (access : Access) (page frame : ℕ)
    → first_level words access page (pointer frame) ≡ last_level access (word_at words frame (page % 1024))
first_level-pointer words access page frame =
    on (has (pointer frame) 1) (has (pointer frame) 2) (has (pointer frame) 4) (has (pointer frame) 8) (number_of (pointer frame))
    (grind (arith, nat_tests)) (grind (arith, nat_tests)) (grind (arith, nat_tests)) (grind (arith, nat_tests)) (omega arith)
  where
    on : (v r w x : Bool) (n : ℕ) → v ≡ true → r ≡ false → w ≡ false → x ≡ false → n ≡ 4096 + frame
        → (if not v || (not r && w) then None else (if r || x then superpage access page (pointer frame) else last_level access (memory_word words n (page % 1024))))
        ≡ last_level access (word_at words frame (page % 1024))
    on v r w x n a b c d e =
        let back : n - 4096 ≡ frame = omega (arith, e) in
        rw (a, b, c, d) (ap (λ (f : ℕ). last_level access (word_at words f (page % 1024))) back)

-- a word of 0 reaches nothing at the last level, and a leaf's word its page, where the leaf lets the access through
last_level-word : (access : Access) (word : ℕ) → IsLeafWord word → last_level access word ≡ through access (leaf_of word)
last_level-word access word (inl zeroed) = ap (λ (w : ℕ). last_level access w) zeroed ∙ sym (ap (λ (w : ℕ). through access (leaf_of w)) zeroed)
last_level-word access word (inr leaf) =
    ap (λ (w : ℕ). last_level access w) leaf.2
    ∙ (at_leaf access leaf.0 ∙ sym (ap (λ (w : ℕ). through access (leaf_of w)) leaf.2 ∙ ap (λ (l : Option Leaf). through access l) (leaf_of-leaf_word leaf.0)))
  where
    fetched : (leaf : Leaf) (v r w x u a : Bool) (n : ℕ) → v ≡ true → r ≡ true → x ≡ leaf.execute → u ≡ true → a ≡ true → n ≡ leaf.page
        → (if not (not v || (not r && w)) && (r || x) && (u && a && x) then Some n else None) ≡ through Fetch (Some leaf)
    fetched leaf v r w x u a n e1 e2 e3 e4 e5 e6 = rw (e1, e2, e3, e4, e5, e6) refl

    loaded : (leaf : Leaf) (v r w x u a : Bool) (n : ℕ) → v ≡ true → r ≡ true → u ≡ true → a ≡ true → n ≡ leaf.page
        → (if not (not v || (not r && w)) && (r || x) && (u && a && r) then Some n else None) ≡ through Load (Some leaf)
    loaded leaf v r w x u a n e1 e2 e4 e5 e6 = rw (e1, e2, e4, e5, e6) refl

    stored : (leaf : Leaf) (v r w x u a d : Bool) (n : ℕ) → v ≡ true → r ≡ true → w ≡ leaf.write → u ≡ true → a ≡ true → d ≡ true → n ≡ leaf.page
        → (if not (not v || (not r && w)) && (r || x) && (u && a && (d && w)) then Some n else None) ≡ through Store (Some leaf)
    stored leaf v r w x u a d n e1 e2 e3 e4 e5 e6 e7 = rw (e1, e2, e3, e4, e5, e6, e7) refl

    at_leaf : (access : Access) (leaf : Leaf) → last_level access (leaf_word leaf) ≡ through access (Some leaf)
    at_leaf Fetch leaf =
        let says = SaysLeaf-leaf_word leaf in
        let w : ℕ = leaf_word leaf in
        fetched leaf (has w 1) (has w 2) (has w 4) (has w 8) (has w 16) (has w 64) (number_of w) says.valid says.read says.executes says.user says.accessed says.number
    at_leaf Load leaf =
        let says = SaysLeaf-leaf_word leaf in
        let w : ℕ = leaf_word leaf in
        loaded leaf (has w 1) (has w 2) (has w 4) (has w 8) (has w 16) (has w 64) (number_of w) says.valid says.read says.user says.accessed says.number
    at_leaf Store leaf =
        let says = SaysLeaf-leaf_word leaf in
        let w : ℕ = leaf_word leaf in
        stored leaf (has w 1) (has w 2) (has w 4) (has w 8) (has w 16) (has w 64) (has w 128) (number_of w) says.valid says.read says.writes says.user says.accessed says.dirty says.number

-- what is always true of the words on the way to a page: the first is 0, or leads to a frame whose word is 0 or a leaf's
abbrev pub IsWay : List ℕ → ℕ → ℕ → Type 0
IsWay words root page =
    (word_at words root (page / 1024) ≡ 0)
    ⊎ ((frame : ℕ) × (word_at words root (page / 1024) ≡ pointer frame) × IsLeafWord (word_at words frame (page % 1024)))

-- the walk over such words reaches what the leaf lets through
pub reached-way : (words : List ℕ) (root page : ℕ) → IsWay words root page
    → (access : Access) → reached words root page access ≡ through access (leaf_below words (page % 1024) (table_of (word_at words root (page / 1024))))
reached-way words root page way access =
    ap (λ (f : ℕ). first_level words access page (word_at words f (page / 1024))) here ∙ on way
  where
    here : 4096 + root - 4096 ≡ root
    here = omega arith

    on : IsWay words root page
        → first_level words access page (word_at words root (page / 1024)) ≡ through access (leaf_below words (page % 1024) (table_of (word_at words root (page / 1024))))
    on (inl zeroed) =
        ap (λ (w : ℕ). first_level words access page w) zeroed
        ∙ sym (ap (λ (l : Option Leaf). through access l) (leaf_at-zero words [] root page zeroed))
    on (inr led) =
        ap (λ (w : ℕ). first_level words access page w) led.1
        ∙ (first_level-pointer words access page led.0
        ∙ (last_level-word access (word_at words led.0 (page % 1024)) led.2
        ∙ sym (ap (λ (l : Option Leaf). through access l) (leaf_at-led words [] root page led.0 led.1))))
