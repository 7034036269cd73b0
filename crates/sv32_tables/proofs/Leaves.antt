-- The leaf of a page, by the frame of its region.
use Rattle.std.proofs.Common.{◌≡◌, inl, inr, ℕ, ◌/◌, ◌%◌, ◌<◌, List, Option, None, ap, ◌∙◌, arith}
use Rattle.sv32_tables.specs.declared.frame_use.FrameUse.{FrameUse}
use Rattle.sv32_tables.specs.Word.{leaf_of, pointer, table_of}
use Rattle.sv32_tables.specs.Pool.{IsLeafWord, leaf_at, leaf_below, pool_of, word_at}
use Rattle.sv32_tables.proofs.WordLaws.{SaysLeaf-leaf_word, table_of-pointer}

-- a region whose word is 0 has no leaf
pub leaf_at-zero : (words : List ℕ) (uses : List FrameUse) (root page : ℕ) → word_at words root (page / 1024) ≡ 0
    → leaf_at (pool_of words uses) root page ≡ None
leaf_at-zero words uses root page zeroed = ap (λ (w : ℕ). leaf_below words (page % 1024) (table_of w)) zeroed

-- a region whose word leads to a frame has that frame's leaves
pub leaf_at-led : (words : List ℕ) (uses : List FrameUse) (root page frame : ℕ) → word_at words root (page / 1024) ≡ pointer frame
    → leaf_at (pool_of words uses) root page ≡ leaf_of (word_at words frame (page % 1024))
leaf_at-led words uses root page frame led =
    ap (λ (w : ℕ). leaf_below words (page % 1024) (table_of w)) led
    ∙ ap (λ (t : Option ℕ). leaf_below words (page % 1024) t) (table_of-pointer frame)

-- the number in a word of a leaf table is that of a page
pub number-leaf : (word : ℕ) → IsLeafWord word → word / 1024 < 65536
number-leaf word (inl zeroed) = omega (arith, zeroed)
number-leaf word (inr leaf) =
    let number = (SaysLeaf-leaf_word leaf.0).number in
    let fits = leaf.1 in
    let is : word / 1024 ≡ leaf.0.page = ap (λ (w : ℕ). w / 1024) leaf.2 ∙ number in
    omega (arith, is, fits)
