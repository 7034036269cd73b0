-- A pool of frames of 1,024 words, and the tables in it (this project's own).
use Rattle.std.specs.Prelude.{ℕ, Bool, false, if◌then◌else◌, ◌&&◌, ◌==◌, ◌≡◌, ◌⊎◌, ◌<◌, ◌+◌, ◌*◌, ◌/◌, ◌%◌, ◌^◌, List, [], ◌∷◌, ◌++◌, length, slice_index, slice_get, Option, Some, None}
use Rattle.std.specs.List.{list_any}
use Rattle.sv32_tables.specs.declared.leaf.Leaf.{Leaf}
use Rattle.sv32_tables.specs.declared.frame_use.FrameUse.{FrameUse}
use Rattle.sv32_tables.specs.declared.frame_use.FrameUse.TheVariants.{Root, Region}
use Rattle.sv32_tables.specs.Word.{table_of, leaf_word, leaf_of}

-- the words of all frames, one frame after the other, and what the frames in use are for, by their numbers
pub record PoolValue : Type 0 where
  pub words : List ℕ
  pub uses : List FrameUse

-- a pool by its parts
abbrev pub pool_of : List ℕ → List FrameUse → PoolValue
pool_of words uses = record { words = words; uses = uses }

-- a word of a frame
abbrev pub word_at : List ℕ → ℕ → ℕ → ℕ
word_at words frame index = slice_index words (frame * 1024 + index)

-- the root was made
abbrev pub IsRoot : PoolValue → ℕ → Type 0
IsRoot pool root = slice_get pool.uses root ≡ Some Root

-- a page, by its number, of a root that was made
pub record IsPlace (pool : PoolValue) (root page : ℕ) : Type 0 where
  pub made : IsRoot pool root
  pub inside : page < 2 ^ 20

-- the leaf at an index of a table, if there is a table
abbrev pub leaf_below : List ℕ → ℕ → Option ℕ → Option Leaf
leaf_below words index None = None
leaf_below words index (Some table) = leaf_of (word_at words table index)

-- the leaf of a page: none where V = 0 in the word of its region or in its own
abbrev pub leaf_at : PoolValue → ℕ → ℕ → Option Leaf
leaf_at pool root page = leaf_below pool.words (page % 1024) (table_of (word_at pool.words root (page / 1024)))

-- whether a frame has the leaves of this region of this root
abbrev pub is_for : ℕ → ℕ → FrameUse → Bool
is_for root region Root = false
is_for root region (Region r i) = (r == root) && (i == region)

-- whether a region of 1,024 pages has a frame in this root: it was installed into
abbrev pub has_region : PoolValue → ℕ → ℕ → Bool
has_region pool root region = list_any (is_for root region) pool.uses

-- what the frames are for once a region has one: the next frame becomes its own where it has none
abbrev pub with_region : PoolValue → ℕ → ℕ → List FrameUse
with_region pool root region = if has_region pool root region then pool.uses else pool.uses ++ Region root region ∷ []

-- a region needs a frame, and all 256 are in use
pub record LacksFrame (pool : PoolValue) (root region : ℕ) : Type 0 where
  pub full : length pool.uses ≡ 256
  pub needed : has_region pool root region ≡ false

-- no root, no frame in use, and all words 0
pub record IsEmpty (pool : PoolValue) : Type 0 where
  pub unused : pool.uses ≡ []
  pub zeros : (frame index : ℕ) → word_at pool.words frame index ≡ 0

-- a word of a region's frame is 0, or a leaf's
abbrev pub IsLeafWord : ℕ → Type 0
IsLeafWord word = (word ≡ 0) ⊎ ((leaf : Leaf) × (leaf.page < 2 ^ 16) × (word ≡ leaf_word leaf))
