-- A pool of frames in which roots are linked to leaf tables, and several roots may be linked to one (this project's own).
use Rattle.std.specs.Prelude.{ℕ, ◌≡◌, ◌⊎◌, ◌<◌, ◌≤◌, ◌*◌, ◌/◌, ◌%◌, List, [], length, slice_index, slice_get, Option, Some}
use Rattle.sv32_tables.specs.declared.leaf.Leaf.{Leaf as Entry}
use Rattle.sv32_tables.specs.declared.shared_use.SharedUse.{SharedUse}
use Rattle.sv32_tables.specs.declared.shared_use.SharedUse.TheVariants.{Root, Leaf}
use Rattle.sv32_tables.specs.Word.{pointer, table_of, leaf_of}
use Rattle.sv32_tables.specs.Pool.{IsLeafWord, leaf_below, word_at}

-- the words of all frames, one frame after the other, and what the frames in use are for, by their numbers
pub record SharedValue : Type 0 where
  pub words : List ℕ
  pub uses : List SharedUse

-- a pool by its parts
abbrev pub shared_of : List ℕ → List SharedUse → SharedValue
shared_of words uses = record { words = words; uses = uses }

-- the root was made
abbrev pub IsSharedRoot : SharedValue → ℕ → Type 0
IsSharedRoot pool root = slice_get pool.uses root ≡ Some Root

-- the leaf table was made
abbrev pub IsLeafTable : SharedValue → ℕ → Type 0
IsLeafTable pool leaf = slice_get pool.uses leaf ≡ Some Leaf

-- the leaf table to which a region of a root is linked
abbrev pub link_at : SharedValue → ℕ → ℕ → Option ℕ
link_at pool root region = table_of (word_at pool.words root region)

-- the entry of a leaf table for the page at a place in its region
abbrev pub entry_at : SharedValue → ℕ → ℕ → Option Entry
entry_at pool leaf index = leaf_of (word_at pool.words leaf index)

-- the entry of a page of a root: that of the leaf table to which its region is linked, if it is
abbrev pub shared_leaf_at : SharedValue → ℕ → ℕ → Option Entry
shared_leaf_at pool root page = leaf_below pool.words (page % 1024) (link_at pool root (page / 1024))

-- no root and no leaf table, and all words 0
pub record IsUnused (pool : SharedValue) : Type 0 where
  pub unused : pool.uses ≡ []
  pub zeros : (frame index : ℕ) → word_at pool.words frame index ≡ 0

-- a word of a root is 0 or leads to a leaf table, and a word of a leaf table is 0 or a leaf's
abbrev pub IsWordOf : List SharedUse → SharedUse → ℕ → Type 0
IsWordOf uses Root word = (word ≡ 0) ⊎ ((leaf : ℕ) × (slice_get uses leaf ≡ Some Leaf) × (word ≡ pointer leaf))
IsWordOf uses Leaf word = IsLeafWord word

-- what is always true of a shared pool's words and of what its frames are for
pub record IsShared (words : List ℕ) (uses : List SharedUse) : Type 0 where
  pub size : length words ≡ 262144
  pub room : length uses ≤ 256
  pub spare : (k : ℕ) → length uses * 1024 ≤ k → slice_index words k ≡ 0
  pub word : (frame index : ℕ) (u : SharedUse) → slice_get uses frame ≡ Some u → index < 1024 → IsWordOf uses u (word_at words frame index)
