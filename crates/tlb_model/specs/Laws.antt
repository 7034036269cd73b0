-- What looking finds after a fill and after a drop.
use Rattle.std.specs.Prelude.{◌≡◌, ◌⊎◌, ◌&&◌, ◌==◌, ℕ, if◌then◌else◌, List, Some, None}
use Rattle.guard_math.specs.Block.{BlockValue, holds}
use Rattle.sv32_tables.specs.declared.leaf.Leaf.{Leaf}
use Rattle.tlb_model.specs.declared.entry.Entry.{Entry}
use Rattle.tlb_model.specs.Tlb.{IsTlb, filled, look, without_block}

-- what a fill makes of the leaves that are found
pub record FindsFilled (entries : List Entry) (root page : ℕ) (leaf : Leaf) : Type 0 where
  -- the new leaf is found
  pub new : look (filled entries root page leaf) root page ≡ Some leaf
  -- what else is found was found before
  pub old : (r p : ℕ) (found : Leaf) → look (filled entries root page leaf) r p ≡ Some found → ((r ≡ root) × (p ≡ page) × (found ≡ leaf)) ⊎ (look entries r p ≡ Some found)

-- whatever a cache holds, after a fill the new leaf is found, and else only what was found before
abbrev pub FillLaw : Type 0
FillLaw = (entries : List Entry) (root page : ℕ) (leaf : Leaf) → IsTlb entries → FindsFilled entries root page leaf

-- a drop of a block hides the pages of the block under the root, and no other
abbrev pub DropLaw : Type 0
DropLaw = (entries : List Entry) (root : ℕ) (block : BlockValue) (r p : ℕ) → look (without_block entries root block) r p ≡ (if (r == root) && holds block p then None else look entries r p)
