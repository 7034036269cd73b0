-- What calls do to a pool, and what a history of them leaves at a page.
use Rattle.std.specs.Prelude.{ℕ, if◌then◌else◌, ◌&&◌, ◌==◌, ◌≡◌, ◌↔◌, ◌<◌, ◌^◌, List, [], ◌∷◌, ◌++◌, length, Option, Some, None}
use Rattle.guard_math.specs.Block.{BlockValue, holds}
use Rattle.sv32_tables.specs.declared.leaf.Leaf.{Leaf}
use Rattle.sv32_tables.specs.declared.frame_use.FrameUse.TheVariants.{Root}
use Rattle.sv32_tables.specs.Pool.{IsEmpty, IsPlace, IsRoot, PoolValue, leaf_at}

-- the next frame becomes a root, no word changes, and no page of the root has a leaf
pub record MakesRoot (old new : PoolValue) (root : ℕ) : Type 0 where
  pub number : root ≡ length old.uses
  pub made : IsRoot new root
  pub uses : new.uses ≡ old.uses ++ Root ∷ []
  pub words : new.words ≡ old.words
  pub bare : (page : ℕ) → page < 2 ^ 20 → leaf_at new root page ≡ None

-- this page of this root gets the leaf, and every other place keeps what it had
abbrev pub Installs : PoolValue → PoolValue → ℕ → ℕ → Leaf → Type 0
Installs old new root page leaf =
    (r p : ℕ) → IsPlace old r p → leaf_at new r p ≡ (if (r == root) && (p == page) then Some leaf else leaf_at old r p)

-- this root has no leaf at the pages of the block, and every other place keeps what it had
abbrev pub Clears : PoolValue → PoolValue → ℕ → BlockValue → Type 0
Clears old new root block =
    (r p : ℕ) → IsPlace old r p → leaf_at new r p ≡ (if (r == root) && holds block p then None else leaf_at old r p)

-- the roots are the same
abbrev pub SameRoots : PoolValue → PoolValue → Type 0
SameRoots old new = (r : ℕ) → IsRoot new r ↔ IsRoot old r

-- a call that changed a pool: a root was made, a leaf installed, a block cleared, or all
pub data Change : Type 0 where
  Made : ℕ → Change
  Installed : ℕ → ℕ → Leaf → Change
  Cleared : ℕ → BlockValue → Change
  AllCleared : Change

-- what the call of a change makes of a pool
abbrev pub Follows : Change → PoolValue → PoolValue → Type 0
Follows (Made root) old new = MakesRoot old new root
Follows (Installed root page leaf) old new = Installs old new root page leaf × SameRoots old new
Follows (Cleared root block) old new = Clears old new root block × SameRoots old new
Follows AllCleared old new = IsEmpty new

-- a history, the latest change first, leads from an empty pool to this one
abbrev pub LeadsTo : List Change → PoolValue → Type 0
LeadsTo [] pool = IsEmpty pool
LeadsTo (change ∷ earlier) pool = (before : PoolValue) × LeadsTo earlier before × Follows change before pool

-- the leaf that a history last installed at a page of a root and did not clear since
abbrev pub last_leaf : List Change → ℕ → ℕ → Option Leaf
last_leaf [] root page = None
last_leaf (Made r ∷ earlier) root page = if root == r then None else last_leaf earlier root page
last_leaf (Installed r p leaf ∷ earlier) root page = if (root == r) && (page == p) then Some leaf else last_leaf earlier root page
last_leaf (Cleared r block ∷ earlier) root page = if (root == r) && holds block page then None else last_leaf earlier root page
last_leaf (AllCleared ∷ earlier) root page = None

-- whatever was done to a pool, each page of each root has the leaf last installed there and not cleared since
abbrev pub HasLastLeaves : Type 0
HasLastLeaves = (history : List Change) (pool : PoolValue) → LeadsTo history pool
    → (root page : ℕ) → IsPlace pool root page → leaf_at pool root page ≡ last_leaf history root page
