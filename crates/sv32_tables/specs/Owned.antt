-- A pool in which each leaf table has one root and one region, as a shared pool whose frames have owners (this project's own).
use Rattle.std.specs.Prelude.{ℕ, ◌≡◌, ◌<◌, List, map, slice_get, Some}
use Rattle.sv32_tables.specs.declared.frame_use.FrameUse.{FrameUse}
use Rattle.sv32_tables.specs.declared.frame_use.FrameUse.TheVariants.{Root, Region}
use Rattle.sv32_tables.specs.declared.shared_use.SharedUse.{SharedUse}
use Rattle.sv32_tables.specs.declared.shared_use.SharedUse.TheVariants.{Root as SharedRoot, Leaf}
use Rattle.sv32_tables.specs.Word.{table_of}
use Rattle.sv32_tables.specs.Pool.{word_at}
use Rattle.sv32_tables.specs.Shared.{IsShared, SharedValue}

-- what a frame is used for, whoever its owner is
abbrev pub plain : FrameUse → SharedUse
plain Root = SharedRoot
plain (Region root region) = Leaf

-- a region's frame hangs under its root
pub record IsUnder (words : List ℕ) (uses : List FrameUse) (frame root region : ℕ) : Type 0 where
  pub made : slice_get uses root ≡ Some Root
  pub inside : region < 1024
  pub led_to : table_of (word_at words root region) ≡ Some frame

-- a region of a root leads to its own frame or to none, and a region's frame hangs under its root alone
pub record IsOwned (words : List ℕ) (uses : List FrameUse) : Type 0 where
  pub first : (root region frame : ℕ) → slice_get uses root ≡ Some Root → region < 1024
      → table_of (word_at words root region) ≡ Some frame → slice_get uses frame ≡ Some (Region root region)
  pub under : (frame root region : ℕ) → slice_get uses frame ≡ Some (Region root region) → IsUnder words uses frame root region

-- what is always true of a pool's words and of what its frames are for
pub record IsPool (words : List ℕ) (uses : List FrameUse) : Type 0 where
  pub shared : IsShared words (map plain uses)
  pub owned : IsOwned words uses

-- the frames of a shared pool have these owners
pub record HasOwners (tables : SharedValue) (uses : List FrameUse) : Type 0 where
  pub plain_uses : tables.uses ≡ map plain uses
  pub owned : IsOwned tables.words uses
