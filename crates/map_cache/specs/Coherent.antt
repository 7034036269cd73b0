-- Coherence: each leaf is what a fresh walk reaches now, and what that walk reads was recorded (this project's own).
use Rattle.std.specs.Prelude.{ℕ, ◌≡◌, true, not, ◌*◌, List, Some, Ok}
use Rattle.std.specs.List.{AllByRecursion as Each}
use Rattle.cap_format.specs.Capability.{Capability}
use Rattle.guard_math.specs.Block.{holds}
use Rattle.object_store.specs.Store.{Items}
use Rattle.object_store.specs.Meaning.{meaning}
use Rattle.sv32_tables.specs.declared.leaf.Leaf.{Leaf}
use Rattle.sv32_tables.specs.Pool.{IsPlace, leaf_at}
use Rattle.walk_meaning.specs.declared.kind.Kind.TheVariants.{Fetch, Load, Store}
use Rattle.walk_meaning.specs.declared.noted.Noted.{Noted}
use Rattle.walk_meaning.specs.declared.place.Place.{Place}
use Rattle.walk_meaning.specs.Walk.{access, denied}
use Rattle.walk_meaning.specs.Trail.{trail}
use Rattle.depend_table.specs.Depend.{Depend, depend, has}
use Rattle.map_cache.specs.Cache.{CacheValue, space_at}

-- A leaf is fresh where the load from the space at its page reaches the leaf's page, and it may be written exactly where
-- RO was not met, and executed exactly where NX was not met. P holds of each read of that walk.
pub record IsFresh (o : Items) (space : Capability) (page : ℕ) (leaf : Leaf) (P : Noted → Type 0) : Type 0 where
  pub place : Place
  pub reached : access o (meaning o space) (page * 4096) Load ≡ Ok place
  pub number : place.number ≡ leaf.page
  pub write : leaf.write ≡ not (denied Store place.restr.0)
  pub execute : leaf.execute ≡ not (denied Fetch place.restr.0)
  pub reads : Each P (trail o (meaning o space) (page * 4096) Load)

-- a read has its record under a root, for a block that has the page
pub record IsRecorded (records : List Depend) (root page : ℕ) (n : Noted) : Type 0 where
  pub there : has records (depend n.item root n.block) ≡ true
  pub held : holds n.block page ≡ true

-- each leaf of the tables is fresh, and the reads of its walk are recorded
abbrev pub IsCoherent : CacheValue → Items → Type 0
IsCoherent v o = (root page : ℕ) (leaf : Leaf) → IsPlace v.tables root page → leaf_at v.tables root page ≡ Some leaf
    → IsFresh o (space_at v.keys root) page leaf (IsRecorded v.records root page)
