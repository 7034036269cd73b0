-- The states of a machine that were seen.
use Rattle.std.specs.Prelude.{◌≡◌, ℕ, List, Option, Some, slice_get}
use Rattle.cap_format.specs.Capability.{IsCapability}
use Rattle.object_store.specs.declared.sizes.Sizes.{Sizes}
use Rattle.object_store.specs.Store.{Store, sizes_of}
use Rattle.object_store.specs.Ahead.{EachCapability}
use Rattle.object_store.specs.Object.{ObjectName, ObjectValue}
use Rattle.map_cache.specs.Cache.{CacheValue}
use Rattle.machine_state.specs.Machine.{MachineValue}
use Rattle.object_parts.specs.Live.{live_store}
use Rattle.object_parts.specs.Table.{Grows}
use Rattle.state_parts.specs.Keys.{objects_of, Reads}
use Rattle.state_parts.specs.Standing.{StandingValue, standing_at}
use Rattle.state_parts.specs.Space.{TablesValue, AreTables}

-- the tables, and the machine as it is now
pub record StatesValue : Type 0 where
  pub tables : TablesValue
  pub machine : MachineValue CacheValue

-- tables by their parts
abbrev pub tables_of : Sizes → List ObjectName → List ObjectValue → List StandingValue → TablesValue
tables_of sizes names objects standings = record { sizes = sizes; names = names; objects = objects; standings = standings }

-- the objects from which events start have these numbers; no capability of theirs is dead, and each is in its ranges
pub record IsDesk (t : TablesValue) (desk : Store) (at : List ℕ) : Type 0 where
  pub same : sizes_of desk ≡ t.sizes
  pub reads : Reads t.objects at (objects_of t.names desk)
  pub live : live_store desk ≡ desk
  pub ranges : EachCapability IsCapability desk

-- a number that is known is that of who stands where in the machine
pub record IsStanding (t : TablesValue) (known : Option ℕ) (m : MachineValue CacheValue) : Type 0 where
  pub each : (n : ℕ) → known ≡ Some n → slice_get t.standings n ≡ Some (standing_at m)

-- tables of the same objects, to which was added behind what was there
pub record GrowTables (old new : TablesValue) : Type 0 where
  pub sizes : new.sizes ≡ old.sizes
  pub names : new.names ≡ old.names
  pub objects : Grows old.objects new.objects
  pub standings : Grows old.standings new.standings
  pub tables : AreTables new
