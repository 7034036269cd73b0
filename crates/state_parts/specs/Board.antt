-- A machine, and the objects from which it started.
use Rattle.std.specs.Prelude.{◌≡◌, List}
use Rattle.object_store.specs.Store.{Store, sizes_of}
use Rattle.object_store.specs.Object.{ObjectName, Stays}
use Rattle.object_store.specs.Saved.{AreThere}
use Rattle.map_cache.specs.Cache.{CacheValue}
use Rattle.machine_state.specs.Machine.{MachineValue}
use Rattle.state_parts.specs.Keys.{HasGptsOnce}

-- the machine, the objects from which it started, and the names of those that may have changed since
pub record BoardValue : Type 0 where
  pub machine : MachineValue CacheValue
  pub desk : Store
  pub changed : List ObjectName

-- the objects `here` are those of the desk, but for those that are named, no GPT twice
pub record IsBoard (here desk : Store) (changed : List ObjectName) : Type 0 where
  pub sizes : sizes_of here ≡ sizes_of desk
  pub there : AreThere desk changed
  pub stays : Stays changed desk here
  pub once : HasGptsOnce changed
