-- The states of a machine as they are kept.
use Rattle.std.specs.Prelude.{◌≡◌, ◌<◌, List, length, slice_index_or}
use Rattle.cap_format.specs.Capability.{IsCapability}
use Rattle.object_store.specs.declared.sizes.Sizes.{Sizes}
use Rattle.object_store.specs.Store.{Store, sizes_of}
use Rattle.object_store.specs.Meaning.{state_map}
use Rattle.object_store.specs.Ahead.{EachCapability}
use Rattle.object_store.specs.Object.{ObjectName, ObjectValue, IsEven}
use Rattle.machine_state.specs.Machine.{IsMachine}
use Rattle.machine_state.specs.State.{State}
use Rattle.object_parts.specs.Live.{AllLive}
use Rattle.object_parts.specs.Table.{AreApart}
use Rattle.state_parts.specs.declared.key.Key.{Key}
use Rattle.state_parts.specs.Keys.{AreAll, objects_of, values_of, Reads, store_by}
use Rattle.state_parts.specs.Standing.{StandingValue, nowhere}

-- the tables of what was ever seen: how many objects there are, their names, each object once, and each standing once
pub record TablesValue : Type 0 where
  pub sizes : Sizes
  pub names : List ObjectName
  pub objects : List ObjectValue
  pub standings : List StandingValue

-- the objects of a key, in which no capability is dead
abbrev pub store_of : TablesValue → Key → Store
store_of t key = store_by t.sizes t.names (values_of t.objects key.parts.items)

-- who stands where in the state of a key
abbrev pub standing_of : TablesValue → Key → StandingValue
standing_of t key = slice_index_or t.standings key.standing nowhere

-- the state of a key
abbrev pub state_in : TablesValue → Key → State
state_in t key = record { store = state_map (store_of t key); queues = (standing_of t key).queues; halted = (standing_of t key).halted }

-- objects as they are kept: of these sizes, those of a machine with these queues, with each capability live and in its
-- ranges
pub record IsKept (wanted : Sizes) (s : Store) (standing : StandingValue) : Type 0 where
  pub even : IsEven s
  pub sizes : sizes_of s ≡ wanted
  pub machine : IsMachine s standing.queues
  pub live : AllLive s
  pub ranges : EachCapability IsCapability s

-- what tables keep: all objects are named, and nothing stands in a table twice
pub record AreTables (t : TablesValue) : Type 0 where
  pub names : AreAll t.sizes t.names
  pub objects : AreApart t.objects
  pub standings : AreApart t.standings

-- the key stands for a state
pub record Held (t : TablesValue) (key : Key) : Type 0 where
  pub tables : AreTables t
  pub reads : Reads t.objects key.parts.items (objects_of t.names (store_of t key))
  pub standing : key.standing < length t.standings
  pub kept : IsKept t.sizes (store_of t key) (standing_of t key)
