-- Objects that a machine takes over from another store, by their names. (This project's.)
use Rattle.std.specs.Prelude.{ℕ, List, map}
use Rattle.std.specs.List.{sum_by}
use Rattle.object_store.specs.Object.{ObjectName, object_name}
use Rattle.object_store.specs.Saved.{slots_copied}
use Rattle.machine_state.specs.declared.taking.Name.{Name}

-- the name of an object
abbrev pub name_of : Name → ObjectName
name_of name = object_name name.kind name.number

-- the names of objects
abbrev pub names_of : List Name → List ObjectName
names_of names = map name_of names

-- how many slots are read to take these objects over
abbrev pub slots_taken : List ObjectName → ℕ
slots_taken names = sum_by (λ name. slots_copied name.kind) names
