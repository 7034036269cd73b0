-- Objects that were saved with their names, and the store with all of them back in their places.
use Rattle.std.specs.Prelude.{ℕ, ◌<◌, List, [], ◌∷◌}
use Rattle.std.specs.List.{All}
use Rattle.cap_format.specs.declared.kind.CapKind.{CapKind}
use Rattle.cap_format.specs.declared.kind.CapKind.TheVariants.{Gpt}
use Rattle.object_store.specs.Store.{Store, size_of}
use Rattle.object_store.specs.Object.{ObjectName, ObjectValue, object_at, with_object}

-- an object that was saved: its name, and what was stored of it, its count included
pub record Saved : Type 0 where
  pub name : ObjectName
  pub object : ObjectValue

-- the object of this name, as it is stored
abbrev pub saved_of : Store → ObjectName → Saved
saved_of s name = record { name = name; object = object_at s name.kind name.number }

-- the store with these objects back in their places, one after the other
unfoldable pub restored : List Saved → Store → Store
restored [] s = s
restored (saved ∷ more) s = restored more (with_object s saved.name.number saved.object)

-- each of these names is that of an object of the store
abbrev pub AreThere : Store → List ObjectName → Type 0
AreThere s names = All (λ name. name.number < size_of s.items name.kind) names

-- how many slots are read to copy an object of a kind
abbrev pub slots_copied : CapKind → ℕ
slots_copied Gpt = 16
slots_copied _ = 0
