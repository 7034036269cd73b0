-- What is remembered of a machine, to bring it back: copies of named objects, the queues with the harts, and whether it
-- was halted. (This project's.)
use Rattle.std.specs.Prelude.{◌≡◌, ℕ, ◌+◌, ◌<◌, ◌==◌, cond, Bool, List, [], ◌∷◌, map, length}
use Rattle.std.specs.List.{All, sum_by}
use Rattle.cap_format.specs.declared.kind.CapKind.{CapKind}
use Rattle.cap_format.specs.declared.kind.CapKind.TheVariants.{Process}
use Rattle.cap_format.specs.declared.item.Item.TheVariants.{Header}
use Rattle.cap_format.specs.Kind.{number_of}
use Rattle.object_store.specs.declared.sizes.Sizes.{Sizes}
use Rattle.object_store.specs.Store.{Store, size_of, sizes_of}
use Rattle.object_store.specs.Object.{ObjectName, object_name, object_at}
use Rattle.object_store.specs.Saved.{Saved, slots_copied}
use Rattle.schedules.specs.Queues.{QueuesValue}
use Rattle.machine_state.specs.declared.places.Place.{Place}
use Rattle.machine_state.specs.Outcome.{Touch}
use Rattle.machine_state.specs.Outcome.Touch.{Changed}

-- the objects that hold the copies, which object is copied where, the queues, and whether the machine was halted
pub record PastValue : Type 0 where
  pub copies : Store
  pub places : List Place
  pub queues : QueuesValue
  pub halted : Bool

-- the name of the object that has a copy in this place
abbrev pub name_at : Place → ObjectName
name_at p = object_name p.kind p.number

-- the names of all objects that have a copy, in the order in which they were kept
abbrev pub names_in : PastValue → List ObjectName
names_in past = map name_at past.places

-- the copy in a place, with its object's name
abbrev pub saved_at : Store → Place → Saved
saved_at copies p = record { name = name_at p; object = object_at copies p.kind p.place }

-- all copies, in the order in which they were kept
abbrev pub saved_in : PastValue → List Saved
saved_in past = map (saved_at past.copies) past.places

-- 1 for a kind and itself, and 0 for two kinds
abbrev pub same_kind : CapKind → CapKind → ℕ
same_kind a b = cond (number_of a == number_of b) 1 0

-- how many copies of a kind there are
abbrev pub used : CapKind → List Place → ℕ
used kind [] = 0
used kind (p ∷ ps) = same_kind p.kind kind + used kind ps

-- how many slots of GPTs are read to put all copies back
abbrev pub slots_back : List Place → ℕ
slots_back places = sum_by (λ p. slots_copied p.kind) places

-- what a translator is told of a copy that is put back: the header of its object changes
abbrev pub touch_back : Place → Touch
touch_back p = Changed (Header p.kind p.number)

-- and of copies, one after the other
abbrev pub touches_back : List Place → List Touch
touches_back places = map touch_back places

-- where the next copy goes: that of a process to its own number, and any other behind those of its kind
abbrev pub next_place : CapKind → ℕ → List Place → ℕ
next_place Process number places = number
next_place kind number places = used kind places

-- a copy of a process stands at its own number, and any other is one of the first of its kind
abbrev pub IsOwnPlace : List Place → CapKind → ℕ → ℕ → Type 0
IsOwnPlace places Process number place = place ≡ number
IsOwnPlace places kind number place = place < used kind places

-- what is kept of every copy: it is there, and no other object has a copy in its place
pub record IsPlaced (copies : Store) (places : List Place) : Type 0 where
  pub there : All (λ p. p.place < size_of copies.items p.kind) places
  pub own : All (λ p. IsOwnPlace places p.kind p.number p.place) places

-- room for what one event changes: 18 pages, one object of each other kind, and all processes
abbrev pub room_of : Sizes → Sizes
room_of sizes = record { harts = sizes.harts; pages = 18; cappages = 1; gpts = 1; processes = sizes.processes; endpoints = 1 }

-- it was made for machines of these sizes
pub record IsFor (past : PastValue) (sizes : Sizes) : Type 0 where
  pub copies : sizes_of past.copies ≡ room_of sizes
  pub processes : length past.queues.sleepers ≡ sizes.processes
  pub harts : length past.queues.harts ≡ sizes.harts

-- each copy is that of its object in this store
pub record Holds (past : PastValue) (s : Store) : Type 0 where
  pub each : All (λ p. object_at past.copies p.kind p.place ≡ object_at s p.kind p.number) past.places
