-- Stores by the values of their objects.
use Rattle.std.specs.Prelude.{◌≡◌, ℕ, zero, suc, ◌+◌, ◌<◌, ◌==◌, List, [], ◌∷◌, ◌++◌, map, Some, slice_get, slice_index_or}
use Rattle.std.specs.List.{IsDistinct}
use Rattle.cap_format.specs.declared.kind.CapKind.{CapKind}
use Rattle.cap_format.specs.declared.kind.CapKind.TheVariants.{Page, CapPage, Gpt, Process, Endpoint}
use Rattle.object_store.specs.declared.sizes.Sizes.{Sizes}
use Rattle.object_store.specs.Sizes.{size_in}
use Rattle.object_store.specs.Store.{Store, empty_store}
use Rattle.object_store.specs.Object.{ObjectName, ObjectValue, object_name, object_at, IsAmong}
use Rattle.object_store.specs.Object.ObjectValue.{OfNone}
use Rattle.object_store.specs.Saved.{Saved, restored}

-- the number of a GPT, and none of any other object
abbrev pub gpt_numbers : CapKind → ℕ → List ℕ
gpt_numbers Gpt n = n ∷ []
gpt_numbers kind n = []

-- the numbers of the GPTs that are named
abbrev pub gpts_of : List ObjectName → List ℕ
gpts_of [] = []
gpts_of (name ∷ names) = gpt_numbers name.kind name.number ++ gpts_of names

-- no GPT is named twice
pub record HasGptsOnce (names : List ObjectName) : Type 0 where
  pub once : IsDistinct ◌==◌ (gpts_of names)

-- the names of so many objects of a kind
abbrev pub numbered : CapKind → ℕ → List ObjectName
numbered kind zero = []
numbered kind (suc n) = numbered kind n ++ object_name kind n ∷ []

-- the names of all objects in a fixed order: by their kinds, and those of a kind by their numbers
abbrev pub in_order : Sizes → List ObjectName
in_order sizes =
    [] ++ numbered Page sizes.pages ++ numbered CapPage sizes.cappages ++ numbered Gpt sizes.gpts
    ++ numbered Process sizes.processes ++ numbered Endpoint sizes.endpoints

-- how many of them come before those of a kind
abbrev pub before_kind : Sizes → CapKind → ℕ
before_kind sizes CapPage = sizes.pages
before_kind sizes Gpt = sizes.pages + sizes.cappages
before_kind sizes Process = sizes.pages + sizes.cappages + sizes.gpts
before_kind sizes Endpoint = sizes.pages + sizes.cappages + sizes.gpts + sizes.processes
before_kind sizes _ = 0

-- these are the names of all objects there are, and of no other, in that order, and no GPT is named twice
pub record AreAll (sizes : Sizes) (names : List ObjectName) : Type 0 where
  pub all : (kind : CapKind) (n : ℕ) → n < size_in sizes kind → IsAmong kind n names
  pub there : (kind : CapKind) (n : ℕ) → IsAmong kind n names → n < size_in sizes kind
  pub order : names ≡ in_order sizes
  pub once : HasGptsOnce names

-- the object of a name
abbrev pub named_in : Store → ObjectName → ObjectValue
named_in s name = object_at s name.kind name.number

-- the objects of these names, in their order
abbrev pub objects_of : List ObjectName → Store → List ObjectValue
objects_of names s = map (named_in s) names

-- what has these numbers in a table
abbrev pub values_of : List ObjectValue → List ℕ → List ObjectValue
values_of table numbers = map (λ i. slice_index_or table i OfNone) numbers

-- each number stands for the object of its name
pub record Reads (table : List ObjectValue) (numbers : List ℕ) (objects : List ObjectValue) : Type 0 where
  pub each : map (slice_get table) numbers ≡ map Some objects

-- objects with their names; what is too much is left out
abbrev pub saved_by : List ObjectName → List ObjectValue → List Saved
saved_by [] objects = []
saved_by (name ∷ names) [] = []
saved_by (name ∷ names) (object ∷ objects) = record { name = name; object = object } ∷ saved_by names objects

-- the store of these sizes with these objects
abbrev pub store_by : Sizes → List ObjectName → List ObjectValue → Store
store_by sizes names objects = restored (saved_by names objects) (empty_store sizes)
