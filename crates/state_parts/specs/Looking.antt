-- Numbers that stand for the objects of a store.
use Rattle.std.specs.Prelude.{◌≡◌, ℕ, ◌<◌, ◌⊎◌, List, Some, length, slice_get, slice_index, slice_index_or}
use Rattle.std.specs.List.{All}
use Rattle.cap_format.specs.declared.kind.CapKind.{CapKind}
use Rattle.cap_format.specs.declared.kind.CapKind.TheVariants.{Null, Page, CapPage, Gpt, Process, Endpoint}
use Rattle.object_store.specs.declared.sizes.Sizes.{Sizes}
use Rattle.object_store.specs.Store.{Store, sizes_of}
use Rattle.object_store.specs.Object.{ObjectName, ObjectValue, object_name, IsAmong, IsEven}
use Rattle.object_store.specs.Object.ObjectValue.{OfPage, OfCapPage, OfGpt, OfProcess, OfEndpoint, OfNone}
use Rattle.object_parts.specs.Live.{IsInRanges}
use Rattle.state_parts.specs.Keys.{named_in, objects_of, Reads, HasGptsOnce}

-- the name of no object
abbrev pub no_name : ObjectName
no_name = object_name Null 0

-- all capabilities of these objects are in their ranges
pub record AreRanged (objects : List ObjectValue) : Type 0 where
  pub each : All IsInRanges objects

-- the number stands for the object of a name, which is in its ranges
pub record ReadsLive (table : List ObjectValue) (s : Store) (name : ObjectName) (number : ℕ) : Type 0 where
  pub value : slice_get table number ≡ Some (named_in s name)
  pub ranges : IsInRanges (named_in s name)

-- the object may have changed, or the number stands for it
pub record IsKnown (table : List ObjectValue) (s : Store) (changed : List ObjectName) (name : ObjectName) (number : ℕ) : Type 0 where
  pub known : IsAmong name.kind name.number changed ⊎ ReadsLive table s name number

-- so with each of these names and its number
pub record AreKnown (table : List ObjectValue) (s : Store) (changed names : List ObjectName) (numbers : List ℕ) : Type 0 where
  pub each : (k : ℕ) → k < length names → IsKnown table s changed (slice_index_or names k no_name) (slice_index numbers k)

-- the name is at this place, and at no other
pub record IsPlace (names : List ObjectName) (name : ObjectName) (place : ℕ) : Type 0 where
  pub within : place < length names
  pub here : slice_index_or names place no_name ≡ name
  pub alone : (k : ℕ) → k < length names → slice_index_or names k no_name ≡ name → k ≡ place

-- a number was written where the name is this one, and nowhere else
pub record IsPut (names : List ObjectName) (name : ObjectName) (number : ℕ) (old new : List ℕ) : Type 0 where
  pub many : length new ≡ length old
  pub here : (k : ℕ) → k < length names → slice_index_or names k no_name ≡ name → slice_index new k ≡ number
  pub others : (k : ℕ) → (k < length names → slice_index_or names k no_name ≡ name → ⊥) → slice_index new k ≡ slice_index old k

-- each of the first `n` names is among those that are marked, or has one number in both lists
pub record AreMarked (n : ℕ) (names : List ObjectName) (old new : List ℕ) (marked : List ObjectName) : Type 0 where
  pub each : (k : ℕ) → k < n → IsAmong (slice_index_or names k no_name).kind (slice_index_or names k no_name).number marked ⊎ (slice_index old k ≡ slice_index new k)

-- names were added, all of them among these, and no GPT is named twice where none was
pub record IsMore (names old new : List ObjectName) : Type 0 where
  pub before : (kind : CapKind) (n : ℕ) → IsAmong kind n old → IsAmong kind n new
  pub among : (kind : CapKind) (n : ℕ) → IsAmong kind n new → IsAmong kind n old ⊎ IsAmong kind n names
  pub once : HasGptsOnce old → HasGptsOnce new

-- the store to which these numbers lead
pub record IsTarget (table : List ObjectValue) (names : List ObjectName) (numbers : List ℕ) (wanted : Sizes) (s : Store) : Type 0 where
  pub reads : Reads table numbers (objects_of names s)
  pub even : IsEven s
  pub sizes : sizes_of s ≡ wanted

-- the kind of an object
abbrev pub kind_of : ObjectValue → CapKind
kind_of (OfPage count page) = Page
kind_of (OfCapPage count page) = CapPage
kind_of (OfGpt count gpt) = Gpt
kind_of (OfProcess count process) = Process
kind_of (OfEndpoint count endpoint) = Endpoint
kind_of OfNone = Null

-- the name is among those that are marked, or has the same number in both lists
pub record IsMarked (name : ObjectName) (old new : ℕ) (marked : List ObjectName) : Type 0 where
  pub marks : IsAmong name.kind name.number marked ⊎ (old ≡ new)

-- each of these names is among those that are marked
pub record HasAll (names marked : List ObjectName) : Type 0 where
  pub each : (kind : CapKind) (n : ℕ) → IsAmong kind n names → IsAmong kind n marked
