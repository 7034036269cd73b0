-- Objects of which no capability is dead.
use Rattle.std.specs.Prelude.{◌≡◌, true, map}
use Rattle.std.specs.List.{All}
use Rattle.cap_format.specs.Capability.{Capability, IsCapability}
use Rattle.object_store.specs.Store.{Items, Store}
use Rattle.object_store.specs.Meaning.{is_live, live, gpt_map, process_map, endpoint_map, store_map}
use Rattle.object_store.specs.Ahead.{EachCapability}
use Rattle.object_store.specs.Object.{ObjectValue}
use Rattle.object_store.specs.Object.ObjectValue.{OfPage, OfCapPage, OfGpt, OfProcess, OfEndpoint, OfNone}

-- the objects with Null in place of each capability that is dead; every other keeps its count
abbrev pub live_store : Store → Store
live_store s = store_map (live s.items) s

-- each capability that is stored is live or names no object
abbrev pub AllLive : Store → Type 0
AllLive s = EachCapability (λ c. is_live s.items c ≡ true) s

-- one object with Null in place of each of its capabilities that is dead
abbrev pub live_object : Items → ObjectValue → ObjectValue
live_object o (OfPage count page) = OfPage count page
live_object o (OfCapPage count page) = OfCapPage count (map (live o) page)
live_object o (OfGpt count gpt) = OfGpt count (gpt_map (live o) gpt)
live_object o (OfProcess count process) = OfProcess count (process_map (live o) process)
live_object o (OfEndpoint count endpoint) = OfEndpoint count (endpoint_map (live o) endpoint)
live_object o OfNone = OfNone

-- a fact of each capability of one object
abbrev pub EachIn : (Capability → Type 0) → ObjectValue → Type 0
EachIn P (OfPage count page) = Unit {0}
EachIn P (OfCapPage count page) = All P page
EachIn P (OfGpt count gpt) = All P gpt.slots
EachIn P (OfProcess count process) = All P process.capregs × All P process.slots
EachIn P (OfEndpoint count endpoint) = P endpoint.recipient
EachIn P OfNone = Unit {0}

-- each capability of an object is in its ranges
pub record IsInRanges (object : ObjectValue) : Type 0 where
  pub each : EachIn IsCapability object
