-- No capability is ahead of its object: none would come alive when the object's count rises.
use Rattle.std.specs.Prelude.{◌<◌, ◌≤◌}
use Rattle.std.specs.List.{All}
use Rattle.cap_format.specs.Kind.{object_kind}
use Rattle.cap_format.specs.Capability.{Capability}
use Rattle.object_store.specs.Store.{Items, Store, size_of, count_of}

-- the capability's count is not above that of the object it names, where that object's number is below its size
abbrev pub IsBehind : Items → Capability → Type 0
IsBehind o c = c.object < size_of o (object_kind c.kind) → c.count ≤ count_of o (object_kind c.kind) c.object

-- a fact of each capability that is stored in the objects
pub record EachCapability (P : Capability → Type 0) (s : Store) : Type 0 where
  pub slots : All (λ gpt. All P gpt.slots) s.items.gpts
  pub cappages : All (All P) s.contents.cappages
  pub capregs : All (λ process. All P process.capregs) s.contents.processes
  pub process_slots : All (λ process. All P process.slots) s.contents.processes
  pub recipients : All (λ endpoint. P endpoint.recipient) s.contents.endpoints

-- no capability that is stored is ahead
abbrev pub NoneAhead : Store → Type 0
NoneAhead s = EachCapability (IsBehind s.items) s
