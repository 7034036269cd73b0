-- A walk on its way: what is still to come, after what was noted and read, is the whole.
use Rattle.std.specs.Prelude.{◌≡◌, ℕ, ◌+◌, List, ◌++◌, Option, Ok, Err}
use Rattle.cap_format.specs.Capability.{Capability}
use Rattle.cap_format.specs.declared.fault.FaultCode.{FaultCode}
use Rattle.object_store.specs.Store.{Items}
use Rattle.walk_meaning.specs.declared.at.At.{At}
use Rattle.walk_meaning.specs.declared.kind.Kind.{Kind}
use Rattle.walk_meaning.specs.declared.noted.Noted.{Noted}
use Rattle.walk_meaning.specs.declared.place.Place.{Place}
use Rattle.walk_meaning.specs.Walk.{walk, fault, access}
use Rattle.walk_meaning.specs.Trail.{trail_from, trail, handler_cost, slots_from, slots}

-- a walk that stands before capability c, may meet n capabilities, noted these reads, and read as many slots
pub record IsOnWay (o : Items) (space : Capability) (address : ℕ) (kind : Kind) (n : ℕ) (c : Capability) (w : At) (reads : List Noted) (start count : ℕ) : Type 0 where
  pub place : walk o kind n c w ≡ access o space address kind
  pub noted : reads ++ trail_from o kind address n c w ≡ trail o space address kind
  pub counted : count + slots_from o kind n c w ≡ start + slots o space address kind

-- a walk that ended: at a place
pub record WalkEndsAt (o : Items) (space : Capability) (address : ℕ) (kind : Kind) (place : Place) (reads : List Noted) (start count : ℕ) : Type 0 where
  pub reached : access o space address kind ≡ Ok place
  pub noted : reads ≡ trail o space address kind
  pub counted : count ≡ start + slots o space address kind

-- or in a fault, whose handler is still to be read
pub record WalkEndsIn (o : Items) (space : Capability) (address : ℕ) (kind : Kind) (code : FaultCode) (handler : Option ℕ) (start count : ℕ) : Type 0 where
  pub faulted : access o space address kind ≡ Err (fault o code handler)
  pub counted : count + handler_cost handler ≡ start + slots o space address kind
