-- What an access comes to that a translator finds by what it keeps.
use Rattle.std.specs.Prelude.{◌≡◌, ℕ, Ok}
use Rattle.cap_format.specs.Capability.{Capability}
use Rattle.object_store.specs.Store.{Items}
use Rattle.walk_meaning.specs.declared.kind.Kind.{Kind}
use Rattle.walk_meaning.specs.declared.place.Place.{Place}
use Rattle.walk_meaning.specs.Walk.{access}

-- a walk of this access reaches a place
pub record IsReached (o : Items) (c : Capability) (address : ℕ) (kind : Kind) : Type 0 where
  pub place : Place
  pub reached : access o c address kind ≡ Ok place

-- an access fetches no slot, and leaves what is kept, and the cache of any hart that does not make it (this project's)
pub record CostsNothing {K C : Type 0} (cost : K → Items → Capability → ℕ → Kind → ℕ) (after : K → Items → Capability → ℕ → Kind → K)
    (spared : K → Items → Capability → ℕ → Kind → C → C) (k : K) (o : Items) (c : Capability) (address : ℕ) (kind : Kind) : Type 0 where
  pub free : cost k o c address kind ≡ 0
  pub stays : after k o c address kind ≡ k
  pub spares : (cache : C) → spared k o c address kind cache ≡ cache
