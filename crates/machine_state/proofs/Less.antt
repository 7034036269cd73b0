-- What touches leave of a cache holds no more than it.
use Rattle.std.proofs.Common.{◌≡◌, ℕ, List, [], ◌∷◌, sym, subst}
use Rattle.cap_format.specs.Capability.{Capability}
use Rattle.cap_format.specs.declared.item.Item.{Item}
use Rattle.object_store.specs.Store.{Items}
use Rattle.walk_meaning.specs.declared.kind.Kind.{Kind}
use Rattle.machine_state.specs.Outcome.{Touch, spared_by}
use Rattle.machine_state.specs.Outcome.Touch.{DataAccess, CapAccess, GptCall, Changed}

-- by what a translator says of one access and of one change, and its order of caches
module _ {K C : Type 0} (after : K → Items → Capability → ℕ → Kind → K) (without : K → Item → K)
    (spared : K → Items → Capability → ℕ → Kind → C → C) (purged : K → Item → C → C)
    (less : C → C → Type 0) (less_same : (a : C) → less a a) (less_then : (a b c : C) → less a b → less b c → less a c)
    (spared_less : (k : K) (o : Items) (c : Capability) (a : ℕ) (kind : Kind) (cache : C) → less (spared k o c a kind cache) cache)
    (purged_less : (k : K) (item : Item) (cache : C) → less (purged k item cache) cache) where
  less_by : (k : K) (ts : List Touch) (cache : C) → less (spared_by after without spared purged k ts cache) cache
  less_by k [] cache = less_same cache
  less_by k (DataAccess o space address kind ∷ ts) cache =
      less_then _ (spared k o space address kind cache) cache (less_by (after k o space address kind) ts (spared k o space address kind cache)) (spared_less k o space address kind cache)
  less_by k (CapAccess o space address kind ∷ ts) cache = less_by k ts cache
  less_by k (GptCall reads ∷ ts) cache = less_by k ts cache
  less_by k (Changed item ∷ ts) cache = less_then _ (purged k item cache) cache (less_by (without k item) ts (purged k item cache)) (purged_less k item cache)

  -- so it is with a cache that is what touches leave
  pub less_left : (k : K) (ts : List Touch) (old new : C) → new ≡ spared_by after without spared purged k ts old → less new old
  less_left k ts old new left = subst (λ cache. less cache old) (sym left) (less_by k ts old)
