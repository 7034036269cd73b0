-- What steps leave of the caches of the harts that perform none of them.
use Rattle.std.specs.Prelude.{◌≡◌, ◌≢◌, ℕ, List, [], ◌∷◌}
use Rattle.cap_format.specs.Capability.{Capability}
use Rattle.object_store.specs.Store.{Items}
use Rattle.walk_meaning.specs.declared.kind.Kind.{Kind}
use Rattle.machine_state.specs.declared.event.Event.{Event}
use Rattle.machine_state.specs.Machine.{MachineValue, hart_in}
use Rattle.machine_state.specs.State.{state_of}
use Rattle.machine_state.specs.Outcome.{ChangesNone}
use Rattle.kernel_core.specs.Run.{run_touches}

-- a hart performs none of these events
abbrev pub IsIdleIn : ℕ → List Event → Type 0
IsIdleIn hart [] = Unit {0}
IsIdleIn hart (event ∷ events) = (hart ≢ hart_in event) × IsIdleIn hart events

-- an access of data, with what the translator kept before it
pub record Elsewhere (K : Type 0) : Type 0 where
  pub kept : K
  pub items : Items
  pub space : Capability
  pub address : ℕ
  pub kind : Kind

-- what accesses on other harts leave of a cache, one after the other, by what a translator says of one
module _ {K C : Type 0} (spared : K → Items → Capability → ℕ → Kind → C → C) where
  abbrev pub spared_in : List (Elsewhere K) → C → C
  spared_in [] cache = cache
  spared_in (x ∷ xs) cache = spared_in xs (spared x.kept x.items x.space x.address x.kind cache)

  -- a cache is what accesses on other harts, and nothing else, leave of another
  pub record IsSpared (before after : C) : Type 0 where
    pub accesses : List (Elsewhere K)
    pub left : after ≡ spared_in accesses before

-- The cache of each hart that performs none of these events holds no more than before.
abbrev pub GainsNothing : {T C : Type 0} → (T → ℕ → C) → (C → C → Type 0) → List Event → MachineValue T → MachineValue T → Type 0
GainsNothing cache less events m n = (hart : ℕ) → IsIdleIn hart events → less (cache n.translator hart) (cache m.translator hart)

-- Where these events of the machine `m`, which became `n`, change no item, the cache of each hart that performs none of them is
-- what accesses on other harts leave of it.
pub record SparesOthers {T K C : Type 0} (cache : T → ℕ → C) (spared : K → Items → Capability → ℕ → Kind → C → C) (events : List Event) (m n : MachineValue T) : Type 0 where
  pub each : (hart : ℕ) → IsIdleIn hart events → ChangesNone (run_touches (state_of m) events) → IsSpared spared (cache m.translator hart) (cache n.translator hart)
