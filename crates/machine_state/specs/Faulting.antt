-- Faults of processes, and the handlers that walks give. (Coyotos; which handler is asked first is this project's.)
use Rattle.std.specs.Prelude.{ℕ, Option, Result, Ok, Err}
use Rattle.cap_format.specs.Capability.{Capability}
use Rattle.cap_format.specs.declared.fault.FaultCode.{FaultCode}
use Rattle.operations.specs.System.{Meant, system}
use Rattle.operations.specs.Meaning.{cap_map}
use Rattle.walk_meaning.specs.declared.place.Place.{Place}
use Rattle.walk_meaning.specs.declared.place.WalkFault.{WalkFault}
use Rattle.walk_engine.specs.declared.hit.Hit.{Hit}
use Rattle.fault_path.specs.Fault.{fault_of}
use Rattle.machine_state.specs.State.{State}
use Rattle.machine_state.specs.Setters.{set_system}

-- a fault with a function applied to its handler, as the meaning is one
abbrev pub fault_map : (Capability → Capability) → WalkFault → WalkFault
fault_map f fault = record { code = fault.code; handler = cap_map f fault.handler }

-- the answer of an access of data with a function applied to its handler
abbrev pub hit_map : (Capability → Capability) → Result Hit WalkFault → Result Hit WalkFault
hit_map f (Ok hit) = Ok hit
hit_map f (Err fault) = Err (fault_map f fault)

-- the answer of a walk with a function applied to its handler
abbrev pub place_map : (Capability → Capability) → Result Place WalkFault → Result Place WalkFault
place_map f (Ok place) = Ok place
place_map f (Err fault) = Err (fault_map f fault)

-- the state after a fault of process `p` with the handler that its walk gave, by who hears it
unfoldable pub fault_state : State → ℕ → FaultCode → ℕ → Option Capability → State
fault_state s p code address handler =
    set_system s (fault_of Meant (system s.store s.queues) s.store p code address handler)
