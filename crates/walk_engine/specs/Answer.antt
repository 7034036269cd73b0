-- What an answer of a walk means: a handler is given with its count, which the model has not.
use Rattle.std.specs.Prelude.{◌≡◌, true, Option, Some, None, Result, Ok, Err, ⊤}
use Rattle.cap_format.specs.Capability.{Capability, bare}
use Rattle.object_store.specs.Store.{Items}
use Rattle.object_store.specs.Meaning.{is_live}
use Rattle.walk_meaning.specs.declared.place.Place.{Place}
use Rattle.walk_meaning.specs.declared.place.WalkFault.{WalkFault}
use Rattle.walk_engine.specs.declared.hit.Hit.{Hit}

-- a handler without its count
abbrev pub bare_handler : Option Capability → Option Capability
bare_handler None = None
bare_handler (Some c) = Some (bare c)

-- a fault without its handler's count
abbrev pub fault_meaning : WalkFault → WalkFault
fault_meaning fault = record { code = fault.code; handler = bare_handler fault.handler }

-- the answer of a walk over capabilities without counts
abbrev pub answer_meaning : Result Place WalkFault → Result Place WalkFault
answer_meaning (Ok place) = Ok place
answer_meaning (Err fault) = Err (fault_meaning fault)

-- a handler, if there is one, is live or names no object
abbrev pub HandlerLives : Items → Option Capability → Type 0
HandlerLives o None = ⊤
HandlerLives o (Some c) = is_live o c ≡ true

-- a data access's page and offset, of the place that its walk reaches
abbrev pub hit_of : Result Place WalkFault → Result Hit WalkFault
hit_of (Ok place) = Ok (record { page = place.number; offset = place.offset })
hit_of (Err fault) = Err fault

-- the answer of a translation over capabilities without counts
abbrev pub hit_meaning : Result Hit WalkFault → Result Hit WalkFault
hit_meaning (Ok hit) = Ok hit
hit_meaning (Err fault) = Err (fault_meaning fault)
