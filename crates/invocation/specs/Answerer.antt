-- Who answers a message. These are functions of the model's map, where no capability has a count and those that are not
-- live are Null, so each is read as it stands. (Coyotos; the order of the cases is this project's.)
use Rattle.std.specs.Prelude.{ℕ, ◌==◌, ◌&&◌, not, Bool, true, if◌then◌else◌}
use Rattle.cap_format.specs.declared.kind.CapKind.{CapKind}
use Rattle.cap_format.specs.declared.kind.CapKind.TheVariants.{Entry, Process}
use Rattle.cap_format.specs.Capability.{Capability}
use Rattle.process_objects.specs.declared.wait.Wait.{Wait}
use Rattle.process_objects.specs.declared.wait.Wait.TheVariants.{Open as OpenWait, Closed}
use Rattle.process_objects.specs.declared.state.State.{State}
use Rattle.process_objects.specs.declared.state.State.TheVariants.{Running, Receiving, Faulted}
use Rattle.endpoint_objects.specs.declared.endpoint.Endpoint.{Endpoint as EndpointValue}
use Rattle.object_store.specs.Store.{Store, process_at, endpoint_at}

-- nobody, or the process that receives at this endpoint, or one that is busy
pub data Answer : Type 0 where
  Dead : Answer
  Open : ℕ → ℕ → Answer
  Busy : ℕ → Answer

-- whether a wait takes the messages of an endpoint with this id
abbrev pub takes : Wait → ℕ → Bool
takes OpenWait id = true
takes (Closed wanted) id = wanted == id

-- process `q` in this state, asked through endpoint `e` with this id: it answers where it receives, and waits for this
-- endpoint
abbrev pub answered_by : State → ℕ → ℕ → ℕ → Answer
answered_by (Receiving accept) id e q = if takes accept.wait id then Open e q else Busy q
answered_by Running id e q = Busy q
answered_by (Faulted code address) id e q = Busy q

-- the recipient of endpoint `e`, by its kind and object: a process alone answers
abbrev pub asked : Store → ℕ → CapKind → ℕ → Answer
asked s e Process q = answered_by (process_at s q).state (endpoint_at s e).id e q
asked s e _ q = Dead

-- whether an endpoint matches payloads, and this one is another than its own
abbrev pub refuses : EndpointValue → ℕ → Bool
refuses endpoint payload = endpoint.matching && not (payload == endpoint.payload)

-- who answers an entry to endpoint `e` with this payload: the payload is looked at before the recipient
abbrev pub entered : Store → ℕ → ℕ → Answer
entered s e payload =
    if refuses (endpoint_at s e) payload then Dead
    else asked s e (endpoint_at s e).recipient.kind (endpoint_at s e).recipient.object

-- who answers a capability, by its kind: what is no entry has nobody who answers
abbrev pub answered : Store → CapKind → Capability → Answer
answered s Entry c = entered s c.object c.payload
answered s _ c = Dead

-- who answers a capability of the map
unfoldable pub answerer : Store → Capability → Answer
answerer s c = answered s c.kind c
