-- What a message makes of its endpoint and of its receiver. These are functions of the model's map and of what is
-- stored alike. (Coyotos; the registers are this project's.)
use Rattle.std.specs.Prelude.{ℕ, ◌+◌, ◌*◌, min, Bool, if◌then◌else◌, List, [], ◌∷◌, length, map, take, replicate, slice_index}
use Rattle.cap_format.specs.declared.kind.CapKind.TheVariants.{Endpoint, Process}
use Rattle.cap_format.specs.Capability.{Capability}
use Rattle.process_objects.specs.declared.wait.Wait.TheVariants.{Open as OpenWait}
use Rattle.process_objects.specs.declared.state.State.{State}
use Rattle.process_objects.specs.declared.state.State.TheVariants.{Running, Receiving, Faulted}
use Rattle.process_objects.specs.Accept.{AcceptValue, accept_of}
use Rattle.process_objects.specs.Process.{ProcessValue, capreg_of, with_reg, with_capreg}
use Rattle.endpoint_objects.specs.declared.endpoint.Endpoint.{Endpoint as EndpointValue}
use Rattle.endpoint_objects.specs.Endpoint.{raised}
use Rattle.object_store.specs.Store.{Store, process_at, endpoint_at, with_process, with_endpoint}
use Rattle.object_store.specs.Object.{ObjectName, object_name}
use Rattle.invocation.specs.declared.message.Message.{Message}

-- the message with a function applied to each capability, as the meaning is one
abbrev pub message_map : (Capability → Capability) → Message → Message
message_map f message = record message { caps = map f message.caps }

-- the capabilities in these registers of process `p`, in their order
abbrev pub sent_by : Store → ℕ → List ℕ → List Capability
sent_by s p registers = map (capreg_of (process_at s p)) registers

-- ---- the endpoint

-- an endpoint that matches payloads goes on to the next one
abbrev pub passed : EndpointValue → EndpointValue
passed endpoint = if endpoint.matching then raised endpoint else endpoint

-- a message went through endpoint `e`
abbrev pub passed_at : Store → ℕ → Store
passed_at s e = with_endpoint s e (passed (endpoint_at s e))

-- ---- the receiver, a function of what it is

-- what a process in this state accepts: nothing where it doesn't receive
abbrev pub accepted : State → AcceptValue
accepted (Receiving accept) = accept
accepted Running = accept_of OpenWait 0 (replicate 4 0) 0 0
accepted (Faulted code address) = accept_of OpenWait 0 (replicate 4 0) 0 0

-- the registers to which capabilities go, in their order
abbrev pub accepting : AcceptValue → List ℕ
accepting accept = take accept.caps accept.regs

-- how many capabilities are delivered
abbrev pub number_given : AcceptValue → List Capability → ℕ
number_given accept caps = min (length caps) accept.caps

-- x10 afterwards: 1, 256 where the string was cut, and 65,536 times the number of capabilities delivered
abbrev pub status_of : Bool → ℕ → ℕ
status_of cut number = 1 + (if cut then 256 else 0) + 65536 * number

-- the process with the four words in x11 to x14
abbrev pub worded : ProcessValue → List ℕ → ProcessValue
worded process words =
    with_reg (with_reg (with_reg (with_reg process 11 (slice_index words 0)) 12 (slice_index words 1)) 13 (slice_index words 2)) 14 (slice_index words 3)

-- the process with its registers as a message from an endpoint with this id leaves them: x10 the status, x11 to x14 the
-- words, x15 the entry's payload, x16 the number of bytes delivered, x22 the id
unfoldable pub told_process : ProcessValue → ℕ → ℕ → Message → ProcessValue
told_process process id number message =
    with_reg (with_reg (with_reg (worded (with_reg process 10 (status_of message.cut number)) message.words) 15 message.payload) 16 message.length) 22 id

-- the process with capabilities written to registers, in their order: a register named twice keeps the later one
unfoldable pub given : ProcessValue → List ℕ → List Capability → ProcessValue
given process [] caps = process
given process (i ∷ is) [] = process
given process (i ∷ is) (cap ∷ caps) = given (with_capreg process i cap) is caps

-- the receiver of a message, with all that the message changes of it
unfoldable pub received : ProcessValue → ℕ → Message → ProcessValue
received process id message =
    let accept = accepted process.state in
    given (told_process process id (number_given accept message.caps) message) (accepting accept) message.caps

-- ---- both

-- a message to process `q` through endpoint `e`, but for its string and for making the receiver ready
unfoldable pub delivered : Store → ℕ → ℕ → Message → Store
delivered s e q message = with_process (passed_at s e) q (received (process_at s q) (endpoint_at s e).id message)

-- the objects that a message changes: the endpoint, whether it matches payloads or not, and the receiver
abbrev pub changed_by_message : ℕ → ℕ → List ObjectName
changed_by_message e q = object_name Endpoint e ∷ object_name Process q ∷ []
