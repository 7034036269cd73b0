-- What a process asks of the kernel, and what an operation changes and touches. (Coyotos)
use Rattle.std.specs.Prelude.{ℕ, ◌==◌, ◌&&◌, if◌then◌else◌, List, [], ◌∷◌, ◌++◌, slice_get, Option, Some, None}
use Rattle.cap_format.specs.declared.code.Code.{Code}
use Rattle.cap_format.specs.declared.kind.CapKind.{CapKind}
use Rattle.cap_format.specs.declared.item.Item.{Item}
use Rattle.cap_format.specs.declared.request.Request.{Request}
use Rattle.cap_format.specs.Capability.{Capability, null}
use Rattle.process_objects.specs.Process.{ProcessValue, capreg_of}
use Rattle.object_store.specs.Object.{ObjectName}
use Rattle.operations.specs.System.{Meant, system}
use Rattle.operations.specs.Change.{Change, applied_all}
use Rattle.operations.specs.Changed.{names_in}
use Rattle.operations.specs.Request.{w1}
use Rattle.operations.specs.Memory.{is_gpt, is_granted}
use Rattle.invocation.specs.Invocation.{InvocationValue}
use Rattle.machine_state.specs.State.{State}
use Rattle.machine_state.specs.Setters.{set_system}
use Rattle.machine_state.specs.Outcome.{Touch}
use Rattle.machine_state.specs.Outcome.Touch.{GptCall, Changed}

-- the capability in the first register sent, or Null where none is sent
abbrev pub first_sent : ProcessValue → Option ℕ → Capability
first_sent q None = null
first_sent q (Some i) = capreg_of q i

-- what a process asks for by an invocation
abbrev pub request_of : ProcessValue → InvocationValue → Request
request_of q inv = record { words = inv.words; sent = first_sent q (slice_get inv.sent 0) }

-- the state after these changes, one after the other
abbrev pub changed_by : State → List Change → State
changed_by s changes = set_system s (applied_all Meant (system s.store s.queues) changes)

-- the objects that these changes write, one after the other
abbrev pub changed_names : State → List Change → List ObjectName
changed_names s changes = names_in Meant (system s.store s.queues) changes

-- the touch of a request to a capability of a memory kind that ends with this code: where it is a GPT's, that it is
-- invoked, and that a slot was read where it is a `getslot` that was granted
abbrev pub gpt_touches : CapKind → ℕ → Code → List Touch
gpt_touches kind number code = if is_gpt kind then GptCall (number == 8 && is_granted code) ∷ [] else []

-- the touch of an item that changed, if one did
abbrev pub change_touches : Option Item → List Touch
change_touches None = []
change_touches (Some item) = Changed item ∷ []

-- the touches of an operation on a capability of a memory kind that ends with this code and changes this item
abbrev pub memory_touches : Capability → Request → Code → Option Item → List Touch
memory_touches cap request code item = gpt_touches cap.kind (w1 request) code ++ change_touches item
