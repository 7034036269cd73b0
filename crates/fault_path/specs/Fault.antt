-- What becomes of a fault: a function of the objects as they mean and of who stands where. (Coyotos; which handler is
-- asked first, and the words of the message, are this project's.)
use Rattle.std.specs.Prelude.{ℕ, Bool, true, false, if◌then◌else◌, List, [], ◌∷◌, Option, Some, None}
use Rattle.cap_format.specs.declared.fault.FaultCode.{FaultCode}
use Rattle.cap_format.specs.declared.kind.CapKind.TheVariants.{Process, Endpoint}
use Rattle.cap_format.specs.Codes.{fault_number}
use Rattle.cap_format.specs.Capability.{Capability, to_object}
use Rattle.process_objects.specs.declared.state.State.TheVariants.{Faulted}
use Rattle.process_objects.specs.Process.{ProcessValue, slot_of, with_state}
use Rattle.object_store.specs.Store.{Store, process_at, with_process}
use Rattle.object_store.specs.Object.{ObjectName, object_name}
use Rattle.schedules.specs.Queues.{left}
use Rattle.invocation.specs.declared.message.Message.{Message}
use Rattle.invocation.specs.Answerer.{Answer, answerer}
use Rattle.invocation.specs.Answerer.Answer.{Dead, Open, Busy}
use Rattle.operations.specs.System.{System, system, Reading, count_in}
use Rattle.fault_path.specs.message_path.Messages.{told_system, waiting}
use Rattle.fault_path.specs.declared.outcome.Outcome.{Outcome}
use Rattle.fault_path.specs.declared.outcome.Outcome.TheVariants.{Delivered, MustWait, Unheard}

-- ---- who hears it

-- somebody answers
abbrev pub is_answer : Answer → Bool
is_answer Dead = false
is_answer (Open e q) = true
is_answer (Busy q) = true

-- the handler that is asked: the walk's, where somebody answers it, and otherwise that of the process
unfoldable pub handler_of : Store → ℕ → Option Capability → Capability
handler_of s p None = slot_of (process_at s p) 2
handler_of s p (Some handler) = if is_answer (answerer s handler) then handler else slot_of (process_at s p) 2

-- ---- what becomes of it

-- what is told: the fault's number, its address and the pc, with a capability to the process
abbrev pub fault_message : Capability → ProcessValue → FaultCode → ℕ → ℕ → Message
fault_message cap process code address payload = record {
  words = fault_number code ∷ address ∷ process.pc ∷ 0 ∷ [];
  payload = payload;
  length = 0;
  cut = false;
  caps = cap ∷ [];
}

-- the process leaves its place and is faulted; its pc stays, and its sleepers sleep on
unfoldable pub faulted : System → ℕ → FaultCode → ℕ → System
faulted w p code address = system (with_process w.store p (with_state (process_at w.store p) (Faulted code address))) (left w.queues p)

-- a fault of process `p` that is answered so, through a handler with this payload
unfoldable pub answered : Reading → System → ℕ → FaultCode → ℕ → ℕ → Answer → System
answered reading w p code address payload Dead = faulted w p code address
answered reading w p code address payload (Busy q) = waiting w p q
answered reading w p code address payload (Open e q) =
    let cap = to_object Process p (count_in reading w.store.items Process p) in
    told_system reading (faulted w p code address) e q (fault_message cap (process_at w.store p) code address payload)

-- what it comes to
abbrev pub outcome_of : Answer → Outcome
outcome_of Dead = Unheard
outcome_of (Open e q) = Delivered q
outcome_of (Busy q) = MustWait q

-- ---- the model

-- who hears a fault of process `p`, with the handler that its walk gave
abbrev pub heard_by : Store → ℕ → Option Capability → Answer
heard_by s p handler = answerer s (handler_of s p handler)

-- the objects and queues after a fault, of the objects as they mean
abbrev pub fault_of : Reading → System → Store → ℕ → FaultCode → ℕ → Option Capability → System
fault_of reading w map p code address handler = answered reading w p code address (handler_of map p handler).payload (heard_by map p handler)

-- ---- which objects it writes

-- the process, and where the fault is heard the endpoint and the recipient
abbrev pub fault_names : ℕ → Answer → List ObjectName
fault_names p Dead = object_name Process p ∷ []
fault_names p (Busy q) = object_name Process p ∷ []
fault_names p (Open e q) = object_name Process p ∷ object_name Endpoint e ∷ object_name Process q ∷ []
