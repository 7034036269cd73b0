-- Operations of the kernel on the capability that is invoked, with their replies. (Coyotos)
use Rattle.std.specs.Prelude.{ℕ, ◌==◌, ◌&&◌, ◌||◌, nat_lt, Bool, false, if◌then◌else◌, slice_index, List, [], ◌∷◌, Option, Some, None}
use Rattle.cap_format.specs.declared.kind.CapKind.{CapKind}
use Rattle.cap_format.specs.declared.kind.CapKind.TheVariants.{KernLog, SysCtl}
use Rattle.cap_format.specs.declared.code.Code.TheVariants.{RequestError}
use Rattle.cap_format.specs.declared.request.Request.{Request}
use Rattle.cap_format.specs.declared.request.Reply.{Reply}
use Rattle.cap_format.specs.declared.item.Item.{Item}
use Rattle.cap_format.specs.declared.item.Item.TheVariants.{Header}
use Rattle.cap_format.specs.Kind.{is_memory}
use Rattle.cap_format.specs.Capability.{Capability}
use Rattle.process_objects.specs.Accept.{AcceptValue}
use Rattle.object_store.specs.Object.{ObjectName, object_name}
use Rattle.operations.specs.System.{Meant}
use Rattle.operations.specs.Change.{Change, Destroyed, item_in}
use Rattle.operations.specs.Row.{Row, Settled, nothing, granted, refused, reply_of, settled_in}
use Rattle.operations.specs.Memory.{kind_row, memory_operation}
use Rattle.operations.specs.Control.{is_process, control_operation}
use Rattle.invocation.specs.Invocation.{InvocationValue}
use Rattle.string_move.specs.declared.piece.Piece.{Piece}
use Rattle.string_move.specs.Spans.{spans}
use Rattle.string_move.specs.Move.{gathered}
use Rattle.walk_meaning.specs.declared.kind.Kind.TheVariants.{Load}
use Rattle.machine_state.specs.declared.record.Record.{Record}
use Rattle.machine_state.specs.declared.record.Record.TheVariants.{Destroy, Halt, Log}
use Rattle.machine_state.specs.State.{State, process}
use Rattle.machine_state.specs.Setters.{advance, halted}
use Rattle.machine_state.specs.Outcome.{Outcome, done, recorded}
use Rattle.machine_state.specs.Operation.{request_of, changed_by, changed_names, change_touches, memory_touches}
use Rattle.machine_state.specs.Reply.{set_reply}
use Rattle.messages.specs.declared.string_fault.StringFault.{StringFault}
use Rattle.messages.specs.Followed.{followed}
use Rattle.messages.specs.Fault.{fault}
use Rattle.messages.specs.Strings.{Side, side, side_outcome}

-- the number of the request that is made: the first word
abbrev pub asked_number : InvocationValue → ℕ
asked_number inv = slice_index inv.words 0

-- the process goes on behind its instruction, with a reply and nothing else
abbrev pub answered_call : State → ℕ → InvocationValue → Reply → Outcome
answered_call s p inv reply = done (set_reply (advance s p) p inv.accept reply)

-- ---- memory kinds

-- what a request to a capability of a memory kind comes to, with its reply written last
abbrev pub memory_answered : State → ℕ → InvocationValue → Capability → Request → Settled → Outcome
memory_answered s p inv cap request settled = record {
  state = set_reply (changed_by s settled.answer.changes) p inv.accept (reply_of settled);
  records = [];
  touches = memory_touches cap request settled.code (item_in settled.answer.changes);
  changed = object_name cap.kind cap.object ∷ [];
}

-- the operation of a process that has advanced
abbrev pub memory_op : State → ℕ → InvocationValue → Capability → Outcome
memory_op s p inv cap =
    let request = request_of (process s p) inv in
    memory_answered s p inv cap request (memory_operation s.store cap request)

-- ---- Null, Endpoint, Process, Schedule, Range and Discrim

-- the object that these changes destroy, if any: no operation destroys two
abbrev pub destroyed_by : List Change → Option ObjectName
destroyed_by [] = None
destroyed_by (Destroyed kind n ∷ changes) = Some (object_name kind n)
destroyed_by (change ∷ changes) = destroyed_by changes

-- the record of a destruction
abbrev pub destroy_records : Option ObjectName → List Record
destroy_records None = []
destroy_records (Some name) = Destroy name.kind name.number ∷ []

-- whether it is process `p` that is destroyed
abbrev pub is_end_of : ℕ → Option ObjectName → Bool
is_end_of p None = false
is_end_of p (Some name) = is_process name.kind && (name.number == p)

-- a reply to process `p`, which gets none where it is destroyed
abbrev pub replied_unless : Option ObjectName → State → ℕ → AcceptValue → Reply → State
replied_unless destroyed s p accept reply = if is_end_of p destroyed then s else set_reply s p accept reply

-- what a request to a capability of these kinds comes to, where it destroys this object or none: its changes, then the
-- reply, over what these made of the process
abbrev pub control_answered : State → ℕ → InvocationValue → Settled → Option ObjectName → Outcome
control_answered s p inv settled destroyed = record {
  state = replied_unless destroyed (changed_by s settled.answer.changes) p inv.accept (reply_of settled);
  records = destroy_records destroyed;
  touches = change_touches (item_in settled.answer.changes);
  changed = changed_names s settled.answer.changes;
}

-- the operation of a process that has advanced
abbrev pub control_op : State → ℕ → InvocationValue → Capability → Outcome
control_op s p inv cap =
    let settled = control_operation Meant s.store cap (request_of (process s p) inv) in
    control_answered s p inv settled (destroyed_by settled.answer.changes)

-- the object whose header an item is. Of these operations only a destruction changes one
abbrev pub header_name : Option Item → Option ObjectName
header_name (Some (Header kind n)) = Some (object_name kind n)
header_name _ = None

-- ---- KernLog and SysCtl: each has one request beyond `kind`

-- what they have besides: `kind` alone
abbrev pub kind_table : Capability → List (ℕ × Row)
kind_table cap = (0, kind_row cap) ∷ []

-- SysCtl 8 halt: the machine is halted for good, and that is told
abbrev pub halting : State → ℕ → InvocationValue → Outcome
halting s p inv = recorded (Halt p) (answered_call (halted s) p inv (reply_of (granted nothing)))

-- a request to SysCtl
unfoldable pub sysctl_op : State → ℕ → InvocationValue → Capability → Outcome
sysctl_op s p inv cap =
    if asked_number inv == 8 then halting s p inv
    else answered_call s p inv (reply_of (settled_in (kind_table cap) (asked_number inv)))

-- a string that is no log: of no byte, or of more than 256
abbrev pub is_no_log : ℕ → Bool
is_no_log length = length == 0 || nat_lt 256 length

-- the string that process `p` sends, at this moment
abbrev pub logged_side : State → ℕ → InvocationValue → Side
logged_side s p inv = side s p Load (spans inv.at inv.length)

-- by the fault of the string: where there is none its bytes are told; a fault is the process's, and its pc stays
abbrev pub logged : State → ℕ → InvocationValue → List Piece → Option StringFault → Outcome
logged s p inv pieces None =
    recorded (Log p (gathered s.store pieces)) (answered_call s p inv (reply_of (granted nothing)))
logged s p inv pieces (Some f) = fault s p f.why.code f.address f.why.handler

-- KernLog 8 log, where the string is a log
unfoldable pub log_string : State → ℕ → InvocationValue → Outcome
log_string s p inv =
    let string = logged_side s p inv in
    followed (side_outcome s string) (logged s p inv string.pieces string.fault)

-- a request to KernLog: its string's length is looked at before the string
unfoldable pub kernlog_op : State → ℕ → InvocationValue → Capability → Outcome
kernlog_op s p inv cap =
    if asked_number inv == 8 then
    (if is_no_log inv.length then answered_call s p inv (reply_of (refused RequestError))
    else log_string s p inv)
    else answered_call s p inv (reply_of (settled_in (kind_table cap) (asked_number inv)))

-- ---- all

-- an operation by the kind of its capability: pc has advanced before it
abbrev pub asked_for : State → ℕ → InvocationValue → CapKind → Capability → Outcome
asked_for s p inv KernLog cap = kernlog_op s p inv cap
asked_for s p inv SysCtl cap = sysctl_op s p inv cap
asked_for s p inv kind cap =
    if is_memory kind then memory_op (advance s p) p inv cap
    else control_op (advance s p) p inv cap

-- the operation on a capability that is no entry
unfoldable pub kernel_op : State → ℕ → InvocationValue → Capability → Outcome
kernel_op s p inv cap = asked_for s p inv cap.kind cap
