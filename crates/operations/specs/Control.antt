-- Kernel operations of Null, Endpoint, Process, Schedule, Range and Discrim. (Coyotos; the numbers, the order of
-- refusals and what each refuses are this project's.) One definition a row, and one table a kind.
use Rattle.std.specs.Prelude.{ℕ, ◌%◌, ◌==◌, nat_lt, Bool, true, false, not, ◌&&◌, ◌||◌, if◌then◌else◌, List, [], ◌∷◌, Option, Some, None}
use Rattle.cap_format.specs.declared.kind.CapKind.{CapKind}
use Rattle.cap_format.specs.declared.kind.CapKind.TheVariants.{Null, Endpoint, Process, Schedule, Range, Discrim}
use Rattle.cap_format.specs.declared.code.Code.TheVariants.{InvalidCap}
use Rattle.cap_format.specs.declared.request.Request.{Request}
use Rattle.cap_format.specs.Kind.{number_of, kind_with, is_object}
use Rattle.cap_format.specs.Codes.{fault_number}
use Rattle.cap_format.specs.Capability.{Capability, entry, schedule, to_object}
use Rattle.cap_format.specs.Weakening.{is_harmless}
use Rattle.process_objects.specs.declared.state.State.{State as RunState}
use Rattle.process_objects.specs.declared.state.State.TheVariants.{Running, Receiving, Faulted}
use Rattle.process_objects.specs.Process.{ProcessValue, reg_of, capreg_of, slot_of, with_pc, with_reg, with_capreg, with_slot, with_state, stopped}
use Rattle.endpoint_objects.specs.declared.endpoint.Endpoint.{Endpoint as EndpointValue}
use Rattle.object_store.specs.Store.{Store, size_of, count_of, process_at, endpoint_at}
use Rattle.operations.specs.System.{Reading, count_in}
use Rattle.operations.specs.Change.{Change, EndpointIs, ProcessIs, Left, Readied, Woken, Destroyed}
use Rattle.operations.specs.Row.{Row, Answer, Settled, nothing, tells, gives, does, always, unless_error, refused, settled_in}
use Rattle.operations.specs.Request.{w1, w2, w3}
use Rattle.operations.specs.Memory.{kind_row, bit}

-- ---- Endpoint

-- the endpoint that the capability names
abbrev pub endpoint_of : Store → Capability → EndpointValue
endpoint_of s c = endpoint_at s c.object

-- what may be a recipient
abbrev pub may_receive : CapKind → Bool
may_receive Process = true
may_receive Null = true
may_receive _ = false

-- 8 setrecipient: the recipient becomes what was sent
unfoldable pub setrecipient_row : Store → Capability → Request → Row
setrecipient_row s c r =
    unless_error (not (may_receive r.sent.kind))
    (does (EndpointIs c.object (record (endpoint_of s c) { recipient = r.sent }) ∷ []))

-- 9 getid: w2 = id, w3 = 1 where match, w4 = payload
unfoldable pub getid_row : Store → Capability → Row
getid_row s c = let endpoint = endpoint_of s c in always (tells endpoint.id (bit endpoint.matching) endpoint.payload)

-- 10 setid: the id becomes w2
unfoldable pub setid_row : Store → Capability → Request → Row
setid_row s c r = always (does (EndpointIs c.object (record (endpoint_of s c) { id = w2 r }) ∷ []))

-- 11 setmatch: w2 = 1 sets the flag, 0 clears it
unfoldable pub setmatch_row : Store → Capability → Request → Row
setmatch_row s c r =
    unless_error (nat_lt 1 (w2 r))
    (does (EndpointIs c.object (record (endpoint_of s c) { matching = (w2 r == 1) }) ∷ []))

-- 12 makeentry: an Entry to this endpoint with payload w2
unfoldable pub makeentry_row : Capability → Request → Row
makeentry_row c r = always (gives (entry c.object c.count (w2 r)))

-- 13 setpayload: the payload becomes w2
unfoldable pub setpayload_row : Store → Capability → Request → Row
setpayload_row s c r = always (does (EndpointIs c.object (record (endpoint_of s c) { payload = w2 r }) ∷ []))

-- an endpoint: the row that has a number, if there is one
unfoldable pub endpoint_table : Store → Capability → Request → List (ℕ × Row)
endpoint_table s c r =
    (8, setrecipient_row s c r)
    ∷ (9, getid_row s c)
    ∷ (10, setid_row s c r)
    ∷ (11, setmatch_row s c r)
    ∷ (12, makeentry_row c r)
    ∷ (13, setpayload_row s c r)
    ∷ []

-- ---- Process

-- the process that the capability names
abbrev pub process_of : Store → Capability → ProcessValue
process_of s c = process_at s c.object

-- register `i`, where 0 is the pc
unfoldable pub number_in : ProcessValue → ℕ → ℕ
number_in process i = if i == 0 then process.pc else reg_of process i

-- the process with another number in register `i`, where 0 is the pc
unfoldable pub with_number : ProcessValue → ℕ → ℕ → ProcessValue
with_number process i value = if i == 0 then with_pc process value else with_reg process i value

-- w2 to w4 of a state
abbrev pub tells_state : RunState → Answer
tells_state Running = tells 0 0 0
tells_state (Receiving accept) = tells 1 0 0
tells_state (Faulted code address) = tells 2 (fault_number code) address

-- whether a process is at a fault or was stopped
abbrev pub is_faulted : RunState → Bool
is_faulted Running = false
is_faulted (Receiving accept) = false
is_faulted (Faulted code address) = true

-- 8 getreg: w2 = what register w2 holds
unfoldable pub getreg_row : Store → Capability → Request → Row
getreg_row s c r = unless_error (nat_lt 31 (w2 r)) (tells (number_in (process_of s c) (w2 r)) 0 0)

-- 9 setreg: register w2 becomes w3
unfoldable pub setreg_row : Store → Capability → Request → Row
setreg_row s c r =
    unless_error (nat_lt 31 (w2 r) || (w2 r == 0 && not (w3 r % 4 == 0)))
    (does (ProcessIs c.object (with_number (process_of s c) (w2 r) (w3 r)) ∷ []))

-- 10 getcapreg: the capability of capability register w2
unfoldable pub getcapreg_row : Store → Capability → Request → Row
getcapreg_row s c r = unless_error (nat_lt 31 (w2 r)) (gives (capreg_of (process_of s c) (w2 r)))

-- 11 setcapreg: capability register w2 becomes what was sent
unfoldable pub setcapreg_row : Store → Capability → Request → Row
setcapreg_row s c r =
    unless_error (w2 r == 0 || nat_lt 31 (w2 r))
    (does (ProcessIs c.object (with_capreg (process_of s c) (w2 r) r.sent) ∷ []))

-- 12 getslot: the capability of slot w2
unfoldable pub getslot_row : Store → Capability → Request → Row
getslot_row s c r = unless_error (nat_lt 2 (w2 r)) (gives (slot_of (process_of s c) (w2 r)))

-- 13 setslot: slot w2 becomes what was sent
unfoldable pub setslot_row : Store → Capability → Request → Row
setslot_row s c r =
    unless_error (nat_lt 2 (w2 r))
    (does (ProcessIs c.object (with_slot (process_of s c) (w2 r) r.sent) ∷ []))

-- 14 getstate: w2 = 0 Running, 1 Receiving, 2 Faulted, which has w3 = code and w4 = address
unfoldable pub getstate_row : Store → Capability → Row
getstate_row s c = always (tells_state (process_of s c).state)

-- 15 resume: a Faulted process is made ready
unfoldable pub resume_row : Store → Capability → Row
resume_row s c = unless_error (not (is_faulted (process_of s c).state)) (does (Readied c.object ∷ []))

-- a process is stopped: it leaves its place
abbrev pub stopping : Store → ℕ → List Change
stopping s p = Left p ∷ ProcessIs p (with_state (process_at s p) stopped) ∷ []

-- 16 stop: the process is stopped; its sleepers sleep on
unfoldable pub stop_row : Store → Capability → Row
stop_row s c = unless_error (is_faulted (process_of s c).state) (does (stopping s c.object))

-- a process
unfoldable pub process_table : Store → Capability → Request → List (ℕ × Row)
process_table s c r =
    (8, getreg_row s c r)
    ∷ (9, setreg_row s c r)
    ∷ (10, getcapreg_row s c r)
    ∷ (11, setcapreg_row s c r)
    ∷ (12, getslot_row s c r)
    ∷ (13, setslot_row s c r)
    ∷ (14, getstate_row s c)
    ∷ (15, resume_row s c)
    ∷ (16, stop_row s c)
    ∷ []

-- ---- Schedule

-- 8 priority: w2 = the priority
unfoldable pub priority_row : Capability → Row
priority_row c = always (tells c.object 0 0)

-- 9 lower: a Schedule of priority w2
unfoldable pub lower_row : Capability → Request → Row
lower_row c r = unless_error (nat_lt c.object (w2 r)) (gives (schedule (w2 r)))

-- a schedule
unfoldable pub schedule_table : Capability → Request → List (ℕ × Row)
schedule_table c r =
    (8, priority_row c)
    ∷ (9, lower_row c r)
    ∷ []

-- ---- Range

-- a capability to object `number` of a kind, where there is such an object
unfoldable pub obtained : Reading → Store → Option CapKind → ℕ → Row
obtained reading s None number = unless_error true nothing
obtained reading s (Some kind) number =
    unless_error (not (nat_lt number (size_of s.items kind)))
    (gives (to_object kind number (count_in reading s.items kind number)))

-- 8 getcap: a capability to object w3 of the kind with type number w2
unfoldable pub getcap_row : Reading → Store → Request → Row
getcap_row reading s r = obtained reading s (kind_with (w2 r)) (w3 r)

-- whether a capability is to a process
abbrev pub is_process : CapKind → Bool
is_process Process = true
is_process _ = false

-- what a destruction changes: a process is stopped first, and its sleepers are woken
unfoldable pub destruction_of : Store → CapKind → ℕ → List Change
destruction_of s kind n =
    if is_process kind then Left n ∷ ProcessIs n (with_state (process_at s n) stopped) ∷ Woken n ∷ Destroyed kind n ∷ []
    else Destroyed kind n ∷ []

-- 9 destroy: the object of what was sent
unfoldable pub destroy_row : Store → Capability → Row
destroy_row s sent = record {
  no_access = false;
  request_error = not (is_object sent.kind);
  count_spent = (count_of s.items sent.kind sent.object == 1048575);
  answer = does (destruction_of s sent.kind sent.object);
}

-- a range
unfoldable pub range_table : Reading → Store → Request → List (ℕ × Row)
range_table reading s r =
    (8, getcap_row reading s r)
    ∷ (9, destroy_row s r.sent)
    ∷ []

-- ---- Discrim

-- 8 classify: w2 = the type number of what was sent, w3 = 1 where it is harmless
unfoldable pub classify_row : Capability → Row
classify_row sent = always (tells (number_of sent.kind) (bit (is_harmless sent)) 0)

-- a discrim
unfoldable pub discrim_table : Request → List (ℕ × Row)
discrim_table r = (8, classify_row r.sent) ∷ []

-- ---- all of these kinds

-- what a kind has beyond the request `kind`
unfoldable pub own_table : Reading → Store → Capability → Request → CapKind → List (ℕ × Row)
own_table reading s c r Endpoint = endpoint_table s c r
own_table reading s c r Process = process_table s c r
own_table reading s c r Schedule = schedule_table c r
own_table reading s c r Range = range_table reading s r
own_table reading s c r Discrim = discrim_table r
own_table reading s c r _ = []

-- the rows of a kind
unfoldable pub control_table : Reading → Store → Capability → Request → CapKind → List (ℕ × Row)
control_table reading s c r kind =
    (0, kind_row c)
    ∷ own_table reading s c r kind

-- whether it is the kind Null
abbrev pub is_null : CapKind → Bool
is_null Null = true
is_null _ = false

-- a request to a capability of one of these kinds; Null answers none
unfoldable pub control_operation : Reading → Store → Capability → Request → Settled
control_operation reading s c r =
    if is_null c.kind then refused InvalidCap
    else settled_in (control_table reading s c r c.kind) (w1 r)
