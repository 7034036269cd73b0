-- How many records an event makes.
use Rattle.std.proofs.Common.{◌≡◌, ℕ, ◌≤◌, ◌%◌, ◌==◌, ◌&&◌, nat_le, Bool, true, false, if◌then◌else◌, List, length, slice_index, Option, Some, None, Result, Ok, Err, arith}
use Rattle.std.proofs.lemmas.Bool.{cond_both, ltb-false, or_parts}
use Rattle.cap_format.specs.declared.kind.CapKind.{CapKind}
use Rattle.cap_format.specs.declared.kind.CapKind.TheVariants.{KernLog, SysCtl}
use Rattle.cap_format.specs.declared.fault.FaultCode.TheVariants.{BadAlign, MalformedSyscall, Breakpoint, BadOpcode}
use Rattle.cap_format.specs.Kind.{is_memory}
use Rattle.cap_format.specs.Capability.{Capability}
use Rattle.object_store.specs.Object.{ObjectName}
use Rattle.invocation.specs.declared.callee.Callee.{Callee}
use Rattle.invocation.specs.declared.callee.Callee.TheVariants.{Kernel, Open, Busy, Dead}
use Rattle.invocation.specs.declared.malformed.MalformedSyscall.{MalformedSyscall as Malformed}
use Rattle.invocation.specs.Invocation.{InvocationValue, sends, is_no_string, sends_no_string, accepts_no_string, is_malformed, invocation_of, parsed}
use Rattle.invocation.specs.Target.{callee}
use Rattle.string_move.specs.declared.piece.Piece.{Piece}
use Rattle.walk_meaning.specs.declared.kind.Kind.TheVariants.{Fetch, Load, Store as Put, CapLoad, CapStore}
use Rattle.walk_meaning.specs.declared.place.Place.{Place}
use Rattle.walk_meaning.specs.declared.place.WalkFault.{WalkFault}
use Rattle.walk_engine.specs.declared.hit.Hit.{Hit}
use Rattle.operations.specs.System.{Meant}
use Rattle.operations.specs.Row.{Settled}
use Rattle.operations.specs.Control.{control_operation}
use Rattle.process_objects.specs.Process.{capreg_of}
use Rattle.rv32_decode.specs.declared.insn.Insn.{Insn}
use Rattle.rv32_decode.specs.Table.{insn_at}
use Rattle.rv32_user.specs.declared.effect.Effect.{Effect}
use Rattle.rv32_user.specs.declared.effect.Effect.TheVariants.{Next, Load as LoadOf, Store as StoreOf, Syscall, Break, Misaligned}
use Rattle.rv32_user.specs.Step.{effect_of}
use Rattle.schedules.specs.Queues.{hart_of}
use Rattle.machine_state.specs.declared.event.Event.{Event}
use Rattle.machine_state.specs.declared.event.Event.TheVariants.{Step, Tick}
use Rattle.machine_state.specs.Setters.{advance, dispatch}
use Rattle.machine_state.specs.Operation.{request_of}
use Rattle.machine_state.specs.State.{State, process, pc_of, register_of}
use Rattle.machine_state.specs.DataAccess.{data_access, number_at}
use Rattle.machine_state.specs.CapAccess.{cap_access}
use Rattle.messages.specs.declared.string_fault.StringFault.{StringFault}
use Rattle.messages.specs.Fault.{malformed}
use Rattle.messages.specs.Strings.{side_outcome}
use Rattle.messages.specs.Waiting.{wait_on, listen}
use Rattle.messages.proofs.Few.{AtMost, followed-most, fault-most, string-most, send_open-most}
use Rattle.kernel_core.specs.Laws.{FewRecords}
use Rattle.kernel_core.specs.declared.system_calls.SystemCall.{SystemCall}
use Rattle.kernel_core.specs.declared.system_calls.SystemCall.TheVariants.{Invoke, LoadCap, StoreCap, CopyCap, Yield}
use Rattle.kernel_core.specs.LoadStore.{loaded_from, load, stored_to, store}
use Rattle.kernel_core.specs.CapTransfer.{cap_loaded_from, load_cap, cap_stored_to, store_cap}
use Rattle.kernel_core.specs.KernelOperation.{destroyed_by, destroy_records, control_answered, logged, logged_side, log_string, kernlog_op, asked_number, is_no_log, sysctl_op, memory_op, control_op, asked_for, kernel_op}
use Rattle.kernel_core.specs.SystemCall.{call_with, copy_cap, Sending, busy_call, sent_to, send, received_after, invoked, invoke, called, system_call}
use Rattle.kernel_core.specs.Instruction.{performed, perform}
use Rattle.kernel_core.specs.Event.{decoded_to, fetched_from, instruction, stepped, event_by}

-- ---- loads, stores and capabilities

loaded-most : (s : State) (p at size : ℕ) (signed : Bool) (rd : ℕ) (answer : Result Hit WalkFault) → AtMost 1 (loaded_from s p at size signed rd answer)
loaded-most s p at size signed rd (Ok hit) = omega arith
loaded-most s p at size signed rd (Err f) = fault-most s p f.code at f.handler

load-most : (s : State) (p at size : ℕ) (signed : Bool) (rd : ℕ) → AtMost 1 (load s p at size signed rd)
unfolding load
load-most s p at size signed rd = cond_both (at % size == 0) _ _ (AtMost 1) (λ e. loaded-most s p at size signed rd (data_access s p at Load)) (λ e. fault-most s p BadAlign at None)

stored-most : (s : State) (p at size value : ℕ) (answer : Result Hit WalkFault) → AtMost 1 (stored_to s p at size value answer)
stored-most s p at size value (Ok hit) = omega arith
stored-most s p at size value (Err f) = fault-most s p f.code at f.handler

store-most : (s : State) (p at size value : ℕ) → AtMost 1 (store s p at size value)
unfolding store
store-most s p at size value = cond_both (at % size == 0) _ _ (AtMost 1) (λ e. stored-most s p at size value (data_access s p at Put)) (λ e. fault-most s p BadAlign at None)

malformed-most : (s : State) (p : ℕ) → AtMost 1 (malformed s p)
malformed-most s p = fault-most s p MalformedSyscall (pc_of s p) None

cap_loaded-most : (s : State) (p at to : ℕ) (answer : Result Place WalkFault) → AtMost 1 (cap_loaded_from s p at to answer)
cap_loaded-most s p at to (Ok place) = omega arith
cap_loaded-most s p at to (Err f) = fault-most s p f.code at f.handler

load_cap-most : (s : State) (p at to : ℕ) → AtMost 1 (load_cap s p at to)
unfolding load_cap
load_cap-most s p at to =
    cond_both (nat_le to 31) _ _ (AtMost 1)
    (λ e. cond_both (at % 16 == 0) _ _ (AtMost 1) (λ e. cap_loaded-most s p at to (cap_access s p at CapLoad)) (λ e. fault-most s p BadAlign at None))
    (λ e. malformed-most s p)

cap_stored-most : (s : State) (p at from : ℕ) (answer : Result Place WalkFault) → AtMost 1 (cap_stored_to s p at from answer)
cap_stored-most s p at from (Ok place) = omega arith
cap_stored-most s p at from (Err f) = fault-most s p f.code at f.handler

store_cap-most : (s : State) (p at from : ℕ) → AtMost 1 (store_cap s p at from)
unfolding store_cap
store_cap-most s p at from =
    cond_both (nat_le from 31) _ _ (AtMost 1)
    (λ e. cond_both (at % 16 == 0) _ _ (AtMost 1) (λ e. cap_stored-most s p at from (cap_access s p at CapStore)) (λ e. fault-most s p BadAlign at None))
    (λ e. malformed-most s p)

copy_cap-most : (s : State) (p from to : ℕ) → AtMost 1 (copy_cap s p from to)
unfolding copy_cap
copy_cap-most s p from to = cond_both (nat_le from 31 && nat_le to 31) _ _ (AtMost 1) (λ e. omega arith) (λ e. malformed-most s p)

-- ---- operations of the kernel

destroy-most : (name : Option ObjectName) → length (destroy_records name) ≤ 1
destroy-most None = omega arith
destroy-most (Some name) = omega arith

logged-most : (s : State) (p : ℕ) (inv : InvocationValue) (pieces : List Piece) (f : Option StringFault) → AtMost 1 (logged s p inv pieces f)
logged-most s p inv pieces None = omega arith
logged-most s p inv pieces (Some f) = fault-most s p f.why.code f.address f.why.handler

log_string-most : (s : State) (p : ℕ) (inv : InvocationValue) → inv.length ≤ 65536 → AtMost 18 (log_string s p inv)
unfolding log_string
log_string-most s p inv longest =
    let string = logged_side s p inv in
    followed-most 17 1 (side_outcome s string) (logged s p inv string.pieces string.fault) (string-most s p Load inv.at inv.length longest) (logged-most s p inv string.pieces string.fault)

kernlog-most : (s : State) (p : ℕ) (inv : InvocationValue) (cap : Capability) → inv.length ≤ 65536 → AtMost 18 (kernlog_op s p inv cap)
unfolding kernlog_op
kernlog-most s p inv cap longest =
    cond_both (asked_number inv == 8) _ _ (AtMost 18)
    (λ e. cond_both (is_no_log inv.length) _ _ (AtMost 18) (λ e. omega arith) (λ e. log_string-most s p inv longest))
    (λ e. omega arith)

sysctl-most : (s : State) (p : ℕ) (inv : InvocationValue) (cap : Capability) → AtMost 1 (sysctl_op s p inv cap)
unfolding sysctl_op
sysctl-most s p inv cap = cond_both (asked_number inv == 8) _ _ (AtMost 1) (λ e. omega arith) (λ e. omega arith)

control-most : (s : State) (p : ℕ) (inv : InvocationValue) (settled : Settled) (destroyed : Option ObjectName) → AtMost 18 (control_answered s p inv settled destroyed)
control-most s p inv settled destroyed = let one = destroy-most destroyed in omega (arith, one)

others-most : (s : State) (p : ℕ) (inv : InvocationValue) (memory : Bool) (c : Capability) → AtMost 18 (if memory then memory_op s p inv c else control_op s p inv c)
others-most s p inv true c = omega arith
others-most s p inv false c =
    let settled = control_operation Meant s.store c (request_of (process s p) inv) in
    control-most s p inv settled (destroyed_by settled.answer.changes)

asked-most : (s : State) (p : ℕ) (inv : InvocationValue) (kind : CapKind) (c : Capability) → inv.length ≤ 65536 → AtMost 18 (asked_for s p inv kind c)
asked-most s p inv KernLog c longest = kernlog-most s p inv c longest
asked-most s p inv SysCtl c longest = let one = sysctl-most s p inv c in omega (arith, one)
asked-most s p inv kind c longest = others-most (advance s p) p inv (is_memory kind) c

kernel_op-most : (s : State) (p : ℕ) (inv : InvocationValue) (cap : Capability) → inv.length ≤ 65536 → AtMost 18 (kernel_op s p inv cap)
unfolding kernel_op
kernel_op-most s p inv cap longest = asked-most s p inv cap.kind cap longest

-- ---- messages

listen-none : (s : State) (p : ℕ) (inv : InvocationValue) → AtMost 0 (listen s p inv)
unfolding listen
listen-none s p inv = omega arith

busy-none : (s : State) (p : ℕ) (inv : InvocationValue) (q : ℕ) → AtMost 0 (busy_call s p inv q)
unfolding wait_on
busy-none s p inv q = cond_both inv.nonblocking _ _ (AtMost 0) (λ e. omega arith) (λ e. omega arith)

sent_to-most : (s : State) (p : ℕ) (inv : InvocationValue) (callee : Callee) → inv.length ≤ 65536 → AtMost 35 (sent_to s p inv callee).outcome
sent_to-most s p inv (Kernel cap) longest = let most = kernel_op-most s p inv cap longest in omega (arith, most)
sent_to-most s p inv Dead longest = omega arith
sent_to-most s p inv (Busy q) longest = let none = busy-none s p inv q in omega (arith, none)
sent_to-most s p inv (Open e q) longest = send_open-most s p e q inv longest

send-most : (s : State) (p : ℕ) (inv : InvocationValue) → inv.length ≤ 65536 → AtMost 35 (send s p inv).outcome
unfolding send
send-most s p inv longest = sent_to-most s p inv (callee s.store (capreg_of (process s p) inv.capreg)) longest

received-most : (p : ℕ) (inv : InvocationValue) (sending : Sending) → AtMost 35 sending.outcome → AtMost 35 (received_after p inv sending)
received-most p inv sending most =
    cond_both (sending.delivers && inv.receive) _ _ (AtMost 35)
    (λ e. followed-most 35 0 sending.outcome (listen sending.outcome.state p inv) most (listen-none sending.outcome.state p inv))
    (λ e. most)

-- the string of an invocation is no longer than the longest
longest-string : (regs : List ℕ) → is_malformed regs ≡ false → (invocation_of regs).length ≤ 65536
unfolding is_malformed invocation_of
longest-string regs none = by (sends regs) (or_parts _ (sends_no_string regs) (or_parts _ (accepts_no_string regs) none).0).1
  where
    by : (b : Bool) → (b && is_no_string (slice_index regs 15) (slice_index regs 16)) ≡ false → (if b then slice_index regs 16 else 0) ≤ 65536
    by true e = ltb-false _ _ (or_parts _ _ e).0
    by false e = omega arith

invoke-most : (s : State) (p : ℕ) → AtMost 35 (invoke s p)
unfolding invoke parsed
invoke-most s p = cond_both (is_malformed (process s p).regs) _ _ (λ (r : Result InvocationValue Malformed). AtMost 35 (invoked s p r)) (λ e. malformed-35) (λ e. sent (invocation_of (process s p).regs) (longest-string (process s p).regs e))
  where
    malformed-35 : AtMost 35 (malformed s p)
    malformed-35 = let one = malformed-most s p in omega (arith, one)

    sent : (inv : InvocationValue) → inv.length ≤ 65536 → AtMost 35 (invoked s p (Ok inv))
    sent inv longest = cond_both inv.send _ _ (AtMost 35) (λ e. received-most p inv (send s p inv) (send-most s p inv longest)) (λ e. let none = listen-none s p inv in omega (arith, none))

-- ---- instructions and events

called-most : (s : State) (p : ℕ) (call : Option SystemCall) (x10 x11 : ℕ) → AtMost 35 (called s p call x10 x11)
called-most s p None x10 x11 = let one = malformed-most s p in omega (arith, one)
called-most s p (Some Invoke) x10 x11 = invoke-most s p
called-most s p (Some LoadCap) x10 x11 = let one = load_cap-most s p x10 x11 in omega (arith, one)
called-most s p (Some StoreCap) x10 x11 = let one = store_cap-most s p x10 x11 in omega (arith, one)
called-most s p (Some CopyCap) x10 x11 = let one = copy_cap-most s p x10 x11 in omega (arith, one)
called-most s p (Some Yield) x10 x11 = omega arith

system_call-most : (s : State) (p : ℕ) → AtMost 35 (system_call s p)
unfolding system_call
system_call-most s p = called-most s p (call_with (register_of s p 17)) (register_of s p 10) (register_of s p 11)

performed-most : (s : State) (p : ℕ) (insn : Insn) (effect : Effect) → AtMost 35 (performed s p insn effect)
performed-most s p insn (Next pc) = omega arith
performed-most s p insn (LoadOf at size signed rd) = let one = load-most s p at size signed rd in omega (arith, one)
performed-most s p insn (StoreOf at size value) = let one = store-most s p at size value in omega (arith, one)
performed-most s p insn Syscall = system_call-most s p
performed-most s p insn Break = let one = fault-most s p Breakpoint (pc_of s p) None in omega (arith, one)
performed-most s p insn (Misaligned target) = let one = fault-most s p BadAlign target None in omega (arith, one)

perform-most : (s : State) (p : ℕ) (insn : Insn) → AtMost 35 (perform s p insn)
unfolding perform
perform-most s p insn = performed-most s p insn (effect_of (process s p).regs (pc_of s p) insn)

decoded-most : (s : State) (p : ℕ) (insn : Option Insn) → AtMost 36 (decoded_to s p insn)
decoded-most s p None = let one = fault-most s p BadOpcode (pc_of s p) None in omega (arith, one)
decoded-most s p (Some insn) = let most = perform-most s p insn in omega (arith, most)

fetched-most : (s : State) (p : ℕ) (answer : Result Hit WalkFault) → AtMost 37 (fetched_from s p answer)
fetched-most s p (Ok hit) = let most = decoded-most s p (insn_at (number_at s hit 4)) in omega (arith, most)
fetched-most s p (Err f) = let one = fault-most s p f.code (pc_of s p) f.handler in omega (arith, one)

instruction-most : (s : State) (p : ℕ) → AtMost 37 (instruction s p)
unfolding instruction
instruction-most s p = fetched-most s p (data_access s p (pc_of s p) Fetch)

stepped-most : (s : State) (on : Option ℕ) → AtMost 37 (stepped s on)
stepped-most s None = omega arith
stepped-most s (Some p) = instruction-most s p

event_by-most : (s : State) (e : Event) → AtMost 37 (event_by s e)
unfolding event_by
event_by-most s (Step hart) = stepped-most (dispatch s hart) (hart_of (dispatch s hart).queues hart)
event_by-most s (Tick hart) = omega arith

-- of every event
pub few_records : FewRecords
few_records s e = cond_both s.halted _ _ (AtMost 37) (λ h. omega arith) (λ h. event_by-most s e)
