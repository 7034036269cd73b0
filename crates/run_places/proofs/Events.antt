-- Places along events, case by case, and along runs.
use Rattle.std.proofs.Common.{◌∙◌, ℕ, ◌==◌, Bool, true, false, List, [], ◌∷◌, take, drop, slice_index, slice_set, Option, Some, None, subst}
use Rattle.std.proofs.lemmas.Bool.{cond_both}
use Rattle.std.proofs.lemmas.List.{length-set}
use Rattle.cap_format.specs.declared.fault.FaultCode.{FaultCode}
use Rattle.cap_format.specs.declared.request.Reply.{Reply}
use Rattle.cap_format.specs.Capability.{Capability}
use Rattle.page_store.specs.Page.{with_bytes}
use Rattle.page_store.specs.CapPage.{with_cap}
use Rattle.process_objects.specs.Accept.{AcceptValue}
use Rattle.process_objects.specs.Process.{ProcessValue, with_pc, with_regs, with_capreg, with_state}
use Rattle.process_objects.specs.declared.state.State.TheVariants.{Receiving, Faulted}
use Rattle.object_store.specs.Store.{Store, page_at, cappage_at, process_at, endpoint_at}
use Rattle.operations.specs.System.{System, Meant, system, schedule_by}
use Rattle.operations.specs.Memory.{memory_operation}
use Rattle.operations.specs.Row.{reply_of}
use Rattle.operations.specs.Control.{control_operation}
use Rattle.invocation.specs.declared.message.Message.{Message}
use Rattle.invocation.specs.Invocation.{InvocationValue}
use Rattle.invocation.specs.Answerer.{Answer}
use Rattle.invocation.specs.Answerer.Answer.{Dead, Open, Busy}
use Rattle.invocation.specs.Delivery.{passed, passed_at, accepted, accepting, number_given, told_process, given, received, delivered as delivered_to}
use Rattle.string_move.specs.declared.piece.Piece.{Piece}
use Rattle.string_move.specs.Move.{size_of_pieces, gathered, with_piece, scattered, copied}
use Rattle.fault_path.specs.message_path.Messages.{told_system, waiting, receiving, listening}
use Rattle.fault_path.specs.Fault.{answered as fault_answered, faulted, handler_of, heard_by}
use Rattle.machine_state.specs.State.{State, process, schedule_slot}
use Rattle.machine_state.specs.Setters.{advance, leave, set_registers}
use Rattle.machine_state.specs.Outcome.{Outcome}
use Rattle.machine_state.specs.CapAccess.{slot_in}
use Rattle.machine_state.specs.DataAccess.{bytes_of}
use Rattle.machine_state.specs.Faulting.{fault_state}
use Rattle.machine_state.specs.Messaging.{told_state, waiting_state, listening_state}
use Rattle.machine_state.specs.Operation.{request_of, changed_by}
use Rattle.machine_state.specs.Reply.{answered, replied_with, replied, set_reply}
use Rattle.messages.specs.Fault.{fault}
use Rattle.messages.specs.Message.{sent_side, received_side, bytes_moved, message_of, sent_off, message_told, delivered}
use Rattle.messages.specs.Waiting.{wait_on, listening_from, listen}
use Rattle.kernel_core.specs.KernelOperation.{memory_op, destroyed_by, is_end_of, control_op}
use Rattle.kernel_core.specs.Induction.{wants_nothing, alone, Parts, Cases}
use Rattle.kernel_core.proofs.Ran.{run_of-state}
use Rattle.kernel_core.proofs.Induction.{wants_nothing-origins, of_runs}
use Rattle.run_places.specs.Places.{HasPlaces}
use Rattle.run_places.specs.Laws.{RunsKeepPlaces}
use Rattle.run_places.proofs.Objects.{HasAll, with_capreg-has, cappage-has, process-has, with_process-has, with_page-has, with_cappage-has, with_endpoint-has, readied-has, woken-has}
use Rattle.run_places.proofs.Rows.{applied_all-has, memory-keeps, control-keeps}

-- a part of an event keeps the places of all objects
abbrev KeepsPlaces : State → Outcome → Type 0
KeepsPlaces s o = HasPlaces s.store → HasPlaces o.state.store

-- ---- messages

told_process-has : (q : ProcessValue) → HasAll q → (id number : ℕ) (message : Message) → HasAll (told_process q id number message)
unfolding told_process
told_process-has q has id number message = has

given-has : (q : ProcessValue) → HasAll q → (registers : List ℕ) (caps : List Capability) → HasAll (given q registers caps)
unfolding given
given-has q has [] caps = has
given-has q has (i ∷ is) [] = has
given-has q has (i ∷ is) (cap ∷ caps) = given-has (with_capreg q i cap) (with_capreg-has q has i cap) is caps

received-has : (q : ProcessValue) → HasAll q → (id : ℕ) (message : Message) → HasAll (received q id message)
unfolding received
received-has q has id message =
    let number = number_given (accepted q.state) message.caps in
    given-has (told_process q id number message) (told_process-has q has id number message) (accepting (accepted q.state)) message.caps

delivered_to-has : (s : Store) → HasPlaces s → (e q : ℕ) (message : Message) → HasPlaces (delivered_to s e q message)
unfolding delivered_to
delivered_to-has s has e q message =
    with_process-has (passed_at s e) (with_endpoint-has s has e (passed (endpoint_at s e))) q
    (received (process_at s q) (endpoint_at s e).id message) (received-has (process_at s q) (process-has s has q) (endpoint_at s e).id message)

told-has : (w : System) → HasPlaces w.store → (e q : ℕ) (message : Message) → HasPlaces (told_system Meant w e q message).store
unfolding told_system
told-has w has e q message =
    let s = delivered_to w.store e q message in
    readied-has s (delivered_to-has w.store has e q message) w.queues (schedule_by Meant s q) q

told_state-has : (s : State) → HasPlaces s.store → (e q : ℕ) (message : Message) → HasPlaces (told_state s e q message).store
unfolding told_state
told_state-has s has e q message = told-has (system s.store s.queues) has e q message

-- ---- faults, and those who wait and listen

faulted-has : (w : System) → HasPlaces w.store → (p : ℕ) (code : FaultCode) (address : ℕ) → HasPlaces (faulted w p code address).store
unfolding faulted
faulted-has w has p code address = with_process-has w.store has p (with_state (process_at w.store p) (Faulted code address)) (process-has w.store has p)

fault_answered-has : (w : System) → HasPlaces w.store → (p : ℕ) (code : FaultCode) (address payload : ℕ) (answer : Answer) → HasPlaces (fault_answered Meant w p code address payload answer).store
unfolding fault_answered waiting
fault_answered-has w has p code address payload Dead = faulted-has w has p code address
fault_answered-has w has p code address payload (Busy q) = has
fault_answered-has w has p code address payload (Open e q) = told-has (faulted w p code address) (faulted-has w has p code address) e q _

fault-keeps : (s : State) (p : ℕ) (code : FaultCode) (address : ℕ) (handler : Option Capability) → KeepsPlaces s (fault s p code address handler)
unfolding fault fault_state
fault-keeps s p code address handler has = fault_answered-has (system s.store s.queues) has p code address (handler_of s.store p handler).payload (heard_by s.store p handler)

wait-keeps : (s : State) (p q : ℕ) → KeepsPlaces s (wait_on s p q)
unfolding wait_on waiting_state waiting
wait-keeps s p q has = has

advance-has : (s : State) → HasPlaces s.store → (p : ℕ) → HasPlaces (advance s p).store
advance-has s has p = with_process-has s.store has p _ (process-has s.store has p)

set_registers-has : (s : State) → HasPlaces s.store → (p : ℕ) (registers : List ℕ) → HasPlaces (set_registers s p registers).store
set_registers-has s has p registers = with_process-has s.store has p (with_regs (process s p) registers) (process-has s.store has p)

listening_state-has : (s : State) → HasPlaces s.store → (p : ℕ) (accept : AcceptValue) → HasPlaces (listening_state s p accept).store
unfolding listening_state listening
listening_state-has s has p accept =
    let v = receiving (system s.store s.queues) p accept in
    woken-has v.store (with_process-has s.store has p (with_state (process_at s.store p) (Receiving accept)) (process-has s.store has p)) v.queues (schedule_by Meant v.store) p

listen-keeps : (s : State) (p : ℕ) (inv : InvocationValue) → KeepsPlaces s (listen s p inv)
unfolding listen
listen-keeps s p inv has =
    listening_state-has (listening_from s p inv) (cond_both inv.send _ _ (λ (t : State). HasPlaces t.store) (λ e. has) (λ e. advance-has s has p)) p inv.accept

-- ---- bytes and words of messages

scattered-has : (s : Store) → HasPlaces s → (pieces : List Piece) (bytes : List ℕ) → HasPlaces (scattered s pieces bytes)
unfolding scattered
scattered-has s has [] bytes = has
scattered-has s has (piece ∷ pieces) bytes = scattered-has (with_piece s piece (take piece.len bytes)) (with_page-has s has piece.page _) pieces (drop piece.len bytes)

moved-keeps : (s : State) (from to : List Piece) → KeepsPlaces s (bytes_moved s from to)
unfolding copied
moved-keeps s from to has = scattered-has s.store has to (take (size_of_pieces to) (gathered s.store from))

message-keeps : (s : State) (p e q : ℕ) (inv : InvocationValue) (length : ℕ) → KeepsPlaces s (message_told s p e q inv length)
message-keeps s p e q inv length has = by inv.receive (told_state-has s has e q (message_of s p inv length))
  where
    by : (receive : Bool) → HasPlaces (told_state s e q (message_of s p inv length)).store → HasPlaces (sent_off (told_state s e q (message_of s p inv length)) p receive).store
    by true told = advance-has (told_state s e q (message_of s p inv length)) told p
    by false told =
        let t = told_state s e q (message_of s p inv length) in
        set_registers-has (advance t p) (advance-has t told p) p (slice_set (process (advance t p) p).regs 10 0)

delivered-keeps : (s : State) (p e q : ℕ) (inv : InvocationValue) (from to : List Piece) → KeepsPlaces s (delivered s p e q inv from to)
delivered-keeps s p e q inv from to has = message-keeps (bytes_moved s from to).state p e q inv (size_of_pieces to) (moved-keeps s from to has)

-- ---- replies and operations of the kernel

answered-has : (q : ProcessValue) → HasAll q → (number : ℕ) (reply : Reply) → HasAll (answered q number reply)
unfolding answered
answered-has q has number reply = has

replied-has : (q : ProcessValue) → HasAll q → (accept : AcceptValue) (reply : Reply) → HasAll (replied q accept reply)
unfolding replied
replied-has q has accept reply = by reply.cap
  where
    by : (cap : Option Capability) → HasAll (replied_with q accept reply cap)
    by None = answered-has q has 0 reply
    by (Some cap) =
        cond_both (accept.caps == 0) _ _ HasAll (λ e. answered-has q has 0 reply)
        (λ e. with_capreg-has (answered q 1 reply) (answered-has q has 1 reply) (slice_index accept.regs 0) cap)

set_reply-has : (s : State) → HasPlaces s.store → (p : ℕ) (accept : AcceptValue) (reply : Reply) → HasPlaces (set_reply s p accept reply).store
set_reply-has s has p accept reply = with_process-has s.store has p (replied (process s p) accept reply) (replied-has (process s p) (process-has s.store has p) accept reply)

memory_op-keeps : (s : State) (p : ℕ) (inv : InvocationValue) (cap : Capability) → KeepsPlaces s (memory_op s p inv cap)
memory_op-keeps s p inv cap has =
    let request = request_of (process s p) inv in
    let settled = memory_operation s.store cap request in
    set_reply-has (changed_by s settled.answer.changes) (applied_all-has (system s.store s.queues) settled.answer.changes (memory-keeps s.store has cap request) has) p inv.accept (reply_of settled)

control_op-keeps : (s : State) (p : ℕ) (inv : InvocationValue) (cap : Capability) → KeepsPlaces s (control_op s p inv cap)
control_op-keeps s p inv cap has =
    let request = request_of (process s p) inv in
    let settled = control_operation Meant s.store cap request in
    let changed = applied_all-has (system s.store s.queues) settled.answer.changes (control-keeps s.store has cap request) has in
    cond_both (is_end_of p (destroyed_by settled.answer.changes)) _ _ (λ (t : State). HasPlaces t.store) (λ e. changed)
    (λ e. set_reply-has (changed_by s settled.answer.changes) changed p inv.accept (reply_of settled))

-- ---- events and runs

parts : Parts (Unit {0}) wants_nothing (alone wants_nothing KeepsPlaces)
parts = record {
  left = λ s o keeps. tt;
  idle = λ s k has. has;
  told = λ s r o keeps. keeps;
  named = λ s name o keeps. keeps;
  walked = λ s p at kind o k own word is keeps. keeps;
  cap_walked = λ s p at kind o k own keeps. keeps;
  behind = λ s o u first second has. second (first has);
}

cases : Cases (Unit {0}) wants_nothing (alone wants_nothing KeepsPlaces)
cases = record {
  pc_is = λ s p pc k own word has. with_process-has (s tt).store has p (with_pc (process (s tt) p) pc) (process-has (s tt).store has p);
  regs_are = λ s p registers k own are has. set_registers-has (s tt) has p registers;
  capreg_is = λ s p j c k own may has. with_process-has (s tt).store has p (with_capreg (process (s tt) p) j c) (with_capreg-has (process (s tt) p) (process-has (s tt).store has p) j c);
  replied = λ s p accept reply k own is has. set_reply-has (s tt) has p accept reply;
  page_is = λ s p at hit size value k own e has. with_page-has (s tt).store has hit.page (with_bytes (page_at (s tt).store hit.page) hit.offset (bytes_of size value));
  cappage_is = λ s p at place c k own may e has.
      let page = cappage_at (s tt).store place.number in
      with_cappage-has (s tt).store has place.number (with_cap page (slot_in place) c) (length-set page (slot_in place) c ∙ cappage-has (s tt).store has place.number);
  ready_again = λ s p k own has. readied-has (s tt).store has (leave (s tt) p).queues (schedule_slot (s tt) p) p;
  halts = λ s k has. has;
  faults = λ s p code address handler k own word is. fault-keeps (s tt) p code address handler;
  waits = λ s p q k own other. wait-keeps (s tt) p q;
  listens = λ s p inv k own asks. listen-keeps (s tt) p inv;
  sends = λ s p inv k own asks has. has;
  receives = λ s e q inv k heard asks has. has;
  delivers = λ s p e q inv k own heard asks. delivered-keeps (s tt) p e q inv (sent_side (s tt) p inv).pieces (received_side (s tt) q inv.length).pieces;
  memory = λ s p inv cap k own asks may memory. memory_op-keeps (s tt) p inv cap;
  control = λ s p inv cap k own asks may. control_op-keeps (s tt) p inv cap;
}

-- of every run
pub run-places : RunsKeepPlaces
run-places s events has =
    subst (λ (t : State). HasPlaces t.store) (run_of-state s events)
    (of_runs wants_nothing KeepsPlaces wants_nothing-origins parts cases (λ p. tt) (λ t hart h kept. kept) s tt events has)
