-- Items along events, case by case, and along runs.
use Rattle.std.proofs.Common.{◌≡◌, ℕ, ◌==◌, ◌&&◌, Bool, true, false, List, [], ◌∷◌, min, take, drop, Option, Result, Ok, Err, refl, ◌∙◌, subst₂}
use Rattle.std.proofs.lemmas.Bool.{cond_both}
use Rattle.cap_format.specs.declared.fault.FaultCode.{FaultCode}
use Rattle.cap_format.specs.Capability.{Capability}
use Rattle.object_store.specs.Store.{Store}
use Rattle.operations.specs.System.{Meant, system}
use Rattle.operations.specs.Change.{item_in}
use Rattle.operations.specs.Memory.{is_gpt, is_granted, memory_operation}
use Rattle.operations.specs.Request.{w1}
use Rattle.operations.specs.Control.{control_operation}
use Rattle.invocation.specs.declared.message.Message.{Message}
use Rattle.invocation.specs.Invocation.{InvocationValue}
use Rattle.invocation.specs.Answerer.{Answer}
use Rattle.invocation.specs.Answerer.Answer.{Dead as Nobody, Open as Receiver, Busy as Busied}
use Rattle.invocation.specs.Delivery.{delivered as delivered_to}
use Rattle.string_move.specs.declared.piece.Piece.{Piece}
use Rattle.string_move.specs.declared.span.Span.{Span}
use Rattle.string_move.specs.Spans.{spans}
use Rattle.string_move.specs.Move.{size_of_pieces, gathered, with_piece, scattered, copied as bytes_copied}
use Rattle.fault_path.specs.message_path.Messages.{told_system, waiting, listening}
use Rattle.fault_path.specs.Fault.{answered as fault_answered, faulted as fault_faulted, handler_of, heard_by}
use Rattle.walk_meaning.specs.declared.kind.Kind.{Kind}
use Rattle.walk_meaning.specs.declared.kind.Kind.TheVariants.{Load, Store as Put}
use Rattle.walk_meaning.specs.declared.place.WalkFault.{WalkFault}
use Rattle.walk_engine.specs.declared.hit.Hit.{Hit}
use Rattle.machine_state.specs.State.{State, process}
use Rattle.machine_state.specs.Outcome.{Outcome, Touch}
use Rattle.machine_state.specs.Faulting.{fault_state}
use Rattle.machine_state.specs.Messaging.{told_state, waiting_state, listening_state}
use Rattle.machine_state.specs.DataAccess.{data_access}
use Rattle.machine_state.specs.Operation.{request_of, change_touches, changed_by}
use Rattle.messages.specs.Fault.{fault}
use Rattle.messages.specs.Strings.{side, span_side, side_outcome}
use Rattle.messages.specs.Message.{accept_in, sent_side, received_side, bytes_moved, message_of, sent_off, message_told, delivered}
use Rattle.messages.specs.Waiting.{wait_on, listen}
use Rattle.kernel_core.specs.KernelOperation.{memory_op, destroyed_by, is_end_of, control_op}
use Rattle.kernel_core.specs.Run.{run_state, run_touches}
use Rattle.kernel_core.specs.Induction.{wants_nothing, alone, Parts, Cases}
use Rattle.kernel_core.proofs.Ran.{run_of-state, run_of-touches}
use Rattle.kernel_core.proofs.Induction.{wants_nothing-origins, of_runs}
use Rattle.fetch_economy.specs.Follows.{Follows}
use Rattle.run_economy.specs.Laws.{RunsAreFollowed, RunsTellAges}
use Rattle.run_economy.proofs.Followed.{follows-followed, follows-gpt_call, follows-ages}
use Rattle.run_economy.proofs.Changes.{changes-follow}
use Rattle.run_economy.proofs.Operations.{memory-one, control-one}

-- the touches of a part follow the items, from the state that it finds to the one that it leaves
abbrev pub IsFollowed : State → Outcome → Type 0
IsFollowed s o = Follows s.store.items o.touches o.state.store.items

-- ---- faults and messages, which change no item

fault_answered-items : (s : State) (p : ℕ) (code : FaultCode) (address payload : ℕ) (answer : Answer)
    → s.store.items ≡ (fault_answered Meant (system s.store s.queues) p code address payload answer).store.items
unfolding fault_answered fault_faulted waiting told_system delivered_to
fault_answered-items s p code address payload Nobody = refl
fault_answered-items s p code address payload (Busied q) = refl
fault_answered-items s p code address payload (Receiver e q) = refl

fault-follows : (s : State) (p : ℕ) (code : FaultCode) (address : ℕ) (handler : Option Capability) → IsFollowed s (fault s p code address handler)
unfolding fault fault_state
fault-follows s p code address handler = fault_answered-items s p code address (handler_of s.store p handler).payload (heard_by s.store p handler)

told-items : (s : State) (e q : ℕ) (message : Message) → s.store.items ≡ (told_state s e q message).store.items
unfolding told_state told_system delivered_to
told-items s e q message = refl

wait-follows : (s : State) (p q : ℕ) → IsFollowed s (wait_on s p q)
unfolding wait_on waiting_state waiting
wait-follows s p q = refl

listen-follows : (s : State) (p : ℕ) (inv : InvocationValue) → IsFollowed s (listen s p inv)
unfolding listen listening_state listening
listen-follows s p inv = cond_both inv.send _ _ (λ (t : State). s.store.items ≡ t.store.items) (λ e. refl) (λ e. refl)

-- ---- strings

-- each access to a string's spans is over the items of its moment
side-follows : (s : State) (q : ℕ) (kind : Kind) (ss : List Span) → IsFollowed s (side_outcome s (side s q kind ss))
unfolding side
side-follows s q kind [] = refl
side-follows s q kind (span ∷ ss) = by (data_access s q span.address kind) (side-follows s q kind ss)
  where
    by : (answer : Result Hit WalkFault) → IsFollowed s (side_outcome s (side s q kind ss)) → IsFollowed s (side_outcome s (span_side s q kind span (side s q kind ss) answer))
    by (Ok hit) rest = (refl, rest)
    by (Err why) rest = (refl, refl)

-- bytes that move change no item
scattered-items : (s : Store) (pieces : List Piece) (bytes : List ℕ) → s.items ≡ (scattered s pieces bytes).items
unfolding scattered
scattered-items s [] bytes = refl
scattered-items s (piece ∷ pieces) bytes = scattered-items (with_piece s piece (take piece.len bytes)) pieces (drop piece.len bytes)

moved-follows : (s : State) (from to : List Piece) → IsFollowed s (bytes_moved s from to)
unfolding bytes_copied
moved-follows s from to = scattered-items s.store to (take (size_of_pieces to) (gathered s.store from))

message-follows : (s : State) (p e q : ℕ) (inv : InvocationValue) (length : ℕ) → IsFollowed s (message_told s p e q inv length)
message-follows s p e q inv length = told-items s e q (message_of s p inv length) ∙ by inv.receive
  where
    by : (receive : Bool) → (told_state s e q (message_of s p inv length)).store.items ≡ (sent_off (told_state s e q (message_of s p inv length)) p receive).store.items
    by true = refl
    by false = refl

delivered-follows : (s : State) (p e q : ℕ) (inv : InvocationValue) (from to : List Piece) → IsFollowed s (delivered s p e q inv from to)
delivered-follows s p e q inv from to =
    let moved_first = bytes_moved s from to in
    follows-followed s.store.items moved_first (message_told moved_first.state p e q inv (size_of_pieces to))
    (moved-follows s from to) (message-follows moved_first.state p e q inv (size_of_pieces to))

-- ---- operations of the kernel

-- an operation tells the item that it changes
memory-follows : (s : State) (p : ℕ) (inv : InvocationValue) (cap : Capability) → IsFollowed s (memory_op s p inv cap)
memory-follows s p inv cap =
    let request = request_of (process s p) inv in
    let settled = memory_operation s.store cap request in
    let w = system s.store s.queues in
    follows-gpt_call s.store.items (changed_by s settled.answer.changes).store.items (is_gpt cap.kind) ((w1 request == 8) && is_granted settled.code) (change_touches (item_in settled.answer.changes))
    (changes-follow w settled.answer.changes (memory-one s.store cap request))

-- so does one that may destroy an object
control-follows : (s : State) (p : ℕ) (inv : InvocationValue) (cap : Capability) → IsFollowed s (control_op s p inv cap)
control-follows s p inv cap =
    let request = request_of (process s p) inv in
    let changes = (control_operation Meant s.store cap request).answer.changes in
    cond_both (is_end_of p (destroyed_by changes)) _ _ (λ (t : State). Follows s.store.items (change_touches (item_in changes)) t.store.items)
    (λ e. changes-follow (system s.store s.queues) changes (control-one s.store cap request))
    (λ e. changes-follow (system s.store s.queues) changes (control-one s.store cap request))

-- ---- events and runs

parts : Parts (Unit {0}) wants_nothing (alone wants_nothing IsFollowed)
parts = record {
  left = λ s o made. tt;
  idle = λ s k. refl;
  told = λ s r o made. made;
  named = λ s name o made. made;
  walked = λ s p at kind o k own word is made. (refl, made);
  cap_walked = λ s p at kind o k own made. (refl, made);
  behind = λ s o u first second. follows-followed (s tt).store.items (o tt) (u tt) first second;
}

cases : Cases (Unit {0}) wants_nothing (alone wants_nothing IsFollowed)
cases = record {
  pc_is = λ s p pc k own word. refl;
  regs_are = λ s p registers k own are. refl;
  capreg_is = λ s p j c k own may. refl;
  replied = λ s p accept reply k own is. refl;
  page_is = λ s p at hit size value k own e. refl;
  cappage_is = λ s p at place c k own may e. refl;
  ready_again = λ s p k own. refl;
  halts = λ s k. refl;
  faults = λ s p code address handler k own word is. fault-follows (s tt) p code address handler;
  waits = λ s p q k own other. wait-follows (s tt) p q;
  listens = λ s p inv k own asks. listen-follows (s tt) p inv;
  sends = λ s p inv k own asks. side-follows (s tt) p Load (spans inv.at inv.length);
  receives = λ s e q inv k heard asks. let accept = accept_in (s tt) q in side-follows (s tt) q Put (spans accept.at (min inv.length accept.bound));
  delivers = λ s p e q inv k own heard asks. delivered-follows (s tt) p e q inv (sent_side (s tt) p inv).pieces (received_side (s tt) q inv.length).pieces;
  memory = λ s p inv cap k own asks may memory. memory-follows (s tt) p inv cap;
  control = λ s p inv cap k own asks may. control-follows (s tt) p inv cap;
}

-- of every run
pub run-follows : RunsAreFollowed
run-follows s events =
    subst₂ (λ (ts : List Touch) (t : State). Follows s.store.items ts t.store.items) (run_of-touches s events) (run_of-state s events)
    (of_runs wants_nothing IsFollowed wants_nothing-origins parts cases (λ p. tt) (λ t hart h. refl) s tt events)

-- so each age that changes is told
pub run-ages : RunsTellAges
run-ages s events = follows-ages s.store.items (run_state s events).store.items (run_touches s events) (run-follows s events)
