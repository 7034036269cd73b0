-- Ranges along events, case by case, and along runs.
use Rattle.std.proofs.Common.{◌≡◌, ℕ, ◌+◌, ◌≤◌, ◌^◌, ◌==◌, ◌&&◌, ◌++◌, Bool, true, false, if◌then◌else◌, List, [], ◌∷◌, All, length, min, drop, slice_get, slice_index, slice_set, Option, Some, None, IfSome, refl, subst, arith}
use Rattle.std.proofs.lemmas.Bool.{cond_both}
use Rattle.std.proofs.lemmas.List.{length-map}
use Rattle.std.proofs.lemmas.List.Elements.{All-map, All-set, All-drop}
use Rattle.cap_format.specs.declared.kind.CapKind.{CapKind}
use Rattle.cap_format.specs.declared.kind.CapKind.TheVariants.{Entry}
use Rattle.cap_format.specs.declared.code.Code.{Code}
use Rattle.cap_format.specs.declared.code.Code.TheVariants.{Ok as OkCode, InvalidCap, UnknownRequest, NoAccess, RequestError, CountSpent, WouldBlock}
use Rattle.cap_format.specs.declared.fault.FaultCode.{FaultCode}
use Rattle.cap_format.specs.declared.item.Item.{Item}
use Rattle.cap_format.specs.declared.request.Reply.{Reply}
use Rattle.cap_format.specs.declared.request.Request.{Request}
use Rattle.cap_format.specs.Codes.{reply_number}
use Rattle.cap_format.specs.Kind.{is_memory, number_of}
use Rattle.cap_format.specs.Capability.{Capability}
use Rattle.cap_format.proofs.KindNumbers.{number_small}
use Rattle.page_store.specs.Page.{with_bytes}
use Rattle.page_store.specs.CapPage.{cap_at, with_cap}
use Rattle.process_objects.specs.Accept.{AcceptValue}
use Rattle.process_objects.specs.Process.{ProcessValue, capreg_of, with_pc, with_regs, with_capreg}
use Rattle.object_store.specs.Store.{page_at, cappage_at}
use Rattle.operations.specs.System.{System, Meant, system}
use Rattle.operations.specs.Change.{item_in}
use Rattle.operations.specs.Memory.{is_gpt, is_granted, kind_row, memory_operation}
use Rattle.operations.specs.Request.{w1}
use Rattle.operations.specs.Row.{Settled, refused, settled, reply_of, settled_in}
use Rattle.operations.specs.Control.{control_operation}
use Rattle.invocation.specs.declared.callee.Callee.{Callee}
use Rattle.invocation.specs.declared.callee.Callee.TheVariants.{Kernel, Open, Busy, Dead}
use Rattle.invocation.specs.Invocation.{InvocationValue}
use Rattle.invocation.specs.Answerer.{Answer as WhoAnswers, entered}
use Rattle.invocation.specs.Answerer.Answer.{Dead as Nobody, Open as Receiver, Busy as Busied}
use Rattle.invocation.specs.Target.{called_by, called as called_through, callee}
use Rattle.string_move.specs.declared.piece.Piece.{Piece}
use Rattle.string_move.specs.Spans.{spans}
use Rattle.string_move.specs.Move.{size_of_pieces}
use Rattle.walk_meaning.specs.declared.kind.Kind.{Kind}
use Rattle.walk_meaning.specs.declared.kind.Kind.TheVariants.{Load, Store as Put}
use Rattle.walk_meaning.specs.Walk.{is_data}
use Rattle.rv32_decode.specs.declared.insn.Insn.{Insn}
use Rattle.rv32_decode.specs.Table.{insn_at}
use Rattle.rv32_user.specs.Word.{next_of}
use Rattle.machine_state.specs.declared.event.Event.{Event}
use Rattle.machine_state.specs.State.{State, process, pc_of, schedule_slot}
use Rattle.machine_state.specs.Setters.{advance, leave, set_registers, set_capreg}
use Rattle.machine_state.specs.Outcome.{Outcome}
use Rattle.machine_state.specs.Outcome.Touch.{GptCall}
use Rattle.machine_state.specs.DataAccess.{bytes_of}
use Rattle.machine_state.specs.CapAccess.{slot_in}
use Rattle.machine_state.specs.Messaging.{told_state}
use Rattle.machine_state.specs.Operation.{first_sent, request_of, change_touches, changed_by}
use Rattle.machine_state.specs.Reply.{answered, replied_with, replied, set_reply}
use Rattle.messages.specs.declared.string_fault.StringFault.{StringFault}
use Rattle.messages.specs.Fault.{fault}
use Rattle.messages.specs.Strings.{side, side_outcome}
use Rattle.messages.specs.Message.{accept_in, sent_side, received_side, bytes_moved, message_of, sent_off, message_told, delivered}
use Rattle.messages.specs.Waiting.{wait_on, listening_from, listen}
use Rattle.kernel_core.specs.KernelOperation.{memory_op, destroyed_by, is_end_of, control_op, kind_table}
use Rattle.kernel_core.specs.Run.{run_of}
use Rattle.kernel_core.specs.Induction.{Notions, alone, Origins, Parts, Cases}
use Rattle.kernel_core.proofs.Ran.{run_of-state, run_of-touches}
use Rattle.kernel_core.proofs.Induction.{of_runs}
use Rattle.shared_economy.specs.Accesses.{AreAccesses}
use Rattle.run_ranges.specs.Ranges.{IsModelCap, IsWord, IsByte, IsRangedProcess, AreInRanges}
use Rattle.run_ranges.specs.Laws.{RunsKeepRanges, RunsAreAccesses}
use Rattle.run_ranges.proofs.Words.{HasOperand, IsWordEffect, insn_at-operand, effect-small, registers-small, loaded-small, bytes_of-bytes, word_at}
use Rattle.run_ranges.proofs.Objects.{null-in, process-in, page-in, cappage-in, cap-in, capreg-in, reg-in, with_pc-in, with_reg-in, with_regs-in, with_capreg-in, with_process-in, with_page-in, with_cappage-in}
use Rattle.run_ranges.proofs.Messages.{IsRangedMessage, IsHandler, IsHitAnswer, IsPlaceAnswer, readied_at-in, told_state-in, waiting_state-in, listening_state-in, cap_access-answer, data_access-answer, payload-small, fault_state-in}
use Rattle.run_ranges.proofs.Rows.{three-in, IsRangedAnswer, applied_all-in, read_through-in, zeros-in, memory-in, control-in}
use Rattle.run_ranges.proofs.Strings.{IsRangedInvocation, IsParsed, parsed-in, accepted-in, IsKept, kept-followed, access-in, IsStringAnswer, IsRangedSide, string_side-in, with_bytes-in, copied-in}

-- ---- one process

next-word : (pc : ℕ) → IsWord (next_of pc)
next-word pc = omega arith

module _ (s : State) (r : AreInRanges s.store) (p : ℕ) where
  pc-in : IsWord (pc_of s p)
  pc-in = (process-in s.store r p).pc

  advance-in : AreInRanges (advance s p).store
  advance-in = with_process-in s.store r p (with_pc (process s p) (next_of (pc_of s p))) (with_pc-in (process s p) (process-in s.store r p) (next_of (pc_of s p)) (next-word (pc_of s p)))

  set_registers-in : (regs : List ℕ) → All IsWord regs → AreInRanges (set_registers s p regs).store
  set_registers-in regs words = with_process-in s.store r p (with_regs (process s p) regs) (with_regs-in (process s p) (process-in s.store r p) regs words)

  set_capreg-in : (i : ℕ) (cap : Capability) → IsModelCap cap → AreInRanges (set_capreg s p i cap).store
  set_capreg-in i cap is = with_process-in s.store r p (with_capreg (process s p) i cap) (with_capreg-in (process s p) (process-in s.store r p) i cap is)

  -- ---- faults, and those who wait and listen

  fault-kept : (code : FaultCode) (address : ℕ) → IsWord address → (handler : Option Capability) → IsHandler s p handler → IsKept (fault s p code address handler)
  unfolding fault
  fault-kept code address word handler is = (tt, fault_state-in s r p code address word handler is)

  wait-kept : (q : ℕ) → IsKept (wait_on s p q)
  unfolding wait_on
  wait-kept q = (tt, waiting_state-in s r p q)

  listen-kept : (inv : InvocationValue) → IsRangedInvocation inv → IsKept (listen s p inv)
  unfolding listen
  listen-kept inv is =
      (tt, listening_state-in (listening_from s p inv) (cond_both inv.send _ _ (λ (t : State). AreInRanges t.store) (λ e. r) (λ e. advance-in)) p inv.accept is.accept)

-- ---- messages

moved-kept : (s : State) → AreInRanges s.store → (from to : List Piece) → IsKept (bytes_moved s from to)
moved-kept s r from to = (tt, copied-in s.store r from to)

message-in : (s : State) → AreInRanges s.store → (p : ℕ) (inv : InvocationValue) → IsRangedInvocation inv → (length : ℕ) → IsWord length → IsRangedMessage (message_of s p inv length)
unfolding message_of
message-in s r p inv is length word = record {
  words = is.words;
  payload = payload-small (capreg_of (process s p) inv.capreg) (capreg-in s.store r p inv.capreg);
  bytes = word;
  caps = All-map IsModelCap (capreg_of (process s p)) inv.sent (λ k d there. capreg-in s.store r p _);
  few = let same = length-map inv.sent (capreg_of (process s p)) in let few = is.sent in omega (arith, same, few);
}

message-kept : (s : State) → AreInRanges s.store → (p e q : ℕ) (inv : InvocationValue) → IsRangedInvocation inv → (length : ℕ) → IsWord length → IsKept (message_told s p e q inv length)
message-kept s r p e q inv is length word =
    (tt, by inv.receive (told_state-in s r e q (message_of s p inv length) (message-in s r p inv is length word)))
  where
    by : (receive : Bool) → AreInRanges (told_state s e q (message_of s p inv length)).store → AreInRanges (sent_off (told_state s e q (message_of s p inv length)) p receive).store
    by true told = advance-in (told_state s e q (message_of s p inv length)) told p
    by false told =
        let t = told_state s e q (message_of s p inv length) in
        set_registers-in (advance t p) (advance-in t told p) p (slice_set (process (advance t p) p).regs 10 0)
        (All-set IsWord (process (advance t p) p).regs 10 0 (omega arith) (process-in (advance t p).store (advance-in t told p) p).regs)

delivered-kept : (s : State) → AreInRanges s.store → (p e q : ℕ) (inv : InvocationValue) → IsRangedInvocation inv → (from to : List Piece) → IsWord (size_of_pieces to) → IsKept (delivered s p e q inv from to)
delivered-kept s r p e q inv is from to word =
    let moved_first = bytes_moved s from to in
    kept-followed moved_first (message_told moved_first.state p e q inv (size_of_pieces to)) (moved-kept s r from to)
    (message-kept moved_first.state (moved-kept s r from to).1 p e q inv is (size_of_pieces to) word)

-- ---- replies

-- a reply of words and of a capability of the model
pub record IsRangedReply (reply : Reply) : Type 0 where
  pub words : All IsWord reply.words
  pub cap : IfSome reply.cap IsModelCap

reply_number-small : (code : Code) → IsWord (reply_number code)
reply_number-small OkCode = omega arith
reply_number-small InvalidCap = omega arith
reply_number-small UnknownRequest = omega arith
reply_number-small NoAccess = omega arith
reply_number-small RequestError = omega arith
reply_number-small CountSpent = omega arith
reply_number-small WouldBlock = omega arith

answered-in : (q : ProcessValue) → IsRangedProcess q → (number : ℕ) → number ≤ 1 → (reply : Reply) → IsRangedReply reply → IsRangedProcess (answered q number reply)
unfolding answered
answered-in q r number one reply is =
    let at = λ (i : ℕ). word_at reply.words i is.words in
    let status = with_reg-in q r 10 _ (omega (arith, one)) in
    let code = with_reg-in _ status 11 _ (reply_number-small reply.code) in
    let first = with_reg-in _ code 12 _ (at 0) in
    let second = with_reg-in _ first 13 _ (at 1) in
    with_reg-in _ second 14 _ (at 2)

replied-in : (q : ProcessValue) → IsRangedProcess q → (accept : AcceptValue) (reply : Reply) → IsRangedReply reply → IsRangedProcess (replied q accept reply)
unfolding replied
replied-in q r accept reply is = by reply.cap is.cap
  where
    by : (cap : Option Capability) → IfSome cap IsModelCap → IsRangedProcess (replied_with q accept reply cap)
    by None has = answered-in q r 0 (omega arith) reply is
    by (Some cap) has =
        cond_both (accept.caps == 0) _ _ IsRangedProcess (λ e. answered-in q r 0 (omega arith) reply is)
        (λ e. with_capreg-in (answered q 1 reply) (answered-in q r 1 (omega arith) reply is) (slice_index accept.regs 0) cap has)

set_reply-in : (s : State) → AreInRanges s.store → (p : ℕ) (accept : AcceptValue) (reply : Reply) → IsRangedReply reply → AreInRanges (set_reply s p accept reply).store
set_reply-in s r p accept reply is = with_process-in s.store r p (replied (process s p) accept reply) (replied-in (process s p) (process-in s.store r p) accept reply is)

settled-reply : (w : System) (settled : Settled) → IsRangedAnswer w settled.answer → IsRangedReply (reply_of settled)
settled-reply w settled is = record { words = is.words; cap = is.cap }

nothing-reply : (code : Code) → IsRangedReply (reply_of (refused code))
nothing-reply code = record { words = zeros-in; cap = tt }

kind-reply : (cap : Capability) (number : ℕ) → IsRangedReply (reply_of (settled_in (kind_table cap) number))
unfolding kind_row
kind-reply cap number =
    cond_both (number == 0) _ _ (λ (settled : Settled). IsRangedReply (reply_of settled))
    (λ e. record { words = three-in (number_of cap.kind) 0 0 (let small = number_small cap.kind in omega (arith, small)) (omega arith) (omega arith); cap = tt })
    (λ e. nothing-reply UnknownRequest)

-- ---- operations of the kernel

calls-accesses : (is_one reads : Bool) (item : Option Item) → AreAccesses ((if is_one then GptCall reads ∷ [] else []) ++ change_touches item)
calls-accesses true reads None = tt
calls-accesses true reads (Some item) = tt
calls-accesses false reads None = tt
calls-accesses false reads (Some item) = tt

changes-accesses : (item : Option Item) → AreAccesses (change_touches item)
changes-accesses None = tt
changes-accesses (Some item) = tt

module _ (s : State) (r : AreInRanges s.store) (p : ℕ) (inv : InvocationValue) (is : IsRangedInvocation inv) (cap : Capability) (model : IsModelCap cap) where
  abbrev request : Request
  request = request_of (process s p) inv

  sent-in : IsModelCap request.sent
  sent-in = by (slice_get inv.sent 0)
    where
      by : (i : Option ℕ) → IsModelCap (first_sent (process s p) i)
      by None = null-in
      by (Some i) = capreg-in s.store r p i

  memory-kept : is_memory cap.kind ≡ true → IsKept (memory_op s p inv cap)
  memory-kept memory =
      let settled = memory_operation s.store cap request in
      let answer = memory-in s.store s.queues r cap model request is.words sent-in memory in (
        calls-accesses (is_gpt cap.kind) ((w1 request == 8) && is_granted settled.code) (item_in settled.answer.changes),
        set_reply-in (changed_by s settled.answer.changes) (applied_all-in (system s.store s.queues) settled.answer.changes answer.changes r) p inv.accept (reply_of settled) (settled-reply (system s.store s.queues) settled answer),
      )

  control-kept : IsKept (control_op s p inv cap)
  control-kept =
      let settled = control_operation Meant s.store cap request in
      let answer = control-in s.store s.queues r cap model request is.words sent-in in
      let changed = applied_all-in (system s.store s.queues) settled.answer.changes answer.changes r in (
        changes-accesses (item_in settled.answer.changes),
        cond_both (is_end_of p (destroyed_by settled.answer.changes)) _ _ (λ (t : State). AreInRanges t.store) (λ e. changed)
            (λ e. set_reply-in (changed_by s settled.answer.changes) changed p inv.accept (reply_of settled) (settled-reply (system s.store s.queues) settled answer)),
      )

-- the kernel is asked through a capability of the model
abbrev IsModelCallee : Callee → Type 0
IsModelCallee (Kernel cap) = IsModelCap cap
IsModelCallee (Open e q) = Unit {0}
IsModelCallee (Busy q) = Unit {0}
IsModelCallee Dead = Unit {0}

callee-in : (s : State) (cap : Capability) → IsModelCap cap → IsModelCallee (callee s.store cap)
unfolding callee
callee-in s cap model = by cap.kind
  where
    answers : (answer : WhoAnswers) → IsModelCallee (called_by answer)
    answers Nobody = tt
    answers (Receiver e q) = tt
    answers (Busied q) = tt

    by : (kind : CapKind) → IsModelCallee (called_through s.store kind cap)
    by Entry = answers (entered s.store cap.object cap.payload)
    by kind = model

-- ---- every part

-- states whose objects are in their ranges, of which any process reads what is in its range
abbrev ranged : Notions
ranged = record {
  holds = λ s. AreInRanges s.store;
  by = λ p. Unit {0};
  heard = λ s e q. Unit {0};
  awaited = λ q. Unit {0};
  word = λ number. IsWord number;
  regs = λ registers. All IsWord registers;
  has = λ c. IsModelCap c;
  handler = λ s p c. IsHandler s p c;
  reply = λ reply. IsRangedReply reply;
  does = λ effect. IsWordEffect effect;
  asks = λ inv. IsRangedInvocation inv;
}

abbrev Kept : State → Outcome → Type 0
Kept s o = IsKept o

operand : (word : ℕ) (insn : Insn) → insn_at word ≡ Some insn → HasOperand insn
operand word insn e = subst (λ (found : Option Insn). IfSome found HasOperand) e (insn_at-operand word)

sent-answer : (s : State) (r : AreInRanges s.store) (p : ℕ) (inv : InvocationValue) (f : StringFault) → IsRangedInvocation inv → (sent_side s p inv).fault ≡ Some f → IsStringAnswer s r p (Some f)
sent-answer s r p inv f is e =
    let x : IsRangedSide s r p inv.at (inv.at + inv.length) (sent_side s p inv) = string_side-in s r p Load refl inv.at inv.length is.string in
    subst (IsStringAnswer s r p) e x.fault

origins : Origins ranged
origins = record {
  register = λ s p i r own. reg-in s.store r p i;
  capreg = λ s p i r own. capreg-in s.store r p i;
  pc = λ s p r own. pc-in s r p;
  next = next-word;
  effect = λ s p word insn r own e. effect-small (process s p).regs (pc_of s p) (process-in s.store r p).regs insn (operand word insn e);
  computed = λ s p word insn r own e. registers-small (process s p).regs (pc_of s p) (process-in s.store r p).regs insn (operand word insn e);
  target = λ pc does. does;
  load = λ at size signed rd does. does.0;
  store = λ at size value does. does;
  misaligned = λ target does. does;
  loads = λ s p at size signed rd hit r own does e. loaded-small (process s p).regs rd size signed (drop hit.offset (page_at s.store hit.page)) does.1 (All-drop IsByte hit.offset (page_at s.store hit.page) (page-in s.store r hit.page)) (process-in s.store r p).regs;
  found = λ s p at place r own e. read_through-in place.restr.0 (cap_at (cappage_at s.store place.number) (slot_in place)) (cap-in s.store r place.number (slot_in place));
  unhandled = λ s p. (tt, λ past. refl);
  handled = λ s p at kind f r own e. subst (IsHitAnswer s p) e (data_access-answer s r p at kind);
  cap_handled = λ s p at kind f r own e. subst (IsPlaceAnswer s p) e (cap_access-answer s r p at kind);
  asked = λ s p inv r own e. subst IsParsed e (parsed-in (process s p).regs (process-in s.store r p).regs);
  kernel = λ s c cap r model e. subst IsModelCallee e (callee-in s c model);
  busy = λ s c q r model e. tt;
  opens = λ s c e q r model is. tt;
  sent_at = λ s p inv f r own is e. (sent-answer s r p inv f is e).0;
  sent_handled = λ s p inv f r own is e. (sent-answer s r p inv f is e).1;
  refusal = nothing-reply;
  grant = record { words = zeros-in; cap = tt };
  kind = λ cap number model. kind-reply cap number;
}

parts : Parts (Unit {0}) ranged (alone ranged Kept)
parts = record {
  left = λ s o kept. kept.1;
  idle = λ s r. (tt, r);
  told = λ s record_is o kept. kept;
  named = λ s name o kept. kept;
  walked = λ s p at kind o r own word is kept. ((access-in (s tt) r p at kind word is, kept.0), kept.1);
  cap_walked = λ s p at kind o r own kept. kept;
  behind = λ s o u first second. kept-followed (o tt) (u tt) first second;
}

string-kept : (s : State) (r : AreInRanges s.store) (p : ℕ) (kind : Kind) → is_data kind ≡ true → (at len : ℕ) → at + len ≤ 2 ^ 32 → IsKept (side_outcome s (side s p kind (spans at len)))
string-kept s r p kind is at len low =
    let x : IsRangedSide s r p at (at + len) (side s p kind (spans at len)) = string_side-in s r p kind is at len low in
    (x.touches, r)

module _ (s : State) (r : AreInRanges s.store) (q : ℕ) (inv : InvocationValue) (is : IsRangedInvocation inv) where
  -- the bytes that a process accepts of a message
  abbrev bytes_in : ℕ
  bytes_in = min inv.length (accept_in s q).bound

  accept-low : (accept_in s q).at + bytes_in ≤ 2 ^ 32
  accept-low = let room = accepted-in (process s q).state (process-in s.store r q).state in omega (arith, room)

  received-word : IsWord (size_of_pieces (received_side s q inv.length).pieces)
  received-word =
      let x : IsRangedSide s r q (accept_in s q).at ((accept_in s q).at + bytes_in) (received_side s q inv.length) = string_side-in s r q Put refl (accept_in s q).at bytes_in accept-low in
      let bytes = x.bytes in
      let most = is.bytes in
      omega (arith, bytes, most)

cases : Cases (Unit {0}) ranged (alone ranged Kept)
cases = record {
  pc_is = λ s p pc r own word. (tt, with_process-in (s tt).store r p (with_pc (process (s tt) p) pc) (with_pc-in (process (s tt) p) (process-in (s tt).store r p) pc word));
  regs_are = λ s p registers r own words. (tt, set_registers-in (s tt) r p registers words);
  capreg_is = λ s p j c r own model. (tt, set_capreg-in (s tt) r p j c model);
  replied = λ s p accept reply r own is. (tt, set_reply-in (s tt) r p accept reply is);
  page_is = λ s p at hit size value r own e.
      let page = page_at (s tt).store hit.page in
      (tt, with_page-in (s tt).store r hit.page (with_bytes page hit.offset (bytes_of size value)) (with_bytes-in page hit.offset (bytes_of size value) (page-in (s tt).store r hit.page) (bytes_of-bytes size value)));
  cappage_is = λ s p at place c r own model e.
      let page = cappage_at (s tt).store place.number in
      (tt, with_cappage-in (s tt).store r place.number (with_cap page (slot_in place) c) (All-set IsModelCap page (slot_in place) c model (cappage-in (s tt).store r place.number)));
  ready_again = λ s p r own. (tt, readied_at-in (s tt).store r (schedule_slot (s tt) p) p (leave (s tt) p).queues);
  halts = λ s r. (tt, r);
  faults = λ s p code address handler r own word is. fault-kept (s tt) r p code address word handler is;
  waits = λ s p q r own other. wait-kept (s tt) r p q;
  listens = λ s p inv r own is. listen-kept (s tt) r p inv is;
  sends = λ s p inv r own is. string-kept (s tt) r p Load refl inv.at inv.length is.string;
  receives = λ s e q inv r heard is. string-kept (s tt) r q Put refl (accept_in (s tt) q).at (bytes_in (s tt) r q inv is) (accept-low (s tt) r q inv is);
  delivers = λ s p e q inv r own heard is. delivered-kept (s tt) r p e q inv is (sent_side (s tt) p inv).pieces (received_side (s tt) q inv.length).pieces (received-word (s tt) r q inv is);
  memory = λ s p inv cap r own is model memory. memory-kept (s tt) r p inv is cap model memory;
  control = λ s p inv cap r own is model. control-kept (s tt) r p inv is cap model;
}

-- ---- runs

run-kept : (s : State) (events : List Event) → AreInRanges s.store → IsKept (run_of s events)
run-kept s events r = of_runs ranged Kept origins parts cases (λ p. tt) (λ t hart h. (tt, h)) s r events

-- of every run
pub run-ranges : RunsKeepRanges
run-ranges s events r = subst (λ (t : State). AreInRanges t.store) (run_of-state s events) (run-kept s events r).1

pub run-accesses : RunsAreAccesses
run-accesses s events r = subst AreAccesses (run_of-touches s events) (run-kept s events r).0
