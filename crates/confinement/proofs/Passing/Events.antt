-- An event of a plain process writes nothing that may not be passed on.
use Rattle.std.proofs.Common.{◌≡◌, ◌≢◌, ℕ, ◌==◌, ◌⊎◌, inl, inr, Bool, true, false, if◌then◌else◌, List, [], ◌∷◌, map, Option, Some, None, Result, Err, refl, sym, ◌∙◌, ap, subst, slice_index, slice_set}
use Rattle.std.proofs.lemmas.Bool.{cond_both}
use Rattle.cap_format.specs.declared.fault.FaultCode.{FaultCode}
use Rattle.cap_format.specs.declared.kind.CapKind.{CapKind}
use Rattle.cap_format.specs.declared.kind.CapKind.TheVariants.{Page, CapPage, Gpt, Endpoint, Entry, Process}
use Rattle.cap_format.specs.declared.request.Reply.{Reply}
use Rattle.cap_format.specs.Kind.{is_counted, object_kind}
use Rattle.cap_format.specs.Restr.{has}
use Rattle.cap_format.specs.Capability.{Capability}
use Rattle.page_store.specs.CapPage.{cap_at}
use Rattle.process_objects.specs.Accept.{AcceptValue}
use Rattle.process_objects.specs.Process.{ProcessValue, capreg_of, slot_of, with_pc, with_regs, with_capreg}
use Rattle.object_store.specs.Store.{Store, page_at, slot_at, cappage_at, process_at}
use Rattle.page_store.specs.Page.{with_bytes}
use Rattle.walk_meaning.specs.declared.kind.Kind.{Kind}
use Rattle.walk_meaning.specs.declared.kind.Kind.TheVariants.{Load, CapLoad}
use Rattle.walk_meaning.specs.declared.place.Place.{Place}
use Rattle.walk_meaning.specs.declared.place.WalkFault.{WalkFault}
use Rattle.walk_meaning.specs.Walk.{access}
use Rattle.walk_engine.specs.declared.hit.Hit.{Hit}
use Rattle.rv32_user.specs.Word.{next_of}
use Rattle.invocation.specs.Answerer.{Answer, entered, answered, answerer}
use Rattle.invocation.specs.Answerer.Answer.{Dead, Open, Busy}
use Rattle.invocation.specs.Invocation.{InvocationValue}
use Rattle.invocation.specs.Target.{called_by, called, callee}
use Rattle.invocation.specs.declared.callee.Callee.{Callee}
use Rattle.invocation.specs.declared.callee.Callee.TheVariants.{Kernel, Open as OpenCallee, Busy as BusyCallee, Dead as DeadCallee}
use Rattle.string_move.specs.declared.piece.Piece.{Piece}
use Rattle.string_move.specs.Spans.{spans}
use Rattle.string_move.specs.Move.{size_of_pieces}
use Rattle.operations.specs.System.{System, Meant, system}
use Rattle.operations.specs.Change.{Change}
use Rattle.operations.specs.Row.{reply_of}
use Rattle.operations.specs.Memory.{memory_operation}
use Rattle.operations.specs.Control.{control_operation}
use Rattle.fault_path.specs.Fault.{is_answer, handler_of, faulted, heard_by, answered as fault_answered}
use Rattle.machine_state.specs.declared.event.Event.{Event}
use Rattle.machine_state.specs.declared.event.Event.TheVariants.{Step, Tick}
use Rattle.machine_state.specs.State.{State, process, pc_of, space_of, schedule_slot}
use Rattle.machine_state.specs.Setters.{halted, set_pc, set_registers, set_capreg, advance, leave, dispatch, ticked}
use Rattle.machine_state.specs.Faulting.{fault_state}
use Rattle.machine_state.specs.Messaging.{told_state, waiting_state, listening_state}
use Rattle.machine_state.specs.DataAccess.{data_access, bytes_of, written}
use Rattle.machine_state.specs.CapAccess.{cap_found, cap_stored, slot_in}
use Rattle.machine_state.specs.Operation.{request_of, changed_by}
use Rattle.machine_state.specs.Outcome.{Outcome, done}
use Rattle.machine_state.specs.Reply.{answered as reply_answered, replied_with, replied, set_reply}
use Rattle.messages.specs.declared.string_fault.StringFault.{StringFault}
use Rattle.messages.specs.Fault.{fault}
use Rattle.messages.specs.Message.{bytes_moved, message_of, sent_off, message_told, delivered, sent_side, received_side}
use Rattle.messages.specs.Waiting.{wait_on, listening_from, listen}
use Rattle.kernel_core.specs.KernelOperation.{memory_op, destroyed_by, is_end_of, replied_unless, control_op}
use Rattle.kernel_core.specs.Event.{instruction, stepped, tick_of, performer_by, event_by}
use Rattle.kernel_core.specs.Induction.{Notions, alone, Origins, Parts, Cases}
use Rattle.kernel_core.proofs.Induction.{instruction-alone}
use Rattle.object_store.specs.Object.{ObjectName}
use Rattle.confinement.specs.declared.cut_side.CutSide.{CutSide}
use Rattle.confinement.specs.declared.cut_side.CutSide.TheVariants.{Left, Right}
use Rattle.confinement.specs.Cut.{Cut, side_of, closed_cut, MayHold}
use Rattle.confinement.specs.Acts.{MayHoldIf}
use Rattle.confinement.specs.Reach.{ReadsWeakly, Reaches, Ends}
use Rattle.confinement.specs.Passing.{Passing, lies_kind, may_lie, IsPlain, PassesAtMost, PassLaw}
use Rattle.confinement.proofs.Held.{side-entry}
use Rattle.confinement.proofs.Walks.{access_ends}
use Rattle.confinement.proofs.Machine.{ends-hit, EndsHit}
use Rattle.confinement.proofs.Messaging.{StringFaultOwn, side-ends}
use Rattle.confinement.proofs.Runs.{unless-halted}
use Rattle.confinement.proofs.Giving.{AllAre, RegistersGain, gain-then, gains-capreg}
use Rattle.confinement.proofs.Passing.Writing.{Passes, writes-same, writes-then, writes-process, writes-nothing, writes-page, writes-cap, writes-readied, writes-told, writes-faulted, writes-waiting, writes-listening, writes-copied}
use Rattle.confinement.proofs.Passing.Operating.{NoChanges, PassesIf, passes-through, memory-passes, control-passes, kind-passes}

-- ---- where accesses of a plain process end

-- "the GPTs and capability pages of a set, with all pages and processes, and all else": endpoints are beyond
abbrev slots_side : (CapKind → ℕ → Bool) → CapKind → ℕ → CutSide
slots_side own Gpt n = if own Gpt n then Left else Right
slots_side own CapPage n = if own CapPage n then Left else Right
slots_side own Endpoint n = Right
slots_side own _ n = Left

-- over which nothing may be held
abbrev slots_cut : (CapKind → ℕ → Bool) → Cut
slots_cut own = record (closed_cut (slots_side own)) { weakly = λ side. false }

module _ (own : CapKind → ℕ → Bool) where
  if-own : (b : Bool) → (if b then Left else Right) ≡ Left → b ≡ true
  if-own true e = refl
  if-own false e = absurd (cc (e))

  own-if : (b : Bool) → b ≡ true → (if b then Left else Right) ≡ Left
  own-if true e = refl
  own-if false e = absurd (cc (e))

  lies-side : (k : CapKind) (n : ℕ) → lies_kind own k n ≡ true → is_counted k ≡ true → slots_side own (object_kind k) n ≡ Left
  lies-side Page n lies counted = refl
  lies-side Process n lies counted = refl
  lies-side Gpt n lies counted = own-if (own Gpt n) lies
  lies-side CapPage n lies counted = own-if (own CapPage n) lies
  lies-side Endpoint n lies counted = absurd (cc (lies))
  lies-side Entry n lies counted = absurd (cc (lies))
  lies-side _ n lies counted = absurd (cc (counted))

  -- what may stand in a slot may be held there
  lies-may : (c : Capability) → may_lie own c ≡ true → MayHold (slots_cut own) Left c
  lies-may c lies = record {
    no_range = λ e. let no = sym lies ∙ ap (λ (k : CapKind). lies_kind own k c.object) e in cc (no);
    halting = λ e. refl;
    logging = λ e. refl;
    own = inl (λ counted. lies-side c.kind c.object lies counted);
  }

  -- a capability that nobody answers
  abbrev Unanswered : Option Capability → Type 0
  Unanswered None = Unit {0}
  Unanswered (Some c) = c.kind ≢ Entry

  no-entry : (c : Capability) → MayHold (slots_cut own) Left c → c.kind ≢ Entry
  no-entry c may entry = elim (side-entry (slots_cut own) Left c entry may) [
    | inl there ↦ cc (there)
    | inr calls ↦ cc (calls)
  ]

  unanswered : (handler : Option Capability) → MayHoldIf (slots_cut own) Left handler → Unanswered handler
  unanswered None may = tt
  unanswered (Some c) may = no-entry c may

  lies-unanswered : (c : Capability) → may_lie own c ≡ true → c.kind ≢ Entry
  lies-unanswered c lies = no-entry c (lies-may c lies)

  -- a handler that is no entry isn't answered
  answered-dead : (s : Store) (k : CapKind) (c : Capability) → k ≢ Entry → answered s k c ≡ Dead
  answered-dead s Entry c other = absurd (other refl)
  answered-dead s _ c other = refl

  answerer-dead : (s : Store) (c : Capability) → c.kind ≢ Entry → answerer s c ≡ Dead
  unfolding answerer
  answerer-dead s c other = answered-dead s c.kind c other

  handler-other : (s : Store) (p : ℕ) (handler : Option Capability) → may_lie own (slot_of (process_at s p) 2) ≡ true → Unanswered handler
      → (handler_of s p handler).kind ≢ Entry
  unfolding handler_of
  handler-other s p None lies other = lies-unanswered (slot_of (process_at s p) 2) lies
  handler-other s p (Some c) lies other = by (is_answer (answerer s c))
    where
      by : (b : Bool) → (if b then c else slot_of (process_at s p) 2).kind ≢ Entry
      by true = other
      by false = lies-unanswered (slot_of (process_at s p) 2) lies

module _ (passing : Passing) (own : CapKind → ℕ → Bool) where
  abbrev Plain : State → Type 0
  Plain s = IsPlain passing own s.store

  -- a part of an event leaves the set plain, and writes nothing that may not be passed on
  abbrev Writes : State → State → Type 0
  Writes s t = Plain t × PassesAtMost passing s.store t.store

  pub plain-after : (s t : Store) → PassesAtMost passing s t → IsPlain passing own s → IsPlain passing own t
  plain-after s t wrote plain = record {
    capregs = λ p i is. by (capreg_of (process_at s p) i) (capreg_of (process_at t p) i) (wrote.capregs p i) (plain.capregs p i is);
    cappages = λ n i is. by (cap_at (cappage_at s n) i) (cap_at (cappage_at t n) i) (wrote.cappages n i) (plain.cappages n i is);
    process_slots = λ p i is. subst (λ (c : Capability). may_lie own c ≡ true) (wrote.process_slots p i) (plain.process_slots p i is);
    slots = λ g i is. subst (λ (c : Capability). may_lie own c ≡ true) (wrote.slots g i) (plain.slots g i is);
  }
    where
      by : (x y : Capability) → (x ≡ y) ⊎ Passes passing y → Passes passing x → Passes passing y
      by x y (inl same) is = subst (Passes passing) same is
      by x y (inr passes) is = passes

  wrote : (s t : State) → Plain s → PassesAtMost passing s.store t.store → Writes s t
  wrote s t plain at-most = (plain-after s.store t.store at-most plain, at-most)

  wrote-then : (s t u : State) → Writes s t → (Plain t → Writes t u) → Writes s u
  wrote-then s t u first second = let last = second first.0 in
      (last.0, writes-then passing s.store t.store u.store first.1 last.1)

  -- ---- accesses

  ends-here : (s : State) (p at : ℕ) (kind : Kind) → Plain s → own Process p ≡ true
      → Ends (slots_cut own) Left kind (access s.store.items (space_of s p) at kind)
  ends-here s p at kind plain is =
      access_ends (slots_cut own) Left s.store.items
      (λ g i there. lies-may own (slot_at s.store.items g i) (plain.slots g i (if-own own (own Gpt g) there)))
      kind (space_of s p) at (lies-may own (space_of s p) (plain.process_slots p 0 is))

  -- a capability is loaded from a capability page of the set
  own-cappage : (p : Place) → p.kind ≡ CapPage → (side_of (slots_cut own) p.kind p.number ≡ Left) ⊎ ReadsWeakly (slots_cut own) Left p
      → own CapPage p.number ≡ true
  own-cappage p k (inl there) =
      if-own own (own CapPage p.number) (subst (λ (j : CapKind). slots_side own j p.number ≡ Left) k there)
  own-cappage p k (inr weak) = let no = weak.0 in absurd (cc (no))

  passes-found : (s : State) (p : Place) → Plain s → Reaches (slots_cut own) Left CapLoad p → Passes passing (cap_found s p)
  passes-found s p plain r =
      passes-through passing (cap_at (cappage_at s.store p.number) (slot_in p)) (has p.restr.0 4)
      (plain.cappages p.number (slot_in p) (own-cappage p r.serves r.own))

  -- ---- what is called

  abbrev CalleePasses : Callee → Type 0
  CalleePasses (Kernel c) = Passes passing c
  CalleePasses (OpenCallee e q) = Unit {0}
  CalleePasses (BusyCallee q) = Unit {0}
  CalleePasses DeadCallee = Unit {0}

  by-passes : (a : Answer) → CalleePasses (called_by a)
  by-passes Dead = tt
  by-passes (Open e q) = tt
  by-passes (Busy q) = tt

  called-passes : (s : Store) (k : CapKind) (c : Capability) → Passes passing c → CalleePasses (called s k c)
  called-passes s Entry c is = by-passes (entered s c.object c.payload)
  called-passes s _ c is = is

  callee-passes : (s : Store) (c : Capability) → Passes passing c → CalleePasses (callee s c)
  unfolding callee
  callee-passes s c is = called-passes s c.kind c is

  -- ---- one change

  wrote-pc : (s : State) (p pc : ℕ) → Plain s → Writes s (set_pc s p pc)
  wrote-pc s p pc plain = wrote s (set_pc s p pc) plain (writes-nothing passing s.store p (with_pc (process s p) pc) refl refl)

  wrote-registers : (s : State) (p : ℕ) (registers : List ℕ) → Plain s → Writes s (set_registers s p registers)
  wrote-registers s p registers plain =
      wrote s (set_registers s p registers) plain (writes-nothing passing s.store p (with_regs (process s p) registers) refl refl)

  wrote-ticked : (s : State) (p : ℕ) → Plain s → Writes s (ticked s (Some p))
  wrote-ticked s p plain =
      wrote s (ticked s (Some p)) plain (writes-readied passing (system s.store (leave s p).queues) (schedule_slot s p) p)

  -- ---- replies

  gains-answered : (v : ProcessValue) (number : ℕ) (reply : Reply) → RegistersGain (Passes passing) v (reply_answered v number reply) × (v.slots ≡ (reply_answered v number reply).slots)
  unfolding reply_answered
  gains-answered v number reply = (λ i. inl refl, refl)

  gains-replied : (v : ProcessValue) (accept : AcceptValue) (reply : Reply) (cap : Option Capability) → PassesIf passing cap
      → RegistersGain (Passes passing) v (replied_with v accept reply cap) × (v.slots ≡ (replied_with v accept reply cap).slots)
  gains-replied v accept reply None is = gains-answered v 0 reply
  gains-replied v accept reply (Some c) is =
      cond_both (accept.caps == 0) _ _ (λ (x : ProcessValue). RegistersGain (Passes passing) v x × (v.slots ≡ x.slots))
      (λ e. gains-answered v 0 reply)
      (λ e.
      let x = reply_answered v 1 reply in
      let first = gains-answered v 1 reply in
      let i = slice_index accept.regs 0 in
      (λ j. gain-then (Passes passing) (capreg_of v j) (capreg_of x j) (capreg_of (with_capreg x i c) j) (first.0 j) (gains-capreg (Passes passing) x i c is j), first.1))

  wrote-reply : (s : State) (p : ℕ) (accept : AcceptValue) (reply : Reply) → PassesIf passing reply.cap → Plain s → Writes s (set_reply s p accept reply)
  unfolding replied
  wrote-reply s p accept reply is plain =
      let gains = gains-replied (process s p) accept reply reply.cap is in
      wrote s (set_reply s p accept reply) plain (writes-process passing s.store p (replied (process s p) accept reply) gains.0 gains.1)

  -- ---- operations

  writes-changes : (s : State) (changes : List Change) → NoChanges changes → PassesAtMost passing s.store (changed_by s changes).store
  writes-changes s [] none = writes-same passing s.store
  writes-changes s (change ∷ changes) none = absurd none

  wrote-memory : (s : State) (p : ℕ) (inv : InvocationValue) (c : Capability) → Passes passing c → Plain s → Writes s (memory_op s p inv c).state
  wrote-memory s p inv c is plain =
      let settled = memory_operation s.store c (request_of (process s p) inv) in
      let passes = memory-passes passing s.store c is (request_of (process s p) inv) in
      let t = changed_by s settled.answer.changes in
      wrote-then s t (set_reply t p inv.accept (reply_of settled)) (wrote s t plain (writes-changes s settled.answer.changes passes.0))
      (λ h. wrote-reply t p inv.accept (reply_of settled) passes.1 h)

  wrote-unless : (destroyed : Option ObjectName) (s : State) (p : ℕ) (accept : AcceptValue) (reply : Reply) → PassesIf passing reply.cap → Plain s
      → Writes s (replied_unless destroyed s p accept reply)
  wrote-unless destroyed s p accept reply is plain =
      cond_both (is_end_of p destroyed) _ _ (Writes s) (λ e. wrote s s plain (writes-same passing s.store)) (λ e. wrote-reply s p accept reply is plain)

  wrote-control : (s : State) (p : ℕ) (inv : InvocationValue) (c : Capability) → Passes passing c → Plain s → Writes s (control_op s p inv c).state
  wrote-control s p inv c is plain =
      let settled = control_operation Meant s.store c (request_of (process s p) inv) in
      let passes = control-passes passing s.store c is (request_of (process s p) inv) Meant in
      let t = changed_by s settled.answer.changes in
      let destroyed = destroyed_by settled.answer.changes in
      wrote-then s t (replied_unless destroyed t p inv.accept (reply_of settled)) (wrote s t plain (writes-changes s settled.answer.changes passes.0))
      (λ h. wrote-unless destroyed t p inv.accept (reply_of settled) passes.1 h)

  -- ---- faults, waits and messages

  writes-unheard : (w : System) (p : ℕ) (code : FaultCode) (address payload : ℕ) (answer : Answer) → answer ≡ Dead
      → PassesAtMost passing w.store (fault_answered Meant w p code address payload answer).store
  unfolding fault_answered faulted
  writes-unheard w p code address payload Dead dead = writes-faulted passing w.store p code address
  writes-unheard w p code address payload (Open e q) dead = absurd (cc (dead))
  writes-unheard w p code address payload (Busy q) dead = absurd (cc (dead))

  wrote-fault : (s : State) (p : ℕ) (code : FaultCode) (address : ℕ) (handler : Option Capability) → own Process p ≡ true → Unanswered own handler → Plain s
      → Writes s (fault s p code address handler).state
  unfolding fault fault_state
  wrote-fault s p code address handler is other plain =
      let asked = handler_of s.store p handler in
      let dead = answerer-dead own s.store asked (handler-other own s.store p handler (plain.process_slots p 2 is) other) in
      wrote s (fault s p code address handler).state plain
      (writes-unheard (system s.store s.queues) p code address asked.payload (heard_by s.store p handler) dead)

  wrote-wait : (s : State) (p q : ℕ) → Plain s → Writes s (wait_on s p q).state
  unfolding wait_on waiting_state
  wrote-wait s p q plain = wrote s (wait_on s p q).state plain (writes-waiting passing (system s.store s.queues) p q)

  wrote-from : (s : State) (p : ℕ) (inv : InvocationValue) → Plain s → Writes s (listening_from s p inv)
  wrote-from s p inv plain =
      cond_both inv.send _ _ (Writes s) (λ e. wrote s s plain (writes-same passing s.store)) (λ e. wrote-pc s p (next_of (pc_of s p)) plain)

  wrote-listening : (s : State) (p : ℕ) (accept : AcceptValue) → Plain s → Writes s (listening_state s p accept)
  unfolding listening_state
  wrote-listening s p accept plain = wrote s (listening_state s p accept) plain (writes-listening passing Meant (system s.store s.queues) p accept)

  wrote-listen : (s : State) (p : ℕ) (inv : InvocationValue) → Plain s → Writes s (listen s p inv).state
  unfolding listen
  wrote-listen s p inv plain =
      let t = listening_from s p inv in
      wrote-then s t (listening_state t p inv.accept) (wrote-from s p inv plain) (λ h. wrote-listening t p inv.accept h)

  wrote-off : (s : State) (p : ℕ) (receive : Bool) → Plain s → Writes s (sent_off s p receive)
  wrote-off s p true plain = wrote-pc s p (next_of (pc_of s p)) plain
  wrote-off s p false plain =
      let t = advance s p in
      wrote-then s t (sent_off s p false) (wrote-pc s p (next_of (pc_of s p)) plain) (λ h. wrote-registers t p (slice_set (process t p).regs 10 0) h)

  -- what a plain process sends may be passed on
  sent-passes : (v : ProcessValue) (registers : List ℕ) → ((i : ℕ) → Passes passing (capreg_of v i)) → AllAre (Passes passing) (map (capreg_of v) registers)
  sent-passes v [] each = tt
  sent-passes v (i ∷ is) each = (each i, sent-passes v is each)

  wrote-message : (s : State) (p e q : ℕ) (inv : InvocationValue) (length : ℕ) → own Process p ≡ true → Plain s
      → Writes s (message_told s p e q inv length).state
  unfolding message_of told_state
  wrote-message s p e q inv length is plain =
      let message = message_of s p inv length in
      let t = told_state s e q message in
      wrote-then s t (sent_off t p inv.receive)
      (wrote s t plain (writes-told passing Meant (system s.store s.queues) e q message (sent-passes (process s p) inv.sent (λ i. plain.capregs p i is))))
      (λ h. wrote-off t p inv.receive h)

  wrote-delivered : (s : State) (p e q : ℕ) (inv : InvocationValue) (from to : List Piece) → own Process p ≡ true → Plain s
      → Writes s (delivered s p e q inv from to).state
  wrote-delivered s p e q inv from to is plain =
      let t = (bytes_moved s from to).state in
      wrote-then s t (message_told t p e q inv (size_of_pieces to)).state
      (wrote s t plain (writes-copied passing s.store from to)) (λ h. wrote-message t p e q inv (size_of_pieces to) is h)

  -- ---- every part

  abbrev on_plain : Notions
  on_plain = record {
    holds = λ s. Plain s;
    by = λ p. own Process p ≡ true;
    heard = λ s e q. Unit {0};
    awaited = λ q. Unit {0};
    word = λ number. Unit {0};
    regs = λ registers. Unit {0};
    has = λ c. Passes passing c;
    handler = λ s p c. Unanswered own c;
    reply = λ reply. PassesIf passing reply.cap;
    does = λ effect. Unit {0};
    asks = λ inv. Unit {0};
  }

  hit-unanswered : (kind : Kind) (r : Result Hit WalkFault) (f : WalkFault) → EndsHit (slots_cut own) Left kind r → r ≡ Err f → Unanswered own f.handler
  hit-unanswered kind r f ends e = unanswered own f.handler (subst (EndsHit (slots_cut own) Left kind) e ends)

  string-unanswered : (f : StringFault) (o : Option StringFault) → StringFaultOwn (slots_cut own) Left o → o ≡ Some f → Unanswered own f.why.handler
  string-unanswered f o ends e = unanswered own f.why.handler (subst (StringFaultOwn (slots_cut own) Left) e ends)

  origins : Origins on_plain
  origins = record {
    register = λ s p i plain is. tt;
    capreg = λ s p i plain is. plain.capregs p i is;
    pc = λ s p plain is. tt;
    next = λ pc. tt;
    effect = λ s p word insn plain is e. tt;
    computed = λ s p word insn plain is e. tt;
    target = λ pc does. tt;
    load = λ at size signed rd does. tt;
    store = λ at size value does. tt;
    misaligned = λ target does. tt;
    loads = λ s p at size signed rd hit plain is does e. tt;
    found = λ s p at place plain is e. passes-found s place plain (subst (Ends (slots_cut own) Left CapLoad) e (ends-here s p at CapLoad plain is));
    unhandled = λ s p. tt;
    handled = λ s p at kind f plain is e.
        hit-unanswered kind (data_access s p at kind) f (ends-hit (slots_cut own) Left kind (access s.store.items (space_of s p) at kind) (ends-here s p at kind plain is)) e;
    cap_handled = λ s p at kind f plain is e.
        unanswered own f.handler (subst (Ends (slots_cut own) Left kind) e (ends-here s p at kind plain is));
    asked = λ s p inv plain is e. tt;
    kernel = λ s c cap plain is e. subst CalleePasses e (callee-passes s.store c is);
    busy = λ s c q plain is e. tt;
    opens = λ s c e q plain is same. tt;
    sent_at = λ s p inv f plain is asks e. tt;
    sent_handled = λ s p inv f plain is asks e.
        let string = side-ends (slots_cut own) Left p s Load (spans inv.at inv.length) (λ at. ends-here s p at Load plain is) in
        string-unanswered f (sent_side s p inv).fault string.fault e;
    refusal = λ code. tt;
    grant = tt;
    kind = λ cap number is. kind-passes passing number cap;
  }

  abbrev Leaves : State → Outcome → Type 0
  Leaves s o = Writes s o.state

  parts : Parts (Unit {0}) on_plain (alone on_plain Leaves)
  parts = record {
    left = λ s o wrote. wrote.0;
    idle = λ s plain. wrote (s tt) (s tt) plain (writes-same passing (s tt).store);
    told = λ s r o wrote. wrote;
    named = λ s name o wrote. wrote;
    walked = λ s p at kind o plain is word of_data wrote. wrote;
    cap_walked = λ s p at kind o plain is wrote. wrote;
    behind = λ s o u first second. wrote-then (s tt) (o tt).state (u tt).state first (λ h. second);
  }

  cases : Cases (Unit {0}) on_plain (alone on_plain Leaves)
  cases = record {
    pc_is = λ s p pc plain is word. wrote-pc (s tt) p pc plain;
    regs_are = λ s p registers plain is are. wrote-registers (s tt) p registers plain;
    capreg_is = λ s p j c plain is passes.
        wrote (s tt) (set_capreg (s tt) p j c) plain (writes-process passing (s tt).store p (with_capreg (process (s tt) p) j c) (gains-capreg (Passes passing) (process (s tt) p) j c passes) refl);
    replied = λ s p accept reply plain is passes. wrote-reply (s tt) p accept reply passes plain;
    page_is = λ s p at hit size value plain is e.
        wrote (s tt) (written (s tt) hit size value) plain (writes-page passing (s tt).store hit.page (with_bytes (page_at (s tt).store hit.page) hit.offset (bytes_of size value)));
    cappage_is = λ s p at place c plain is passes e. wrote (s tt) (cap_stored (s tt) place c) plain (writes-cap passing (s tt).store place.number (slot_in place) c passes);
    ready_again = λ s p plain is. wrote-ticked (s tt) p plain;
    halts = λ s plain. wrote (s tt) (halted (s tt)) plain (writes-same passing (s tt).store);
    faults = λ s p code address handler plain is word other. wrote-fault (s tt) p code address handler is other plain;
    waits = λ s p q plain is other. wrote-wait (s tt) p q plain;
    listens = λ s p inv plain is asks. wrote-listen (s tt) p inv plain;
    sends = λ s p inv plain is asks. wrote (s tt) (s tt) plain (writes-same passing (s tt).store);
    receives = λ s e q inv plain heard asks. wrote (s tt) (s tt) plain (writes-same passing (s tt).store);
    delivers = λ s p e q inv plain is heard asks.
        wrote-delivered (s tt) p e q inv (sent_side (s tt) p inv).pieces (received_side (s tt) q inv.length).pieces is plain;
    memory = λ s p inv cap plain is asks passes memory. wrote-memory (s tt) p inv cap passes plain;
    control = λ s p inv cap plain is asks passes. wrote-control (s tt) p inv cap passes plain;
  }

  -- ---- an event

  module _ (p : ℕ) (is : own Process p ≡ true) where
    wrote-instruction : (s : State) → Plain s → Writes s (instruction s p).state
    wrote-instruction s plain = instruction-alone on_plain Leaves origins parts cases s p plain is

    wrote-by : (s : State) (e : Event) → performer_by s e ≡ Some p → Plain s → PassesAtMost passing s.store (event_by s e).state.store
    unfolding event_by
    wrote-by s (Step hart) performs plain =
        subst (λ (on : Option ℕ). PassesAtMost passing s.store (stepped (dispatch s hart) on).state.store) (sym performs)
        (let wrote = wrote-instruction (dispatch s hart) plain in wrote.1)
    wrote-by s (Tick hart) performs plain =
        subst (λ (on : Option ℕ). PassesAtMost passing s.store (tick_of s on).state.store) (sym performs)
        (let wrote = wrote-ticked s p plain in wrote.1)

-- the law of plain processes
pub pass_law : PassLaw
pass_law passing own s e p is performs plain =
    let by = unless-halted s.halted (performer_by s e) p performs in
    subst (λ (b : Bool). PassesAtMost passing s.store (if b then done s else event_by s e).state.store) (sym by.0) (wrote-by passing own p is s e by.1 plain)
