-- The same of states and of what parts of an event make of them.
use Rattle.std.proofs.Common.{◌≡◌, ℕ, Bool, true, false, if◌then◌else◌, List, [], ◌∷◌, ◌++◌, Option, Some, refl, sym, ap, ap₂, ◌∙◌, subst}
use Rattle.cap_format.specs.declared.fault.FaultCode.{FaultCode}
use Rattle.cap_format.specs.declared.request.Request.{Request}
use Rattle.cap_format.specs.Capability.{Capability}
use Rattle.process_objects.specs.Accept.{AcceptValue}
use Rattle.schedules.specs.Queues.{QueuesValue, left}
use Rattle.walk_meaning.specs.declared.kind.Kind.{Kind}
use Rattle.operations.specs.System.{System, Meant, system}
use Rattle.operations.specs.Change.{Change, applied_all}
use Rattle.operations.specs.Row.{Settled, reply_of}
use Rattle.operations.specs.Memory as memory
use Rattle.operations.specs.Control as control
use Rattle.invocation.specs.declared.message.Message.{Message}
use Rattle.invocation.specs.Invocation.{InvocationValue}
use Rattle.invocation.specs.Answerer.{answerer}
use Rattle.string_move.specs.declared.piece.Piece.{Piece}
use Rattle.string_move.specs.declared.span.Span.{Span}
use Rattle.string_move.specs.Move.{size_of_pieces}
use Rattle.fault_path.specs.Fault.{handler_of, heard_by}
use Rattle.machine_state.specs.declared.record.Record.{Record}
use Rattle.machine_state.specs.State.{State, process, schedule_slot}
use Rattle.machine_state.specs.Setters.{set_system, advance, ticked}
use Rattle.machine_state.specs.Outcome.{Outcome, done}
use Rattle.machine_state.specs.DataAccess.{data_access}
use Rattle.machine_state.specs.Faulting.{fault_state}
use Rattle.machine_state.specs.Messaging.{told_state, waiting_state, listening_state}
use Rattle.machine_state.specs.Operation.{request_of, changed_by}
use Rattle.machine_state.specs.Reply.{set_reply}
use Rattle.messages.specs.Followed.{followed}
use Rattle.messages.specs.Fault.{fault}
use Rattle.messages.specs.Strings.{span_side, side}
use Rattle.messages.specs.Message.{bytes_moved, message_of, message_record, sent_off, message_told, delivered}
use Rattle.messages.specs.Waiting.{wait_on, listening_from, listen}
use Rattle.kernel_core.specs.KernelOperation.{memory_op, destroyed_by, is_end_of, control_answered, control_op}
use Rattle.object_store.specs.Store.{with_harts}
use Rattle.machine_state.specs.Home.{widened}
use Rattle.preemption.proofs.Systems.{AreKept, Aside, readied-aside, applied_all-aside, told-aside, waiting-aside, listening-aside, answered-aside, copied-wide}

module _ (many : ℕ) (R : QueuesValue → QueuesValue → Type 0) (k : AreKept R) where
  -- a state beside one of a machine with so many harts
  pub record Beside (s w : State) : Type 0 where
    pub same : w ≡ widened many s w.queues
    pub queues : R s.queues w.queues

  -- the same records, and states side by side
  pub record Alike (o u : Outcome) : Type 0 where
    pub records : u.records ≡ o.records
    pub state : Beside o.state u.state

  -- what is said of a state that has the other's objects is said of any beside it
  pub beside-each : (P : State → Type 0) (s w : State) → Beside s w
      → ((q : QueuesValue) → R s.queues q → P (widened many s q)) → P w
  beside-each P s w b each = subst P (sym b.same) (each w.queues b.queues)

  -- what doesn't look at the queues is the same in both
  pub same-read : {A : Type 0} (f : State → A) (s w : State) → Beside s w
      → ((q : QueuesValue) → f (widened many s q) ≡ f s) → f s ≡ f w
  same-read f s w b same = sym (same w.queues) ∙ ap f (sym b.same)

  -- a change of the objects
  pub still : (f : State → State) (s w : State) → Beside s w
      → ((q : QueuesValue) → f (widened many s q) ≡ widened many (f s) q) → (f s).queues ≡ s.queues
      → Beside (f s) (f w)
  still f s w b same stays = beside-each (λ u. Beside (f s) (f u)) s w b (λ q related. record {
    same = same q ∙ ap (widened many (f s)) (sym (ap (λ (u : State). u.queues) (same q)));
    queues = subst (R (f s).queues) (sym (ap (λ (u : State). u.queues) (same q)))
        (subst (λ r. R r q) (sym stays) related);
  })

  -- nothing besides is done
  pub done-alike : (s w : State) → Beside s w → Alike (done s) (done w)
  done-alike s w b = record { records = refl; state = b }

  -- ---- systems of states

  set-beside : (s : State) (q : QueuesValue) (x y : System) → Aside many R k x y
      → Beside (set_system s x) (set_system (widened many s q) y)
  set-beside s q x y aside = record {
    same = ap (λ v. set_system s v) aside.same;
    queues = aside.queues;
  }

  -- the state after these changes
  pub changed-beside : (changes : List Change) (s w : State) → Beside s w
      → Beside (changed_by s changes) (changed_by w changes)
  changed-beside changes s w b = beside-each
      (λ u. Beside (changed_by s changes) (changed_by u changes)) s w b (λ q related.
      set-beside s q (applied_all Meant (system s.store s.queues) changes)
      (applied_all Meant (system (with_harts s.store many) q) changes)
      (applied_all-aside many R k changes (system s.store s.queues)
      (system (with_harts s.store many) q) (record { same = refl; queues = related })))

  -- a tick
  pub ticked-beside : (p : ℕ) (s w : State) → Beside s w
      → Beside (ticked s (Some p)) (ticked w (Some p))
  ticked-beside p s w b = beside-each (λ u. Beside (ticked s (Some p)) (ticked u (Some p))) s w b
      (λ q related.
      set-beside s q _ _ (readied-aside many R k (schedule_slot s p) p
      (system s.store (left s.queues p)) (left q p) (k.when_left s.queues q p related)))

  -- ---- faults, waits and receiving

  pub fault-alike : (p : ℕ) (code : FaultCode) (address : ℕ) (handler : Option Capability)
      (s w : State) → Beside s w
      → Alike (fault s p code address handler) (fault w p code address handler)
  unfolding fault fault_state handler_of answerer
  fault-alike p code address handler s w b =
      beside-each (λ u. Alike (fault s p code address handler) (fault u p code address handler))
      s w b (λ q related. record {
        records = refl;
        state = set-beside s q _ _ (answered-aside many R k p code address
            (handler_of s.store p handler).payload (heard_by s.store p handler)
            (system s.store s.queues) q related);
      })

  pub wait_on-alike : (p on : ℕ) (s w : State) → Beside s w
      → Alike (wait_on s p on) (wait_on w p on)
  unfolding wait_on waiting_state
  wait_on-alike p on s w b = beside-each (λ u. Alike (wait_on s p on) (wait_on u p on)) s w b
      (λ q related. record {
        records = refl;
        state = set-beside s q _ _
            (waiting-aside many R k p on (system s.store s.queues) q related);
      })

  listening-beside : (p : ℕ) (accept : AcceptValue) (s w : State) → Beside s w
      → Beside (listening_state s p accept) (listening_state w p accept)
  unfolding listening_state
  listening-beside p accept s w b =
      beside-each (λ u. Beside (listening_state s p accept) (listening_state u p accept)) s w b
      (λ q related.
      set-beside s q _ _ (listening-aside many R k p accept (system s.store s.queues) q related))

  begins-beside : (p : ℕ) (sends : Bool) (s w : State) → Beside s w
      → Beside (if sends then s else advance s p) (if sends then w else advance w p)
  begins-beside p true s w b = b
  begins-beside p false s w b = still (λ u. advance u p) s w b (λ q. refl) refl

  pub listen-alike : (p : ℕ) (inv : InvocationValue) (s w : State) → Beside s w
      → Alike (listen s p inv) (listen w p inv)
  unfolding listen
  listen-alike p inv s w b = record {
    records = refl;
    state = listening-beside p inv.accept (listening_from s p inv) (listening_from w p inv)
        (begins-beside p inv.send s w b);
  }

  -- ---- messages

  -- a string is the same in both
  side-wide : (s : State) (q : QueuesValue) (p : ℕ) (kind : Kind) (spans : List Span)
      → side (widened many s q) p kind spans ≡ side s p kind spans
  unfolding side
  side-wide s q p kind [] = refl
  side-wide s q p kind (span ∷ spans) =
      ap (λ rest. span_side s p kind span rest (data_access s p span.address kind))
      (side-wide s q p kind spans)

  pub same-side : (p : ℕ) (kind : Kind) (spans : List Span) (s w : State) → Beside s w
      → side s p kind spans ≡ side w p kind spans
  same-side p kind spans s w b = same-read (λ u. side u p kind spans) s w b
      (λ q. side-wide s q p kind spans)

  told-beside : (e p : ℕ) (message : Message) (s w : State) → Beside s w
      → Beside (told_state s e p message) (told_state w e p message)
  unfolding told_state
  told-beside e p message s w b = beside-each
      (λ u. Beside (told_state s e p message) (told_state u e p message)) s w b (λ q related.
      set-beside s q _ _ (told-aside many R k e p message (system s.store s.queues) q related))

  sent_off-beside : (p : ℕ) (receives : Bool) (s w : State) → Beside s w
      → Beside (sent_off s p receives) (sent_off w p receives)
  sent_off-beside p true s w b = still (λ u. sent_off u p true) s w b (λ q. refl) refl
  sent_off-beside p false s w b = still (λ u. sent_off u p false) s w b (λ q. refl) refl

  message-alike : (p e r : ℕ) (inv : InvocationValue) (length : ℕ) (s w : State) → Beside s w
      → Alike (message_told s p e r inv length) (message_told w p e r inv length)
  unfolding message_of
  message-alike p e r inv length s w b = record {
    records = ap (λ u. message_record u p e r (message_of u p inv length) ∷ []) b.same;
    state = subst (λ message. Beside (message_told s p e r inv length).state
        (sent_off (told_state w e r message) p inv.receive))
        (same-read (λ u. message_of u p inv length) s w b (λ q. refl))
        (sent_off-beside p inv.receive (told_state s e r (message_of s p inv length))
        (told_state w e r (message_of s p inv length))
        (told-beside e r (message_of s p inv length) s w b));
  }

  moved-beside : (from to : List Piece) (s w : State) → Beside s w
      → Beside (bytes_moved s from to).state (bytes_moved w from to).state
  moved-beside from to s w b = still (λ u. (bytes_moved u from to).state) s w b
      (λ q. ap (λ x. record { store = x; queues = q; halted = s.halted })
      (copied-wide s.store many from to)) refl

  -- a message with its string
  pub delivered-alike : (p e r : ℕ) (inv : InvocationValue) (from to : List Piece) (s w : State)
      → Beside s w → Alike (delivered s p e r inv from to) (delivered w p e r inv from to)
  delivered-alike p e r inv from to s w b =
      let told = message-alike p e r inv (size_of_pieces to) (bytes_moved s from to).state
      (bytes_moved w from to).state (moved-beside from to s w b) in
      record { records = told.records; state = told.state }

  -- one part behind another
  pub followed-alike : (o u x y : Outcome) → u.records ≡ o.records → Alike x y
      → Alike (followed o x) (followed u y)
  followed-alike o u x y same alike =
      record {
        records = ap₂ (λ (told more : List Record). told ++ more) same alike.records;
        state = alike.state;
      }

  -- ---- operations of the kernel

  reply-beside : (p : ℕ) (inv : InvocationValue) (settled : Settled) (s w : State) → Beside s w
      → Beside (set_reply s p inv.accept (reply_of settled))
      (set_reply w p inv.accept (reply_of settled))
  reply-beside p inv settled s w b =
      still (λ u. set_reply u p inv.accept (reply_of settled)) s w b (λ q. refl) refl

  same-memory : (s : State) (q : QueuesValue) (c : Capability) (r : Request)
      → memory.memory_operation (widened many s q).store c r ≡ memory.memory_operation s.store c r
  unfolding memory.memory_operation memory.memory_table memory.own_table memory.page_table
      memory.cappage_table memory.gpt_table memory.copy_row memory.get_row memory.set_row
      memory.getslot_row memory.getheader_row
  same-memory s q c r = refl

  pub memory-alike : (p : ℕ) (inv : InvocationValue) (c : Capability) (s w : State) → Beside s w
      → Alike (memory_op s p inv c) (memory_op w p inv c)
  memory-alike p inv c s w b =
      let request = request_of (process s p) inv in
      let settled = memory.memory_operation s.store c request in
      let same : settled ≡ memory.memory_operation w.store c (request_of (process w p) inv) =
      same-read (λ u. memory.memory_operation u.store c (request_of (process u p) inv)) s w b
      (λ q. same-memory s q c request) in
      record {
        records = refl;
        state = subst (λ (other : Settled). Beside (memory_op s p inv c).state
            (set_reply (changed_by w other.answer.changes) p inv.accept (reply_of other))) same
            (reply-beside p inv settled (changed_by s settled.answer.changes)
            (changed_by w settled.answer.changes)
            (changed-beside settled.answer.changes s w b));
      }

  same-control : (s : State) (q : QueuesValue) (c : Capability) (r : Request)
      → control.control_operation Meant
      (widened many s q).store c r ≡ control.control_operation Meant s.store c r
  unfolding control.control_operation control.control_table control.own_table
      control.endpoint_table control.process_table control.range_table control.setrecipient_row
      control.getid_row control.setid_row control.setmatch_row control.setpayload_row
      control.getreg_row control.setreg_row control.getcapreg_row control.setcapreg_row
      control.getslot_row control.setslot_row control.getstate_row control.resume_row
      control.stop_row control.obtained control.getcap_row control.destruction_of
      control.destroy_row
  same-control s q c r = refl

  unless-beside : (p : ℕ) (inv : InvocationValue) (settled : Settled) (ends : Bool) (s w : State)
      → Beside s w
      → Beside (if ends then s else set_reply s p inv.accept (reply_of settled))
      (if ends then w else set_reply w p inv.accept (reply_of settled))
  unless-beside p inv settled true s w b = b
  unless-beside p inv settled false s w b = reply-beside p inv settled s w b

  pub control-alike : (p : ℕ) (inv : InvocationValue) (c : Capability) (s w : State) → Beside s w
      → Alike (control_op s p inv c) (control_op w p inv c)
  control-alike p inv c s w b =
      let request = request_of (process s p) inv in
      let settled = control.control_operation Meant s.store c request in
      let same : settled ≡ control.control_operation Meant w.store c
      (request_of (process w p) inv) =
      same-read (λ u. control.control_operation Meant u.store c (request_of (process u p) inv))
      s w b (λ q. same-control s q c request) in
      subst (λ (other : Settled). Alike (control_op s p inv c)
      (control_answered w p inv other (destroyed_by other.answer.changes))) same
      (record {
        records = refl;
        state = unless-beside p inv settled (is_end_of p (destroyed_by settled.answer.changes))
            (changed_by s settled.answer.changes) (changed_by w settled.answer.changes)
            (changed-beside settled.answer.changes s w b);
      })
