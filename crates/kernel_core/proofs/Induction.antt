-- Induction over the parts of an event: what holds of each part holds of every instruction, and of every event and run.
use Rattle.std.proofs.Common.{◌≡◌, ℕ, ◌%◌, ◌==◌, ◌&&◌, nat_le, Bool, true, false, if◌then◌else◌, List, [], ◌∷◌, Option, Some, None, Result, Ok, Err, refl, ap, subst}
use mathlib.Core.Path.{fun_ext}
use Rattle.std.proofs.lemmas.Bool.{cond_both}
use Rattle.cap_format.specs.declared.code.Code.{Code}
use Rattle.cap_format.specs.declared.code.Code.TheVariants.{InvalidCap, RequestError, WouldBlock}
use Rattle.cap_format.specs.declared.fault.FaultCode.{FaultCode}
use Rattle.cap_format.specs.declared.fault.FaultCode.TheVariants.{BadAlign, BadOpcode, Breakpoint, MalformedSyscall}
use Rattle.cap_format.specs.declared.kind.CapKind.{CapKind}
use Rattle.cap_format.specs.declared.kind.CapKind.TheVariants.{KernLog, SysCtl}
use Rattle.cap_format.specs.declared.request.Reply.{Reply}
use Rattle.cap_format.specs.Kind.{is_memory}
use Rattle.cap_format.specs.Capability.{Capability}
use Rattle.process_objects.specs.Process.{ProcessValue, reg_of, capreg_of}
use Rattle.walk_meaning.specs.declared.kind.Kind.TheVariants.{Fetch, Load, Store as Put, CapLoad, CapStore}
use Rattle.walk_meaning.specs.declared.place.Place.{Place}
use Rattle.walk_meaning.specs.declared.place.WalkFault.{WalkFault}
use Rattle.walk_engine.specs.declared.hit.Hit.{Hit}
use Rattle.rv32_decode.specs.declared.insn.Insn.{Insn}
use Rattle.rv32_decode.specs.Table.{insn_at}
use Rattle.rv32_user.specs.declared.effect.Effect.{Effect}
use Rattle.rv32_user.specs.declared.effect.Effect.TheVariants.{Next, Load as LoadOf, Store as StoreOf, Syscall, Break, Misaligned}
use Rattle.rv32_user.specs.Word.{next_of}
use Rattle.rv32_user.specs.Step.{effect_of, registers_after, loaded}
use Rattle.operations.specs.Row.{refused, granted, nothing, reply_of, settled_in}
use Rattle.schedules.specs.Queues.{hart_of}
use Rattle.invocation.specs.declared.callee.Callee.{Callee}
use Rattle.invocation.specs.declared.callee.Callee.TheVariants.{Kernel, Open, Busy, Dead}
use Rattle.invocation.specs.declared.malformed.MalformedSyscall.{MalformedSyscall as Malformed}
use Rattle.invocation.specs.Invocation.{InvocationValue, parsed}
use Rattle.invocation.specs.Target.{callee}
use Rattle.string_move.specs.Move.{gathered}
use Rattle.messages.specs.declared.string_fault.StringFault.{StringFault}
use Rattle.messages.specs.Followed.{followed}
use Rattle.messages.specs.Fault.{fault, malformed}
use Rattle.messages.specs.Strings.{side_outcome}
use Rattle.messages.specs.Message.{sent_side, received_side, delivered, sent_by_fault, send_open, is_whole, is_delivered}
use Rattle.messages.specs.Waiting.{listen}
use Rattle.machine_state.specs.declared.event.Event.{Event}
use Rattle.machine_state.specs.declared.event.Event.TheVariants.{Step, Tick}
use Rattle.machine_state.specs.declared.record.Record.TheVariants.{Insn as InsnRead, Log, Halt}
use Rattle.machine_state.specs.State.{State, process, pc_of}
use Rattle.machine_state.specs.Setters.{halted, set_pc, set_registers, set_capreg, advance, dispatch, ticked}
use Rattle.machine_state.specs.Outcome.{Outcome, process_name, page_name, cappage_name, done, recorded, touched}
use Rattle.machine_state.specs.DataAccess.{data_access, data_touch, reached, number_at, written}
use Rattle.machine_state.specs.CapAccess.{cap_access, cap_reached, cap_found, cap_stored}
use Rattle.kernel_core.specs.declared.system_calls.SystemCall.{SystemCall}
use Rattle.kernel_core.specs.declared.system_calls.SystemCall.TheVariants.{Invoke, LoadCap, StoreCap, CopyCap, Yield}
use Rattle.kernel_core.specs.LoadStore.{loaded_from, load, stored_to, store}
use Rattle.kernel_core.specs.CapTransfer.{cap_loaded_from, load_cap, cap_stored_to, store_cap}
use Rattle.kernel_core.specs.KernelOperation.{asked_number, answered_call, memory_op, control_op, kind_table, sysctl_op, is_no_log, logged, log_string, kernlog_op, asked_for, kernel_op}
use Rattle.kernel_core.specs.SystemCall.{call_with, copy_cap, sent_to, send, received_after, invoked, invoke, called, system_call}
use Rattle.kernel_core.specs.Instruction.{performed, perform}
use Rattle.kernel_core.specs.Event.{decoded_to, fetched_from, instruction, stepped, tick_of, event_by, event_of}
use Rattle.kernel_core.specs.Run.{run_of}
use Rattle.kernel_core.specs.Induction.{Notions, wants_nothing, Together, alone, Origins, Reads, Parts, Cases, OfInstructions, OfRuns}

module _ (I : Type 0) (n : Notions) (m : Together I n) (y : Origins n) (r : Reads I n m) (x : Parts I n m) (z : Cases I n m) where
  -- ---- states side by side

  -- what is the same in each is read in the first
  reading : {A : Type 0} → (s : I → State) (o : A → I → Outcome) (f : I → A) → ((i : I) → f m.first ≡ f i) → m.makes s (o (f m.first))
      → m.makes s (λ i. o (f i) i)
  reading {A = A} s o f same part = subst (λ (g : I → A). m.makes s (λ i. o (g i) i)) (fun_ext same) part

  -- the same test in each
  either : (b : Bool) (s : I → State) (o u : I → Outcome) → m.makes s o → m.makes s u → m.makes s (λ i. if b then o i else u i)
  either true s o u met unmet = met
  either false s o u met unmet = unmet

  -- one change, and what goes on from there
  onward : (s t : I → State) (o : I → Outcome) → m.makes s (λ i. done (t i)) → (m.kept t → m.makes t o) → m.makes s o
  onward s t o one rest = x.behind s (λ i. done (t i)) o one (rest (x.left s (λ i. done (t i)) one))

  module _ (p : ℕ) (own : n.by p) where
    module _ (s : I → State) (k : m.kept s) where
      -- the process as the first has it
      abbrev it : ProcessValue
      it = process (s m.first) p

      of_it : (o : ProcessValue → I → Outcome) → m.makes s (o it) → m.makes s (λ i. o (process (s i) p) i)
      of_it o part = reading s o (λ i. process (s i) p) (r.itself s p k own) part

      holds : n.holds (s m.first)
      holds = m.each s k

      -- ---- faults, and going on

      fault-made : (code : FaultCode) (address : ℕ) → n.word address → m.makes s (λ i. fault (s i) p code address None)
      fault-made code address word = z.faults s p code address None k own word (y.unhandled (s m.first) p)

      here-made : (code : FaultCode) (handler : Option Capability) → n.handler (s m.first) p handler → m.makes s (λ i. fault (s i) p code (pc_of (s i) p) handler)
      here-made code handler is = of_it (λ q i. fault (s i) p code q.pc handler) (z.faults s p code it.pc handler k own (y.pc (s m.first) p holds own) is)

      malformed-made : m.makes s (λ i. malformed (s i) p)
      malformed-made = here-made MalformedSyscall None (y.unhandled (s m.first) p)

      advance-made : m.makes s (λ i. done (advance (s i) p))
      advance-made = of_it (λ q i. done (set_pc (s i) p (next_of q.pc))) (z.pc_is s p (next_of it.pc) k own (y.next it.pc))

    -- one change, and the process goes on behind its instruction
    on-made : (s t : I → State) → m.makes s (λ i. done (t i)) → m.makes s (λ i. done (advance (t i) p))
    on-made s t one = onward s t (λ i. done (advance (t i) p)) one (λ l. advance-made t l)

    module _ (s : I → State) (k : m.kept s) where
      -- ---- loads, stores and capabilities

      loaded-made : (at size : ℕ) (signed : Bool) (rd : ℕ) → n.does (LoadOf at size signed rd) → (answer : Result Hit WalkFault) → data_access (s m.first) p at Load ≡ answer
          → m.makes s (λ i. loaded_from (s i) p at size signed rd answer)
      loaded-made at size signed rd does (Err f) e = z.faults s p f.code at f.handler k own (y.load at size signed rd does) (y.handled (s m.first) p at Load f (holds s k) own e)
      loaded-made at size signed rd does (Ok hit) e =
          let number = number_at (s m.first) hit size in
          let registers = loaded (it s k).regs rd size signed number in
          x.told s (reached p Load at hit) (λ i. done (advance (set_registers (s i) p (loaded (process (s i) p).regs rd size signed (number_at (s i) hit size))) p))
          (of_it s k (λ q i. done (advance (set_registers (s i) p (loaded q.regs rd size signed (number_at (s i) hit size))) p))
          (reading s (λ number i. done (advance (set_registers (s i) p (loaded (it s k).regs rd size signed number)) p)) (λ i. number_at (s i) hit size) (r.number s p at Load hit size k own refl e)
          (on-made s (λ i. set_registers (s i) p registers) (z.regs_are s p registers k own (y.loads (s m.first) p at size signed rd hit (holds s k) own does e)))))

      load-made : (at size : ℕ) (signed : Bool) (rd : ℕ) → n.does (LoadOf at size signed rd) → m.makes s (λ i. load (s i) p at size signed rd)
      unfolding load
      load-made at size signed rd does =
          either (at % size == 0) s _ _
          (x.walked s p at Load (λ i. loaded_from (s i) p at size signed rd (data_access (s i) p at Load)) k own (y.load at size signed rd does) refl
          (reading s (λ answer i. loaded_from (s i) p at size signed rd answer) (λ i. data_access (s i) p at Load) (r.hit s p at Load k own) (loaded-made at size signed rd does (data_access (s m.first) p at Load) refl)))
          (fault-made s k BadAlign at (y.load at size signed rd does))

      stored-made : (at size value : ℕ) → n.word at → (answer : Result Hit WalkFault) → data_access (s m.first) p at Put ≡ answer → m.makes s (λ i. stored_to (s i) p at size value answer)
      stored-made at size value word (Err f) e = z.faults s p f.code at f.handler k own word (y.handled (s m.first) p at Put f (holds s k) own e)
      stored-made at size value word (Ok hit) e =
          x.named s (page_name hit.page) _
          (x.told s (reached p Put at hit) (λ i. done (advance (written (s i) hit size value) p))
          (on-made s (λ i. written (s i) hit size value) (z.page_is s p at hit size value k own e)))

      store-made : (at size value : ℕ) → n.word at → m.makes s (λ i. store (s i) p at size value)
      unfolding store
      store-made at size value word =
          either (at % size == 0) s _ _
          (x.walked s p at Put (λ i. stored_to (s i) p at size value (data_access (s i) p at Put)) k own word refl
          (reading s (λ answer i. stored_to (s i) p at size value answer) (λ i. data_access (s i) p at Put) (r.hit s p at Put k own) (stored-made at size value word (data_access (s m.first) p at Put) refl)))
          (fault-made s k BadAlign at word)

      cap_loaded-made : (at to : ℕ) → n.word at → (answer : Result Place WalkFault) → cap_access (s m.first) p at CapLoad ≡ answer → m.makes s (λ i. cap_loaded_from (s i) p at to answer)
      cap_loaded-made at to word (Err f) e = z.faults s p f.code at f.handler k own word (y.cap_handled (s m.first) p at CapLoad f (holds s k) own e)
      cap_loaded-made at to word (Ok place) e =
          let c = cap_found (s m.first) place in
          x.told s (cap_reached p CapLoad at place) (λ i. done (advance (set_capreg (s i) p to (cap_found (s i) place)) p))
          (reading s (λ c i. done (advance (set_capreg (s i) p to c) p)) (λ i. cap_found (s i) place) (r.found s p at place k own e)
          (on-made s (λ i. set_capreg (s i) p to c) (z.capreg_is s p to c k own (y.found (s m.first) p at place (holds s k) own e))))

      load_cap-made : (at to : ℕ) → n.word at → m.makes s (λ i. load_cap (s i) p at to)
      unfolding load_cap
      load_cap-made at to word =
          either (nat_le to 31) s _ _
          (either (at % 16 == 0) s _ _
          (x.cap_walked s p at CapLoad (λ i. cap_loaded_from (s i) p at to (cap_access (s i) p at CapLoad)) k own
          (reading s (λ answer i. cap_loaded_from (s i) p at to answer) (λ i. cap_access (s i) p at CapLoad) (r.place s p at CapLoad k own) (cap_loaded-made at to word (cap_access (s m.first) p at CapLoad) refl)))
          (fault-made s k BadAlign at word))
          (malformed-made s k)

      cap_stored-made : (at from : ℕ) → n.word at → (answer : Result Place WalkFault) → cap_access (s m.first) p at CapStore ≡ answer → m.makes s (λ i. cap_stored_to (s i) p at from answer)
      cap_stored-made at from word (Err f) e = z.faults s p f.code at f.handler k own word (y.cap_handled (s m.first) p at CapStore f (holds s k) own e)
      cap_stored-made at from word (Ok place) e =
          let c = capreg_of (it s k) from in
          x.named s (cappage_name place.number) _
          (x.told s (cap_reached p CapStore at place) (λ i. done (advance (cap_stored (s i) place (capreg_of (process (s i) p) from)) p))
          (of_it s k (λ q i. done (advance (cap_stored (s i) place (capreg_of q from)) p))
          (on-made s (λ i. cap_stored (s i) place c) (z.cappage_is s p at place c k own (y.capreg (s m.first) p from (holds s k) own) e))))

      store_cap-made : (at from : ℕ) → n.word at → m.makes s (λ i. store_cap (s i) p at from)
      unfolding store_cap
      store_cap-made at from word =
          either (nat_le from 31) s _ _
          (either (at % 16 == 0) s _ _
          (x.cap_walked s p at CapStore (λ i. cap_stored_to (s i) p at from (cap_access (s i) p at CapStore)) k own
          (reading s (λ answer i. cap_stored_to (s i) p at from answer) (λ i. cap_access (s i) p at CapStore) (r.place s p at CapStore k own) (cap_stored-made at from word (cap_access (s m.first) p at CapStore) refl)))
          (fault-made s k BadAlign at word))
          (malformed-made s k)

      copy_cap-made : (from to : ℕ) → m.makes s (λ i. copy_cap (s i) p from to)
      unfolding copy_cap
      copy_cap-made from to =
          let c = capreg_of (it s k) from in
          either (nat_le from 31 && nat_le to 31) s _ _
          (of_it s k (λ q i. done (advance (set_capreg (s i) p to (capreg_of q from)) p))
          (on-made s (λ i. set_capreg (s i) p to c) (z.capreg_is s p to c k own (y.capreg (s m.first) p from (holds s k) own))))
          (malformed-made s k)

      yield-made : m.makes s (λ i. done (ticked (advance (s i) p) (Some p)))
      yield-made = onward s (λ i. advance (s i) p) (λ i. done (ticked (advance (s i) p) (Some p))) (advance-made s k) (λ l. z.ready_again (λ i. advance (s i) p) p l own)

      -- ---- operations of the kernel

      answered-made : (inv : InvocationValue) (reply : Reply) → n.reply reply → m.makes s (λ i. answered_call (s i) p inv reply)
      answered-made inv reply is =
          onward s (λ i. advance (s i) p) (λ i. answered_call (s i) p inv reply) (advance-made s k) (λ l. z.replied (λ i. advance (s i) p) p inv.accept reply l own is)

      kind-made : (inv : InvocationValue) (cap : Capability) → n.has cap → m.makes s (λ i. answered_call (s i) p inv (reply_of (settled_in (kind_table cap) (asked_number inv))))
      kind-made inv cap may = answered-made inv (reply_of (settled_in (kind_table cap) (asked_number inv))) (y.kind cap (asked_number inv) may)

    module _ (s : I → State) (k : m.kept s) (inv : InvocationValue) (asks : n.asks inv) where
      sysctl-made : (cap : Capability) → n.has cap → m.makes s (λ i. sysctl_op (s i) p inv cap)
      unfolding sysctl_op
      sysctl-made cap may =
          either (asked_number inv == 8) s _ _
          (x.told s (Halt p) (λ i. answered_call (halted (s i)) p inv (reply_of (granted nothing)))
          (onward s (λ i. halted (s i)) (λ i. answered_call (halted (s i)) p inv (reply_of (granted nothing))) (z.halts s k)
          (λ l. answered-made (λ i. halted (s i)) l inv (reply_of (granted nothing)) y.grant)))
          (kind-made s k inv cap may)

      logged-made : (f : Option StringFault) → (sent_side (s m.first) p inv).fault ≡ f → m.makes s (λ i. logged (s i) p inv (sent_side (s i) p inv).pieces f)
      logged-made (Some f) e = z.faults s p f.why.code f.address f.why.handler k own (y.sent_at (s m.first) p inv f (holds s k) own asks e) (y.sent_handled (s m.first) p inv f (holds s k) own asks e)
      logged-made None e =
          reading s (λ bytes i. recorded (Log p bytes) (answered_call (s i) p inv (reply_of (granted nothing)))) (λ i. gathered (s i).store (sent_side (s i) p inv).pieces) (r.bytes s p inv k own asks)
          (x.told s (Log p (gathered (s m.first).store (sent_side (s m.first) p inv).pieces)) (λ i. answered_call (s i) p inv (reply_of (granted nothing))) (answered-made s k inv (reply_of (granted nothing)) y.grant))

      log_string-made : m.makes s (λ i. log_string (s i) p inv)
      unfolding log_string
      log_string-made =
          x.behind s (λ i. side_outcome (s i) (sent_side (s i) p inv)) (λ i. logged (s i) p inv (sent_side (s i) p inv).pieces (sent_side (s i) p inv).fault) (z.sends s p inv k own asks)
          (reading s (λ f i. logged (s i) p inv (sent_side (s i) p inv).pieces f) (λ i. (sent_side (s i) p inv).fault) (r.faulted s p inv k own asks) (logged-made (sent_side (s m.first) p inv).fault refl))

      kernlog-made : (cap : Capability) → n.has cap → m.makes s (λ i. kernlog_op (s i) p inv cap)
      unfolding kernlog_op
      kernlog-made cap may =
          either (asked_number inv == 8) s _ _
          (either (is_no_log inv.length) s _ _ (answered-made s k inv (reply_of (refused RequestError)) (y.refusal RequestError)) log_string-made)
          (kind-made s k inv cap may)

      operation-made : (cap : Capability) → n.has cap → (memory : Bool) → is_memory cap.kind ≡ memory → m.makes s (λ i. if memory then memory_op (advance (s i) p) p inv cap else control_op (advance (s i) p) p inv cap)
      operation-made cap may true e = onward s (λ i. advance (s i) p) (λ i. memory_op (advance (s i) p) p inv cap) (advance-made s k) (λ l. z.memory (λ i. advance (s i) p) p inv cap l own asks may e)
      operation-made cap may false e = onward s (λ i. advance (s i) p) (λ i. control_op (advance (s i) p) p inv cap) (advance-made s k) (λ l. z.control (λ i. advance (s i) p) p inv cap l own asks may)

      asked-made : (cap : Capability) → n.has cap → (kind : CapKind) → cap.kind ≡ kind → m.makes s (λ i. asked_for (s i) p inv kind cap)
      asked-made cap may KernLog e = kernlog-made cap may
      asked-made cap may SysCtl e = sysctl-made cap may
      asked-made cap may kind e = operation-made cap may (is_memory kind) (ap is_memory e)

      kernel_op-made : (cap : Capability) → n.has cap → m.makes s (λ i. kernel_op (s i) p inv cap)
      unfolding kernel_op
      kernel_op-made cap may = asked-made cap may cap.kind refl

      -- ---- messages

      by_fault-made : (e q : ℕ) → n.heard (s m.first) e q → (f : Option StringFault) → (sent_side (s m.first) p inv).fault ≡ f → m.makes s (λ i. sent_by_fault (s i) p e q inv (sent_side (s i) p inv).pieces f)
      by_fault-made e q heard (Some f) is = z.faults s p f.why.code f.address f.why.handler k own (y.sent_at (s m.first) p inv f (holds s k) own asks is) (y.sent_handled (s m.first) p inv f (holds s k) own asks is)
      by_fault-made e q heard None is =
          x.behind s (λ i. side_outcome (s i) (received_side (s i) q inv.length)) (λ i. delivered (s i) p e q inv (sent_side (s i) p inv).pieces (received_side (s i) q inv.length).pieces)
          (z.receives s e q inv k heard asks) (z.delivers s p e q inv k own heard asks)

      send_open-made : (e q : ℕ) → n.heard (s m.first) e q → m.makes s (λ i. send_open (s i) p e q inv)
      unfolding send_open
      send_open-made e q heard =
          x.behind s (λ i. side_outcome (s i) (sent_side (s i) p inv)) (λ i. sent_by_fault (s i) p e q inv (sent_side (s i) p inv).pieces (sent_side (s i) p inv).fault) (z.sends s p inv k own asks)
          (reading s (λ f i. sent_by_fault (s i) p e q inv (sent_side (s i) p inv).pieces f) (λ i. (sent_side (s i) p inv).fault) (r.faulted s p inv k own asks) (by_fault-made e q heard (sent_side (s m.first) p inv).fault refl))

      -- ---- invocations

      refused-made : (code : Code) → m.makes s (λ i. answered_call (s i) p inv (reply_of (refused code)))
      refused-made code = answered-made s k inv (reply_of (refused code)) (y.refusal code)

      -- what a send phase leads to, with a receive phase behind it where there is one
      received-made : (o : I → Outcome) (b : Bool) → m.makes s o → m.makes s (λ i. if b then followed (o i) (listen (o i).state p inv) else o i)
      received-made o true sent = x.behind s o (λ i. listen (o i).state p inv) sent (z.listens (λ i. (o i).state) p inv (x.left s o sent) own asks)
      received-made o false sent = sent

      sent_to-made : (c : Capability) → n.has c → (to : Callee) → callee (s m.first).store c ≡ to → m.makes s (λ i. received_after p inv (sent_to (s i) p inv to))
      unfolding is_delivered
      sent_to-made c may (Kernel cap) e = kernel_op-made cap (y.kernel (s m.first) c cap (holds s k) may e)
      sent_to-made c may Dead e = refused-made InvalidCap
      sent_to-made c may (Busy q) e = either inv.nonblocking s _ _ (refused-made WouldBlock) (z.waits s p q k own (y.busy (s m.first) c q (holds s k) may e))
      sent_to-made c may (Open e q) is =
          let sent = send_open-made e q (y.opens (s m.first) c e q (holds s k) may is) in
          reading s (λ f i. if is_whole f && inv.receive then followed (send_open (s i) p e q inv) (listen (send_open (s i) p e q inv).state p inv) else send_open (s i) p e q inv)
          (λ i. (sent_side (s i) p inv).fault) (r.faulted s p inv k own asks) (received-made (λ i. send_open (s i) p e q inv) (is_whole (sent_side (s m.first) p inv).fault && inv.receive) sent)

      send-made : m.makes s (λ i. received_after p inv (send (s i) p inv))
      unfolding send
      send-made =
          let c = capreg_of (it s k) inv.capreg in
          let may = y.capreg (s m.first) p inv.capreg (holds s k) own in
          of_it s k (λ q i. received_after p inv (sent_to (s i) p inv (callee (s i).store (capreg_of q inv.capreg))))
          (reading s (λ to i. received_after p inv (sent_to (s i) p inv to)) (λ i. callee (s i).store c) (r.answers s c k may) (sent_to-made c may (callee (s m.first).store c) refl))

    module _ (s : I → State) (k : m.kept s) where
      invoked-made : (answer : Result InvocationValue Malformed) → parsed (it s k).regs ≡ answer → m.makes s (λ i. invoked (s i) p answer)
      invoked-made (Err why) e = malformed-made s k
      invoked-made (Ok inv) e =
          let asks = y.asked (s m.first) p inv (holds s k) own e in
          either inv.send s _ _ (send-made s k inv asks) (z.listens s p inv k own asks)

      invoke-made : m.makes s (λ i. invoke (s i) p)
      unfolding invoke
      invoke-made = of_it s k (λ q i. invoked (s i) p (parsed q.regs)) (invoked-made (parsed (it s k).regs) refl)

      -- ---- system calls

      called-made : (call : Option SystemCall) (x10 x11 : ℕ) → n.word x10 → m.makes s (λ i. called (s i) p call x10 x11)
      called-made None x10 x11 word = malformed-made s k
      called-made (Some Invoke) x10 x11 word = invoke-made
      called-made (Some LoadCap) x10 x11 word = load_cap-made s k x10 x11 word
      called-made (Some StoreCap) x10 x11 word = store_cap-made s k x10 x11 word
      called-made (Some CopyCap) x10 x11 word = copy_cap-made s k x10 x11
      called-made (Some Yield) x10 x11 word = yield-made s k

      system_call-made : m.makes s (λ i. system_call (s i) p)
      unfolding system_call
      system_call-made =
          of_it s k (λ q i. called (s i) p (call_with (reg_of q 17)) (reg_of q 10) (reg_of q 11))
          (called-made (call_with (reg_of (it s k) 17)) (reg_of (it s k) 10) (reg_of (it s k) 11) (y.register (s m.first) p 10 (holds s k) own))

      -- ---- instructions

      performed-made : (insn : Insn) (effect : Effect) → n.does effect → n.regs (registers_after (it s k).regs (it s k).pc insn) → m.makes s (λ i. performed (s i) p insn effect)
      performed-made insn (Next pc) does are =
          let registers = registers_after (it s k).regs (it s k).pc insn in
          of_it s k (λ q i. done (set_pc (set_registers (s i) p (registers_after q.regs q.pc insn)) p pc))
          (onward s (λ i. set_registers (s i) p registers) (λ i. done (set_pc (set_registers (s i) p registers) p pc)) (z.regs_are s p registers k own are)
          (λ l. z.pc_is (λ i. set_registers (s i) p registers) p pc l own (y.target pc does)))
      performed-made insn (LoadOf at size signed rd) does are = load-made s k at size signed rd does
      performed-made insn (StoreOf at size value) does are = store-made s k at size value (y.store at size value does)
      performed-made insn Syscall does are = system_call-made
      performed-made insn Break does are = here-made s k Breakpoint None (y.unhandled (s m.first) p)
      performed-made insn (Misaligned target) does are = fault-made s k BadAlign target (y.misaligned target does)

      perform-made : (word : ℕ) (insn : Insn) → insn_at word ≡ Some insn → m.makes s (λ i. perform (s i) p insn)
      unfolding perform
      perform-made word insn is =
          of_it s k (λ q i. performed (s i) p insn (effect_of q.regs q.pc insn))
          (performed-made insn (effect_of (it s k).regs (it s k).pc insn) (y.effect (s m.first) p word insn (holds s k) own is) (y.computed (s m.first) p word insn (holds s k) own is))

      decoded-made : (word : ℕ) (found : Option Insn) → insn_at word ≡ found → m.makes s (λ i. decoded_to (s i) p found)
      decoded-made word None is = here-made s k BadOpcode None (y.unhandled (s m.first) p)
      decoded-made word (Some insn) is =
          of_it s k (λ q i. recorded (InsnRead p q.pc insn) (perform (s i) p insn))
          (x.told s (InsnRead p (it s k).pc insn) (λ i. perform (s i) p insn) (perform-made word insn is))

      fetched-made : (answer : Result Hit WalkFault) → data_access (s m.first) p (it s k).pc Fetch ≡ answer → m.makes s (λ i. fetched_from (s i) p answer)
      fetched-made (Err f) e = here-made s k f.code f.handler (y.handled (s m.first) p (it s k).pc Fetch f (holds s k) own e)
      fetched-made (Ok hit) e =
          let word = number_at (s m.first) hit 4 in
          of_it s k (λ q i. recorded (reached p Fetch q.pc hit) (decoded_to (s i) p (insn_at (number_at (s i) hit 4))))
          (x.told s (reached p Fetch (it s k).pc hit) (λ i. decoded_to (s i) p (insn_at (number_at (s i) hit 4)))
          (reading s (λ word i. decoded_to (s i) p (insn_at word)) (λ i. number_at (s i) hit 4) (r.number s p (it s k).pc Fetch hit 4 k own refl e) (decoded-made word (insn_at word) refl)))

      -- every instruction
      instruction-made : m.makes s (λ i. instruction (s i) p)
      unfolding instruction
      instruction-made =
          let pc = (it s k).pc in
          x.named s (process_name p) (λ i. touched (data_touch (s i) p (pc_of (s i) p) Fetch) (fetched_from (s i) p (data_access (s i) p (pc_of (s i) p) Fetch)))
          (of_it s k (λ q i. touched (data_touch (s i) p q.pc Fetch) (fetched_from (s i) p (data_access (s i) p q.pc Fetch)))
          (x.walked s p pc Fetch (λ i. fetched_from (s i) p (data_access (s i) p pc Fetch)) k own (y.pc (s m.first) p (holds s k) own) refl
          (reading s (λ answer i. fetched_from (s i) p answer) (λ i. data_access (s i) p pc Fetch) (r.hit s p pc Fetch k own) (fetched-made (data_access (s m.first) p pc Fetch) refl))))

-- the induction of any law
pub of_instructions : OfInstructions
of_instructions I n m y r x z p own s k = instruction-made I n m y r x z p own s k

-- ---- laws of one state

-- what is read is the same in the one state
alone-reads : (n : Notions) (made : State → Outcome → Type 0) → Reads (Unit {0}) n (alone n made)
alone-reads n made = record {
  itself = λ s p k own i. refl;
  hit = λ s p at kind k own i. refl;
  number = λ s p at kind hit size k own is e i. refl;
  place = λ s p at kind k own i. refl;
  found = λ s p at place k own e i. refl;
  answers = λ s c k may i. refl;
  faulted = λ s p inv k own asks i. refl;
  bytes = λ s p inv k own asks i. refl;
}

-- where nothing is wanted of what is read, it comes from anywhere
pub wants_nothing-origins : Origins wants_nothing
wants_nothing-origins = record {
  register = λ s p i h own. tt;
  capreg = λ s p i h own. tt;
  pc = λ s p h own. tt;
  next = λ pc. tt;
  effect = λ s p word insn h own e. tt;
  computed = λ s p word insn h own e. tt;
  target = λ pc does. tt;
  load = λ at size signed rd does. tt;
  store = λ at size value does. tt;
  misaligned = λ target does. tt;
  loads = λ s p at size signed rd hit h own does e. tt;
  found = λ s p at place h own e. tt;
  unhandled = λ s p. tt;
  handled = λ s p at kind f h own e. tt;
  cap_handled = λ s p at kind f h own e. tt;
  asked = λ s p inv h own e. tt;
  kernel = λ s c cap h may e. tt;
  busy = λ s c q h may e. tt;
  opens = λ s c e q h may is. tt;
  sent_at = λ s p inv f h own asks e. tt;
  sent_handled = λ s p inv f h own asks e. tt;
  refusal = λ code. tt;
  grant = tt;
  kind = λ cap number may. tt;
}

module _ (n : Notions) (made : State → Outcome → Type 0) (y : Origins n) (x : Parts (Unit {0}) n (alone n made)) (z : Cases (Unit {0}) n (alone n made)) where
  -- every instruction of one state
  pub instruction-alone : (s : State) (p : ℕ) → n.holds s → n.by p → made s (instruction s p)
  instruction-alone s p h own = instruction-made (Unit {0}) n (alone n made) y (alone-reads n made) x z p own (λ i. s) h

  -- where anybody may perform an event, and a hart may take a process
  module _ (anybody : (p : ℕ) → n.by p) (taken : (s : State) (hart : ℕ) → n.holds s → made s (done (dispatch s hart))) where
    stepped-made : (s : State) → n.holds s → (on : Option ℕ) → made s (stepped s on)
    stepped-made s h None = x.idle (λ i. s) h
    stepped-made s h (Some p) = instruction-alone s p h (anybody p)

    tick-made : (s : State) → n.holds s → (on : Option ℕ) → made s (tick_of s on)
    tick-made s h None = x.idle (λ i. s) h
    tick-made s h (Some p) = x.named (λ i. s) (process_name p) (λ i. done (ticked s (Some p))) (z.ready_again (λ i. s) p h (anybody p))

    event_by-made : (s : State) → n.holds s → (e : Event) → made s (event_by s e)
    unfolding event_by
    event_by-made s h (Step hart) =
        let t = dispatch s hart in
        let first = taken s hart h in
        x.behind (λ i. s) (λ i. done t) (λ i. stepped t (hart_of t.queues hart)) first (stepped-made t (x.left (λ i. s) (λ i. done t) first) (hart_of t.queues hart))
    event_by-made s h (Tick hart) = tick-made s h (hart_of s.queues hart)

    -- every event
    event-made : (s : State) → n.holds s → (e : Event) → made s (event_of s e)
    event-made s h e = cond_both s.halted _ _ (made s) (λ halted. x.idle (λ i. s) h) (λ runs. event_by-made s h e)

    -- every run
    run-made : (s : State) → n.holds s → (es : List Event) → made s (run_of s es)
    unfolding run_of
    run-made s h [] = x.idle (λ i. s) h
    run-made s h (e ∷ es) =
        let first = event-made s h e in
        let t = (event_of s e).state in
        x.behind (λ i. s) (λ i. event_of s e) (λ i. run_of t es) first (run-made t (x.left (λ i. s) (λ i. event_of s e) first) es)

-- the induction of a law of one state
pub of_runs : OfRuns
of_runs n made y x z anybody taken s h es = run-made n made y x z anybody taken s h es
