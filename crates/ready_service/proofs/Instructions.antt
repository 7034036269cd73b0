-- Instructions of another process, case by case: nobody comes before a ready process in its queue, or it is stopped.
use Rattle.std.proofs.Common.{◌≢◌, ℕ, ◌==◌, ◌%◌, ◌&&◌, nat_le, inl, inr, Bool, true, false, if◌then◌else◌, Option, Some, None, Result, Ok, Err, List, refl, sym, ap, ◌∙◌}
use Rattle.std.proofs.lemmas.Bool.{cond_both}
use Rattle.std.proofs.lemmas.List.{get_or-set_other}
use Rattle.cap_format.specs.declared.fault.FaultCode.TheVariants.{BadAlign, BadOpcode, Breakpoint, MalformedSyscall}
use Rattle.cap_format.specs.declared.kind.CapKind.{CapKind}
use Rattle.cap_format.specs.declared.kind.CapKind.TheVariants.{KernLog, SysCtl}
use Rattle.cap_format.specs.Kind.{is_memory}
use Rattle.cap_format.specs.Capability.{Capability}
use Rattle.process_objects.specs.Process.{ProcessValue, capreg_of, empty_process}
use Rattle.operations.specs.System.{Meant, system}
use Rattle.operations.specs.Memory.{memory_operation}
use Rattle.operations.specs.Control.{control_operation}
use Rattle.rv32_decode.specs.declared.insn.Insn.{Insn}
use Rattle.rv32_decode.specs.Table.{insn_at}
use Rattle.rv32_user.specs.declared.effect.Effect.{Effect}
use Rattle.rv32_user.specs.declared.effect.Effect.TheVariants.{Next, Load as LoadOf, Store as StoreOf, Syscall, Break, Misaligned}
use Rattle.rv32_user.specs.Step.{effect_of}
use Rattle.walk_meaning.specs.declared.kind.Kind.TheVariants.{Fetch, Load, Store as Put, CapLoad, CapStore}
use Rattle.walk_meaning.specs.declared.place.Place.{Place}
use Rattle.walk_meaning.specs.declared.place.WalkFault.{WalkFault}
use Rattle.walk_engine.specs.declared.hit.Hit.{Hit}
use Rattle.invocation.specs.declared.callee.Callee.{Callee}
use Rattle.invocation.specs.declared.callee.Callee.TheVariants.{Kernel, Open, Busy, Dead}
use Rattle.invocation.specs.declared.malformed.MalformedSyscall.{MalformedSyscall as Malformed}
use Rattle.invocation.specs.Invocation.{InvocationValue, parsed}
use Rattle.invocation.specs.Target.{callee}
use Rattle.string_move.specs.declared.piece.Piece.{Piece}
use Rattle.machine_state.specs.State.{State, process, pc_of, register_of}
use Rattle.machine_state.specs.Setters.{set_process, advance}
use Rattle.machine_state.specs.DataAccess.{data_access, number_at}
use Rattle.machine_state.specs.CapAccess.{cap_access}
use Rattle.machine_state.specs.Operation.{request_of, changed_by}
use Rattle.machine_state.specs.Outcome.{Outcome}
use Rattle.messages.specs.declared.string_fault.StringFault.{StringFault}
use Rattle.messages.specs.Fault.{malformed}
use Rattle.messages.specs.Message.{send_open}
use Rattle.messages.specs.Waiting.{wait_on, listen}
use Rattle.kernel_core.specs.declared.system_calls.SystemCall.{SystemCall}
use Rattle.kernel_core.specs.declared.system_calls.SystemCall.TheVariants.{Invoke, LoadCap, StoreCap, CopyCap, Yield}
use Rattle.kernel_core.specs.LoadStore.{loaded_from, load, stored_to, store}
use Rattle.kernel_core.specs.CapTransfer.{cap_loaded_from, load_cap, cap_stored_to, store_cap}
use Rattle.kernel_core.specs.KernelOperation.{memory_op, destroyed_by, is_end_of, control_op, asked_number, sysctl_op, is_no_log, logged, logged_side, log_string, kernlog_op, asked_for, kernel_op}
use Rattle.kernel_core.specs.SystemCall.{call_with, copy_cap, busy_call, sent_to, send, received_after, invoked, invoke, called, system_call}
use Rattle.kernel_core.specs.Instruction.{performed, perform}
use Rattle.kernel_core.specs.Event.{decoded_to, fetched_from, instruction}
use Rattle.ready_service.proofs.Parts.{Waits, Spared, waits-then, waits-alike, spared, spared-then, tick-waits, waiting-waits, fault-waits, listen-waits, open-waits}
use Rattle.ready_service.proofs.Rows.{IsStopped, memory-leaves, control-spares, harts-applied, keeps-applied}

module _ (p priority q : ℕ) (other : q ≢ p) where
  -- ---- loads, stores and capabilities

  loaded-waits : (s : State) (at size : ℕ) (signed : Bool) (rd : ℕ) (answer : Result Hit WalkFault) → Waits p priority s (loaded_from s q at size signed rd answer).state
  loaded-waits s at size signed rd (Ok hit) = waits-alike p priority s _ refl
  loaded-waits s at size signed rd (Err f) = fault-waits p priority q other s f.code at f.handler

  load-waits : (s : State) (at size : ℕ) (signed : Bool) (rd : ℕ) → Waits p priority s (load s q at size signed rd).state
  unfolding load
  load-waits s at size signed rd = cond_both (at % size == 0) _ _ (λ (o : Outcome). Waits p priority s o.state) (λ e. loaded-waits s at size signed rd (data_access s q at Load)) (λ e. fault-waits p priority q other s BadAlign at None)

  stored-waits : (s : State) (at size value : ℕ) (answer : Result Hit WalkFault) → Waits p priority s (stored_to s q at size value answer).state
  stored-waits s at size value (Ok hit) = waits-alike p priority s _ refl
  stored-waits s at size value (Err f) = fault-waits p priority q other s f.code at f.handler

  store-waits : (s : State) (at size value : ℕ) → Waits p priority s (store s q at size value).state
  unfolding store
  store-waits s at size value = cond_both (at % size == 0) _ _ (λ (o : Outcome). Waits p priority s o.state) (λ e. stored-waits s at size value (data_access s q at Put)) (λ e. fault-waits p priority q other s BadAlign at None)

  malformed-waits : (s : State) → Waits p priority s (malformed s q).state
  malformed-waits s = fault-waits p priority q other s MalformedSyscall (pc_of s q) None

  cap_loaded-waits : (s : State) (at to : ℕ) (answer : Result Place WalkFault) → Waits p priority s (cap_loaded_from s q at to answer).state
  cap_loaded-waits s at to (Ok place) = waits-alike p priority s _ refl
  cap_loaded-waits s at to (Err f) = fault-waits p priority q other s f.code at f.handler

  load_cap-waits : (s : State) (at to : ℕ) → Waits p priority s (load_cap s q at to).state
  unfolding load_cap
  load_cap-waits s at to =
      cond_both (nat_le to 31) _ _ (λ (o : Outcome). Waits p priority s o.state)
      (λ e. cond_both (at % 16 == 0) _ _ (λ (o : Outcome). Waits p priority s o.state) (λ e. cap_loaded-waits s at to (cap_access s q at CapLoad)) (λ e. fault-waits p priority q other s BadAlign at None))
      (λ e. malformed-waits s)

  cap_stored-waits : (s : State) (at from : ℕ) (answer : Result Place WalkFault) → Waits p priority s (cap_stored_to s q at from answer).state
  cap_stored-waits s at from (Ok place) = waits-alike p priority s _ refl
  cap_stored-waits s at from (Err f) = fault-waits p priority q other s f.code at f.handler

  store_cap-waits : (s : State) (at from : ℕ) → Waits p priority s (store_cap s q at from).state
  unfolding store_cap
  store_cap-waits s at from =
      cond_both (nat_le from 31) _ _ (λ (o : Outcome). Waits p priority s o.state)
      (λ e. cond_both (at % 16 == 0) _ _ (λ (o : Outcome). Waits p priority s o.state) (λ e. cap_stored-waits s at from (cap_access s q at CapStore)) (λ e. fault-waits p priority q other s BadAlign at None))
      (λ e. malformed-waits s)

  copy_cap-waits : (s : State) (from to : ℕ) → Waits p priority s (copy_cap s q from to).state
  unfolding copy_cap
  copy_cap-waits s from to = cond_both (nat_le from 31 && nat_le to 31) _ _ (λ (o : Outcome). Waits p priority s o.state) (λ e. waits-alike p priority s _ refl) (λ e. malformed-waits s)

  -- ---- operations of the kernel

  logged-waits : (s : State) (inv : InvocationValue) (pieces : List Piece) (f : Option StringFault) → Waits p priority s (logged s q inv pieces f).state
  logged-waits s inv pieces None = waits-alike p priority s _ refl
  logged-waits s inv pieces (Some f) = fault-waits p priority q other s f.why.code f.address f.why.handler

  log_string-waits : (s : State) (inv : InvocationValue) → Waits p priority s (log_string s q inv).state
  unfolding log_string
  log_string-waits s inv = let string = logged_side s q inv in logged-waits s inv string.pieces string.fault

  kernlog-waits : (s : State) (inv : InvocationValue) (cap : Capability) → Waits p priority s (kernlog_op s q inv cap).state
  unfolding kernlog_op
  kernlog-waits s inv cap =
      cond_both (asked_number inv == 8) _ _ (λ (o : Outcome). Waits p priority s o.state)
      (λ e. cond_both (is_no_log inv.length) _ _ (λ (o : Outcome). Waits p priority s o.state) (λ e. waits-alike p priority s _ refl) (λ e. log_string-waits s inv))
      (λ e. waits-alike p priority s _ refl)

  sysctl-waits : (s : State) (inv : InvocationValue) (cap : Capability) → Waits p priority s (sysctl_op s q inv cap).state
  unfolding sysctl_op
  sysctl-waits s inv cap = cond_both (asked_number inv == 8) _ _ (λ (o : Outcome). Waits p priority s o.state) (λ e. waits-alike p priority s _ refl) (λ e. waits-alike p priority s _ refl)

  memory-waits : (s : State) (inv : InvocationValue) (cap : Capability) → Waits p priority s (memory_op s q inv cap).state
  memory-waits s inv cap =
      let w = system s.store s.queues in
      let request = request_of (process s q) inv in
      let changes = (memory_operation s.store cap request).answer.changes in
      record {
        harts = harts-applied p priority w changes;
        place = keeps-applied p priority w changes (memory-leaves p priority w cap request);
      }

  -- a reply to it leaves another stopped
  still-stopped : (s : State) (value : ProcessValue) → IsStopped p s.store.contents.processes → IsStopped p (set_process s q value).store.contents.processes
  still-stopped s value is = ap (λ (v : ProcessValue). v.state) (get_or-set_other s.store.contents.processes q p value empty_process (λ same. other (sym same))) ∙ is

  control-spared : (s : State) (inv : InvocationValue) (cap : Capability) → Spared p priority s (control_op s q inv cap).state
  control-spared s inv cap =
      let w = system s.store s.queues in
      let request = request_of (process s q) inv in
      let settled = control_operation Meant s.store cap request in
      let changes = settled.answer.changes in
      let t = changed_by s changes in
      let first : Spared p priority s t = record {
        harts = harts-applied p priority w changes;
        place = elim (control-spares p priority w cap request) [
          | inl leave ↦ inl (keeps-applied p priority w changes leave)
          | inr stopped ↦ inr stopped
        ];
      } in
      cond_both (is_end_of q (destroyed_by changes)) _ _ (Spared p priority s) (λ e. first) (λ e. record {
        harts = first.harts;
        place = elim first.place [
          | inl keeps ↦ inl keeps
          | inr stopped ↦ inr (still-stopped t _ stopped)
        ];
      })

  others-spared : (s : State) (inv : InvocationValue) (memory : Bool) (c : Capability) → Spared p priority s (if memory then memory_op s q inv c else control_op s q inv c).state
  others-spared s inv true c = spared p priority s _ (memory-waits s inv c)
  others-spared s inv false c = control-spared s inv c

  asked-spared : (s : State) (inv : InvocationValue) (kind : CapKind) (c : Capability) → Spared p priority s (asked_for s q inv kind c).state
  asked-spared s inv KernLog c = spared p priority s _ (kernlog-waits s inv c)
  asked-spared s inv SysCtl c = spared p priority s _ (sysctl-waits s inv c)
  asked-spared s inv kind c = spared-then p priority s (advance s q) _ (waits-alike p priority s (advance s q) refl) (others-spared (advance s q) inv (is_memory kind) c)

  kernel-spared : (s : State) (inv : InvocationValue) (cap : Capability) → Spared p priority s (kernel_op s q inv cap).state
  unfolding kernel_op
  kernel-spared s inv cap = asked-spared s inv cap.kind cap

  -- ---- invocations

  busy-waits : (s : State) (inv : InvocationValue) (r : ℕ) → Waits p priority s (busy_call s q inv r).state
  unfolding wait_on
  busy-waits s inv r = cond_both inv.nonblocking _ _ (λ (o : Outcome). Waits p priority s o.state) (λ e. waits-alike p priority s _ refl) (λ e. waiting-waits p priority q other s r)

  -- a send phase, and the receive phase that follows where a message is delivered
  received-waits : (s : State) (inv : InvocationValue) (o : Outcome) (delivers : Bool) → Waits p priority s o.state → Waits p priority s (received_after q inv (record { outcome = o; delivers = delivers })).state
  received-waits s inv o delivers waits =
      cond_both (delivers && inv.receive) _ _ (λ (u : Outcome). Waits p priority s u.state)
      (λ e. waits-then p priority s o.state (listen o.state q inv).state waits (listen-waits p priority q other o.state inv))
      (λ e. waits)

  sent-spared : (s : State) (inv : InvocationValue) (callee : Callee) → Spared p priority s (received_after q inv (sent_to s q inv callee)).state
  sent-spared s inv (Kernel cap) = kernel-spared s inv cap
  sent-spared s inv Dead = spared p priority s _ (waits-alike p priority s _ refl)
  sent-spared s inv (Busy r) = spared p priority s _ (busy-waits s inv r)
  sent-spared s inv (Open e r) = spared p priority s _ (received-waits s inv (send_open s q e r inv) _ (open-waits p priority q other s e r inv))

  invoke-spared : (s : State) → Spared p priority s (invoke s q).state
  unfolding invoke send
  invoke-spared s = by (parsed (process s q).regs)
    where
      by : (answer : Result InvocationValue Malformed) → Spared p priority s (invoked s q answer).state
      by (Err malformed_is) = spared p priority s _ (malformed-waits s)
      by (Ok inv) =
          cond_both inv.send _ _ (λ (o : Outcome). Spared p priority s o.state) (λ e. sent-spared s inv (callee s.store (capreg_of (process s q) inv.capreg)))
          (λ e. spared p priority s _ (listen-waits p priority q other s inv))

  -- ---- instructions

  called-spared : (s : State) (call : Option SystemCall) (x10 x11 : ℕ) → Spared p priority s (called s q call x10 x11).state
  called-spared s None x10 x11 = spared p priority s _ (malformed-waits s)
  called-spared s (Some Invoke) x10 x11 = invoke-spared s
  called-spared s (Some LoadCap) x10 x11 = spared p priority s _ (load_cap-waits s x10 x11)
  called-spared s (Some StoreCap) x10 x11 = spared p priority s _ (store_cap-waits s x10 x11)
  called-spared s (Some CopyCap) x10 x11 = spared p priority s _ (copy_cap-waits s x10 x11)
  called-spared s (Some Yield) x10 x11 = spared p priority s _ (waits-then p priority s (advance s q) _ (waits-alike p priority s (advance s q) refl) (tick-waits p priority q other (advance s q)))

  system_call-spared : (s : State) → Spared p priority s (system_call s q).state
  unfolding system_call
  system_call-spared s = called-spared s (call_with (register_of s q 17)) (register_of s q 10) (register_of s q 11)

  performed-spared : (s : State) (insn : Insn) (effect : Effect) → Spared p priority s (performed s q insn effect).state
  performed-spared s insn (Next pc) = spared p priority s _ (waits-alike p priority s _ refl)
  performed-spared s insn (LoadOf at size signed rd) = spared p priority s _ (load-waits s at size signed rd)
  performed-spared s insn (StoreOf at size value) = spared p priority s _ (store-waits s at size value)
  performed-spared s insn Syscall = system_call-spared s
  performed-spared s insn Break = spared p priority s _ (fault-waits p priority q other s Breakpoint (pc_of s q) None)
  performed-spared s insn (Misaligned target) = spared p priority s _ (fault-waits p priority q other s BadAlign target None)

  decoded-spared : (s : State) (insn : Option Insn) → Spared p priority s (decoded_to s q insn).state
  unfolding perform
  decoded-spared s None = spared p priority s _ (fault-waits p priority q other s BadOpcode (pc_of s q) None)
  decoded-spared s (Some insn) = performed-spared s insn (effect_of (process s q).regs (pc_of s q) insn)

  fetched-spared : (s : State) (answer : Result Hit WalkFault) → Spared p priority s (fetched_from s q answer).state
  fetched-spared s (Ok hit) = decoded-spared s (insn_at (number_at s hit 4))
  fetched-spared s (Err f) = spared p priority s _ (fault-waits p priority q other s f.code (pc_of s q) f.handler)

  -- of every instruction of another process
  pub instruction-spared : (s : State) → Spared p priority s (instruction s q).state
  unfolding instruction
  instruction-spared s = fetched-spared s (data_access s q (pc_of s q) Fetch)
