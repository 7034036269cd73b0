-- Messages, waits and faults of the right do the same to two systems side by side.
use Rattle.std.proofs.Common.{◌≡◌, ℕ, Option, refl, ap, ap₂, subst, subst₂}
use Rattle.cap_format.specs.declared.fault.FaultCode.{FaultCode}
use Rattle.cap_format.specs.declared.kind.CapKind.TheVariants.{Endpoint, Process}
use Rattle.cap_format.specs.Capability.{Capability, to_object}
use Rattle.process_objects.specs.declared.state.State.{State}
use Rattle.process_objects.specs.declared.state.State.TheVariants.{Receiving, Faulted}
use Rattle.process_objects.specs.Accept.{AcceptValue}
use Rattle.process_objects.specs.Process.{ProcessValue, with_state}
use Rattle.endpoint_objects.specs.declared.endpoint.Endpoint.{Endpoint as EndpointValue}
use Rattle.object_store.specs.Store.{process_at, endpoint_at, with_process}
use Rattle.schedules.specs.Queues.{left}
use Rattle.schedules.specs.Ready.{schedule_in}
use Rattle.invocation.specs.declared.message.Message.{Message}
use Rattle.invocation.specs.Answerer.{Answer}
use Rattle.invocation.specs.Answerer.Answer.{Dead, Open, Busy}
use Rattle.invocation.specs.Delivery.{passed, passed_at, received, delivered}
use Rattle.operations.specs.System.{System, Meant, system, with_store}
use Rattle.fault_path.specs.message_path.Messages.{told_system, waiting, receiving, listening}
use Rattle.fault_path.specs.Fault.{handler_of, fault_message, faulted, answered, heard_by, fault_of}
use Rattle.confinement.specs.declared.cut_side.CutSide.TheVariants.{Right}
use Rattle.confinement.specs.Cut.{Cut, side_of}
use Rattle.confinement.specs.Acts.{MayHoldIf}
use Rattle.confinement.proofs.Own.{AllMayHold}
use Rattle.confinement.proofs.Held.{may-own}
use Rattle.confinement.proofs.Delivering.{held-state, held-received}
use Rattle.independence.proofs.Overlay.{Overlay}
use Rattle.independence.proofs.Beside.{Beside, same-process, same-endpoint, held-process, beside-process, beside-endpoint, beside-left, beside-asleep, beside-readied, beside-woken, same-schedule}
use Rattle.independence.proofs.Answering.{Run, AnswersRight, answerer-right, run-now, same-handler_of, same-heard, handler-right}

module _ (cut : Cut) (f : Overlay cut) (start : System) where
  abbrev Two : System → System → Type 0
  Two w v = Beside cut f start w v

  -- ---- messages

  beside-passed : (w v : System) → Two w v → (e : ℕ) → side_of cut Endpoint e ≡ Right
      → Two (with_store w (passed_at w.store e)) (with_store v (passed_at v.store e))
  beside-passed w v b e right =
      beside-endpoint cut f start w v b e (passed (endpoint_at w.store e)) (passed (endpoint_at v.store e)) (ap passed (same-endpoint cut f start w v b e)) right

  beside-delivered : (w v : System) → Two w v → (e q : ℕ) (message : Message) → side_of cut Endpoint e ≡ Right → side_of cut Process q ≡ Right
      → AllMayHold cut Right message.caps
      → Two (with_store w (delivered w.store e q message)) (with_store v (delivered v.store e q message))
  unfolding delivered
  beside-delivered w v b e q message endpoint process all =
      let x = received (process_at w.store q) (endpoint_at w.store e).id message in
      let y = received (process_at v.store q) (endpoint_at v.store e).id message in
      let value = ap₂ (λ (p : ProcessValue) (n : EndpointValue). received p n.id message) (same-process cut f start w v b q process) (same-endpoint cut f start w v b e) in
      beside-process cut f start (with_store w (passed_at w.store e)) (with_store v (passed_at v.store e)) (beside-passed w v b e endpoint) q x y value process
      (held-received cut Right (process_at w.store q) (endpoint_at w.store e).id message all (held-process cut f start w v b q process))

  -- a message through an endpoint to a process
  pub beside-told : (w v : System) → Two w v → (e q : ℕ) (message : Message) → side_of cut Endpoint e ≡ Right → side_of cut Process q ≡ Right
      → AllMayHold cut Right message.caps
      → Two (told_system Meant w e q message) (told_system Meant v e q message)
  unfolding told_system
  beside-told w v b e q message endpoint process all =
      let x = with_store w (delivered w.store e q message) in
      let y = with_store v (delivered v.store e q message) in
      let next = beside-delivered w v b e q message endpoint process all in
      beside-readied cut f start x y next (schedule_in x.store q) (schedule_in y.store q) (same-schedule cut f start x y next q process) q process

  -- a process sleeps on another, whosever that is
  pub beside-waiting : (w v : System) → Two w v → (p q : ℕ) → side_of cut Process p ≡ Right → Two (waiting w p q) (waiting v p q)
  unfolding waiting
  beside-waiting w v b p q right =
      beside-asleep cut f start (system w.store (left w.queues p)) (system v.store (left v.queues p)) (beside-left cut f start w v b p right) p q right

  -- a process gets another state and leaves its place
  beside-state_left : (w v : System) → Two w v → (p : ℕ) (state : State) → side_of cut Process p ≡ Right
      → Two (system (with_process w.store p (with_state (process_at w.store p) state)) (left w.queues p)) (system (with_process v.store p (with_state (process_at v.store p) state)) (left v.queues p))
  beside-state_left w v b p state right =
      let x = with_state (process_at w.store p) state in
      let y = with_state (process_at v.store p) state in
      beside-left cut f start (with_store w (with_process w.store p x)) (with_store v (with_process v.store p y))
      (beside-process cut f start w v b p x y (ap (λ (q : ProcessValue). with_state q state) (same-process cut f start w v b p right)) right
      (held-state cut Right (process_at w.store p) state (held-process cut f start w v b p right))) p right

  -- a process receives, and all that slept on it are woken
  pub beside-listening : (w v : System) → Two w v → (p : ℕ) (accept : AcceptValue) → side_of cut Process p ≡ Right
      → Two (listening Meant w p accept) (listening Meant v p accept)
  unfolding listening
  beside-listening w v b p accept right =
      let x = receiving w p accept in
      let y = receiving v p accept in
      let next = beside-state_left w v b p (Receiving accept) right in
      beside-woken cut f start x y next (schedule_in x.store) (schedule_in y.store) (same-schedule cut f start x y next) p

  -- ---- faults

  beside-faulted : (w v : System) → Two w v → (p : ℕ) (code : FaultCode) (address : ℕ) → side_of cut Process p ≡ Right
      → Two (faulted w p code address) (faulted v p code address)
  unfolding faulted
  beside-faulted w v b p code address right = beside-state_left w v b p (Faulted code address) right

  beside-answered : (w v : System) → Two w v → (p : ℕ) (code : FaultCode) (address payload : ℕ) (answer : Answer) → side_of cut Process p ≡ Right
      → AnswersRight cut answer
      → Two (answered Meant w p code address payload answer) (answered Meant v p code address payload answer)
  unfolding answered
  beside-answered w v b p code address payload Dead right answers = beside-faulted w v b p code address right
  beside-answered w v b p code address payload (Busy q) right answers = beside-waiting w v b p q right
  beside-answered w v b p code address payload (Open e q) right answers =
      let cap = to_object Process p 0 in
      subst (λ (process : ProcessValue). Two (answered Meant w p code address payload (Open e q)) (told_system Meant (faulted v p code address) e q (fault_message cap process code address payload)))
      (same-process cut f start w v b p right)
      (beside-told (faulted w p code address) (faulted v p code address) (beside-faulted w v b p code address right) e q (fault_message cap (process_at w.store p) code address payload)
      answers.0 answers.1 (may-own cut Right cap refl right, tt))

  -- a fault of a process, with a handler that the right may hold
  pub beside-fault : Run cut start.store → (w v : System) → Two w v → (p : ℕ) (code : FaultCode) (address : ℕ) (handler : Option Capability) → side_of cut Process p ≡ Right
      → MayHoldIf cut Right handler
      → Two (fault_of Meant w w.store p code address handler) (fault_of Meant v v.store p code address handler)
  beside-fault run w v b p code address handler right may =
      subst₂ (λ (c : Capability) (answer : Answer). Two (fault_of Meant w w.store p code address handler) (answered Meant v p code address c.payload answer))
      (same-handler_of cut f start w v b run p handler right) (same-heard cut f start w v b run p handler right)
      (beside-answered w v b p code address (handler_of w.store p handler).payload (heard_by w.store p handler) right
      (answerer-right cut (let apart = b.apart in apart.closed) w.store (run-now cut f start w v b run) (handler_of w.store p handler) (handler-right cut f start w v b run p handler right may)))
