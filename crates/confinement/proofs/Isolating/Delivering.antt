-- Messages, waits and faults of this side do the same to two systems that match on it.
use Rattle.std.proofs.Common.{◌≡◌, ℕ, Option, refl, sym, ◌∙◌, ap, ap₂, subst, subst₂}
use Rattle.cap_format.specs.declared.fault.FaultCode.{FaultCode}
use Rattle.cap_format.specs.declared.kind.CapKind.TheVariants.{Endpoint, Process}
use Rattle.cap_format.specs.Capability.{Capability, to_object}
use Rattle.process_objects.specs.declared.state.State.{State}
use Rattle.process_objects.specs.declared.state.State.TheVariants.{Receiving, Faulted}
use Rattle.process_objects.specs.Accept.{AcceptValue}
use Rattle.process_objects.specs.Process.{ProcessValue, with_state}
use Rattle.endpoint_objects.specs.declared.endpoint.Endpoint.{Endpoint as EndpointValue}
use Rattle.object_store.specs.Store.{process_at, endpoint_at, with_process}
use Rattle.schedules.specs.Queues.{left}
use Rattle.schedules.specs.Ready.{schedule_in}
use Rattle.invocation.specs.declared.message.Message.{Message}
use Rattle.invocation.specs.Answerer.{Answer, answerer}
use Rattle.invocation.specs.Answerer.Answer.{Dead, Open, Busy}
use Rattle.invocation.specs.Delivery.{passed, passed_at, received, delivered}
use Rattle.operations.specs.System.{System, Meant, system, with_store}
use Rattle.fault_path.specs.message_path.Messages.{told_system, waiting, receiving, listening}
use Rattle.fault_path.specs.Fault.{handler_of, fault_message, faulted, answered, heard_by, fault_of}
use Rattle.confinement.specs.declared.cut_side.CutSide.{CutSide}
use Rattle.confinement.specs.Cut.{Cut, side_of, MayHold}
use Rattle.confinement.specs.Acts.{MayHoldIf}
use Rattle.confinement.proofs.Own.{AllMayHold, AnswersOwn, own-hears, own-await}
use Rattle.confinement.proofs.Held.{may-own}
use Rattle.confinement.proofs.Acting.{held-process}
use Rattle.confinement.proofs.Answering.{answerer-own}
use Rattle.confinement.proofs.Delivering.{held-state, held-received, may-handler}
use Rattle.confinement.proofs.Giving.{passed-recipient}
use Rattle.confinement.proofs.Isolating.Agreeing.{same-endpoint, same-process}
use Rattle.confinement.proofs.Isolating.Answering.{same-answerer, same-handler_of}
use Rattle.confinement.proofs.Isolating.Matching.{Match, match-process, match-endpoint, match-left, match-asleep, match-readied, match-woken, same-schedule}

module _ (cut : Cut) (side : CutSide) where
  -- ---- messages

  match-passed : (w v : System) → Match cut side w v → (e : ℕ) → side_of cut Endpoint e ≡ side
      → Match cut side (with_store w (passed_at w.store e)) (with_store v (passed_at v.store e))
  match-passed w v m e own =
      match-endpoint cut side w v m e (passed (endpoint_at w.store e)) (passed (endpoint_at v.store e))
      (ap passed (same-endpoint cut side w v m.agree e own)) own
      (subst (λ (c : Capability). MayHold cut side c) (sym (passed-recipient (endpoint_at w.store e))) (m.holds.each.recipients e own))

  match-delivered : (w v : System) → Match cut side w v → (e q : ℕ) (message : Message) → side_of cut Endpoint e ≡ side → side_of cut Process q ≡ side
      → AllMayHold cut side message.caps
      → Match cut side (with_store w (delivered w.store e q message)) (with_store v (delivered v.store e q message))
  unfolding delivered
  match-delivered w v m e q message endpoint process all =
      let x = received (process_at w.store q) (endpoint_at w.store e).id message in
      let y = received (process_at v.store q) (endpoint_at v.store e).id message in
      let value = ap₂ (λ (p : ProcessValue) (n : EndpointValue). received p n.id message) (same-process cut side w v m.agree q process) (same-endpoint cut side w v m.agree e endpoint) in
      match-process cut side (with_store w (passed_at w.store e)) (with_store v (passed_at v.store e))
      (match-passed w v m e endpoint) q x y value process
      (held-received cut side (process_at w.store q) (endpoint_at w.store e).id message all (held-process cut side w q process m.holds))

  -- a message through an endpoint to a process
  pub match-told : (w v : System) → Match cut side w v → (e q : ℕ) (message : Message) → side_of cut Endpoint e ≡ side → side_of cut Process q ≡ side
      → AllMayHold cut side message.caps
      → Match cut side (told_system Meant w e q message) (told_system Meant v e q message)
  unfolding told_system
  match-told w v m e q message endpoint process all =
      let x = with_store w (delivered w.store e q message) in
      let y = with_store v (delivered v.store e q message) in
      let next = match-delivered w v m e q message endpoint process all in
      match-readied cut side x y next (schedule_in x.store q) (schedule_in y.store q) (same-schedule cut side x y next q process) q process

  -- a process sleeps on another
  pub match-waiting : (w v : System) → Match cut side w v → (p q : ℕ) → side_of cut Process p ≡ side → side_of cut Process q ≡ side
      → Match cut side (waiting w p q) (waiting v p q)
  unfolding waiting
  match-waiting w v m p q own on =
      match-asleep cut side (system w.store (left w.queues p)) (system v.store (left v.queues p)) (match-left cut side w v m p own) p q own on

  -- a process gets another state and leaves its place
  match-state_left : (w v : System) → Match cut side w v → (p : ℕ) (state : State) → side_of cut Process p ≡ side
      → Match cut side (system (with_process w.store p (with_state (process_at w.store p) state)) (left w.queues p)) (system (with_process v.store p (with_state (process_at v.store p) state)) (left v.queues p))
  match-state_left w v m p state own =
      let x = with_state (process_at w.store p) state in
      let y = with_state (process_at v.store p) state in
      match-left cut side (with_store w (with_process w.store p x)) (with_store v (with_process v.store p y))
      (match-process cut side w v m p x y (ap (λ (q : ProcessValue). with_state q state) (same-process cut side w v m.agree p own)) own
      (held-state cut side (process_at w.store p) state (held-process cut side w p own m.holds))) p own

  -- a process receives, and all that slept on it are woken
  pub match-listening : (w v : System) → Match cut side w v → (p : ℕ) (accept : AcceptValue) → side_of cut Process p ≡ side
      → Match cut side (listening Meant w p accept) (listening Meant v p accept)
  unfolding listening
  match-listening w v m p accept own =
      let x = receiving w p accept in
      let y = receiving v p accept in
      let next = match-state_left w v m p (Receiving accept) own in
      match-woken cut side x y next (schedule_in x.store) (schedule_in y.store) (same-schedule cut side x y next) p own

  -- ---- faults

  match-faulted : (w v : System) → Match cut side w v → (p : ℕ) (code : FaultCode) (address : ℕ) → side_of cut Process p ≡ side
      → Match cut side (faulted w p code address) (faulted v p code address)
  unfolding faulted
  match-faulted w v m p code address own = match-state_left w v m p (Faulted code address) own

  match-answered : (w v : System) → Match cut side w v → (p : ℕ) (code : FaultCode) (address payload : ℕ) (answer : Answer) → side_of cut Process p ≡ side
      → AnswersOwn cut side w.store answer
      → Match cut side (answered Meant w p code address payload answer) (answered Meant v p code address payload answer)
  unfolding answered
  match-answered w v m p code address payload Dead own answers = match-faulted w v m p code address own
  match-answered w v m p code address payload (Busy q) own answers = match-waiting w v m p q own (own-await cut m.closed side q answers)
  match-answered w v m p code address payload (Open e q) own answers =
      let both = own-hears cut m.closed side w.store e q answers in
      let cap = to_object Process p 0 in
      subst (λ (process : ProcessValue). Match cut side (answered Meant w p code address payload (Open e q)) (told_system Meant (faulted v p code address) e q (fault_message cap process code address payload)))
      (same-process cut side w v m.agree p own)
      (match-told (faulted w p code address) (faulted v p code address) (match-faulted w v m p code address own) e q (fault_message cap (process_at w.store p) code address payload)
      both.0 both.1 (may-own cut side cap refl own, tt))

  -- who hears a fault is the same
  pub same-heard : (w v : System) → Match cut side w v → (p : ℕ) (handler : Option Capability) → side_of cut Process p ≡ side → MayHoldIf cut side handler
      → heard_by w.store p handler ≡ heard_by v.store p handler
  same-heard w v m p handler own may =
      same-answerer cut side w v m.closed m.holds.each m.agree (handler_of w.store p handler) (may-handler cut side w.store p handler m.holds.each own may)
      ∙ ap (λ (c : Capability). answerer v.store c) (same-handler_of cut side w v m.closed m.holds.each m.agree p handler own may)

  -- a fault of a process, with a handler that this side may hold
  pub match-fault : (w v : System) → Match cut side w v → (p : ℕ) (code : FaultCode) (address : ℕ) (handler : Option Capability) → side_of cut Process p ≡ side
      → MayHoldIf cut side handler
      → Match cut side (fault_of Meant w w.store p code address handler) (fault_of Meant v v.store p code address handler)
  match-fault w v m p code address handler own may =
      subst₂ (λ (c : Capability) (answer : Answer). Match cut side (fault_of Meant w w.store p code address handler) (answered Meant v p code address c.payload answer))
      (same-handler_of cut side w v m.closed m.holds.each m.agree p handler own may) (same-heard w v m p handler own may)
      (match-answered w v m p code address (handler_of w.store p handler).payload (heard_by w.store p handler) own
      (answerer-own cut side w.store m.holds.each m.holds.beyond (handler_of w.store p handler) (may-handler cut side w.store p handler m.holds.each own may)))
