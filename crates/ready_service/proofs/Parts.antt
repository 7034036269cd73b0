-- What another process does in an event: nobody comes before a ready process in its queue, or it is stopped.
use Rattle.std.proofs.Common.{◌≡◌, ◌≢◌, ℕ, ◌⊎◌, inl, inr, Bool, true, false, Option, Some, None, List, length, refl, ap, ◌∙◌}
use Rattle.std.proofs.lemmas.Bool.{cond_both}
use Rattle.std.proofs.lemmas.List.{length-map}
use Rattle.cap_format.specs.declared.fault.FaultCode.{FaultCode}
use Rattle.cap_format.specs.declared.kind.CapKind.TheVariants.{Process}
use Rattle.cap_format.specs.Capability.{Capability, to_object}
use Rattle.process_objects.specs.Accept.{AcceptValue}
use Rattle.object_store.specs.Store.{process_at}
use Rattle.schedules.specs.Queues.{QueuesValue, left, asleep, hart_without}
use Rattle.schedules.specs.Ready.{runs_of, readied, woken}
use Rattle.operations.specs.System.{Meant, system, schedule_by, count_in}
use Rattle.invocation.specs.declared.message.Message.{Message}
use Rattle.invocation.specs.Invocation.{InvocationValue}
use Rattle.invocation.specs.Answerer.{Answer}
use Rattle.invocation.specs.Answerer.Answer.{Dead as NobodyAnswers, Open as Answers, Busy as IsBusy}
use Rattle.invocation.specs.Delivery.{delivered as delivered_to}
use Rattle.string_move.specs.declared.piece.Piece.{Piece}
use Rattle.string_move.specs.Move.{size_of_pieces}
use Rattle.fault_path.specs.message_path.Messages.{told_system, waiting, receiving, listening}
use Rattle.fault_path.specs.Fault.{answered as fault_answered, fault_message, faulted, handler_of, heard_by}
use Rattle.machine_state.specs.State.{State, schedule_slot}
use Rattle.machine_state.specs.Setters.{set_system, advance, ticked}
use Rattle.machine_state.specs.Faulting.{fault_state}
use Rattle.machine_state.specs.Messaging.{told_state, waiting_state, listening_state}
use Rattle.messages.specs.declared.string_fault.StringFault.{StringFault}
use Rattle.messages.specs.Fault.{fault}
use Rattle.messages.specs.Message.{sent_side, received_side, bytes_moved, message_of, sent_off, delivered, sent_by_fault, send_open}
use Rattle.messages.specs.Waiting.{listening_from, listen}
use Rattle.ready_service.proofs.Positions.{KeepsPlace, keeps-alike, keeps-then, keeps-left, keeps-readied, keeps-woken, harts-readied_queues, harts-readied_all, SameHarts}
use Rattle.ready_service.proofs.Rows.{IsStopped}

module _ (p priority : ℕ) where
  -- nobody comes before it in a state behind another, and there are as many harts
  pub record Waits (s t : State) : Type 0 where
    pub harts : SameHarts s.queues t.queues
    pub place : KeepsPlace p priority s.queues t.queues

  -- so it is, or it was stopped
  pub record Spared (s t : State) : Type 0 where
    pub harts : SameHarts s.queues t.queues
    pub place : KeepsPlace p priority s.queues t.queues ⊎ IsStopped p t.store.contents.processes

  pub waits-then : (s t u : State) → Waits s t → Waits t u → Waits s u
  waits-then s t u one more = record {
    harts = more.harts ∙ one.harts;
    place = keeps-then p priority s.queues t.queues u.queues one.place more.place;
  }

  -- states with the same queues
  pub waits-alike : (s t : State) → t.queues ≡ s.queues → Waits s t
  waits-alike s t same = record {
    harts = ap (λ (q : QueuesValue). length q.harts) same;
    place = keeps-alike p priority s.queues t.queues (ap (λ (q : QueuesValue). q.ready) same);
  }

  pub spared : (s t : State) → Waits s t → Spared s t
  spared s t waits = record { harts = waits.harts; place = inl waits.place }

  pub spared-then : (s t u : State) → Waits s t → Spared t u → Spared s u
  spared-then s t u one more = record {
    harts = more.harts ∙ one.harts;
    place = elim more.place [
      | inl keeps ↦ inl (keeps-then p priority s.queues t.queues u.queues one.place keeps)
      | inr stopped ↦ inr stopped
    ];
  }

  -- ---- messages

  -- any process is told, and is made ready
  told-waits : (s : State) (e r : ℕ) (message : Message) → Waits s (told_state s e r message)
  unfolding told_state told_system delivered_to
  told-waits s e r message =
      let t = delivered_to s.store e r message in
      let c = schedule_by Meant t r in
      record {
        harts = ap length (harts-readied_queues c.kind c.object r s.queues);
        place = keeps-readied p priority c r (runs_of t s.queues);
      }

  module _ (q : ℕ) (other : q ≢ p) where
    -- it leaves its place, and waits for one that is busy
    pub waiting-waits : (s : State) (r : ℕ) → Waits s (waiting_state s q r)
    unfolding waiting_state waiting
    waiting-waits s r = record {
      harts = length-map s.queues.harts (hart_without q);
      place = keeps-then p priority s.queues (left s.queues q) (asleep (left s.queues q) q r) (keeps-left p priority s.queues q other) (keeps-alike p priority (left s.queues q) (asleep (left s.queues q) q r) refl);
    }

    -- it is made ready again
    pub tick-waits : (s : State) → Waits s (ticked s (Some q))
    tick-waits s =
        let c = schedule_slot s q in
        let r = runs_of s.store (left s.queues q) in
        record {
          harts = ap length (harts-readied_queues c.kind c.object q (left s.queues q)) ∙ length-map s.queues.harts (hart_without q);
          place = keeps-then p priority s.queues (left s.queues q) (readied c q r).queues (keeps-left p priority s.queues q other) (keeps-readied p priority c q r);
        }

    -- it faults, and whoever hears it is made ready
    answered-waits : (s : State) (code : FaultCode) (address payload : ℕ) (answer : Answer) → Waits s (set_system s (fault_answered Meant (system s.store s.queues) q code address payload answer))
    unfolding fault_answered faulted waiting told_system
    answered-waits s code address payload NobodyAnswers = record { harts = length-map s.queues.harts (hart_without q); place = keeps-left p priority s.queues q other }
    answered-waits s code address payload (IsBusy r) = record {
      harts = length-map s.queues.harts (hart_without q);
      place = keeps-then p priority s.queues (left s.queues q) (asleep (left s.queues q) q r) (keeps-left p priority s.queues q other) (keeps-alike p priority (left s.queues q) (asleep (left s.queues q) q r) refl);
    }
    answered-waits s code address payload (Answers e r) =
        let f = faulted (system s.store s.queues) q code address in
        let told = fault_message (to_object Process q (count_in Meant s.store.items Process q)) (process_at s.store q) code address payload in
        let t = delivered_to f.store e r told in
        let c = schedule_by Meant t r in
        let runs = runs_of t f.queues in
        record {
          harts = ap length (harts-readied_queues c.kind c.object r f.queues) ∙ length-map s.queues.harts (hart_without q);
          place = keeps-then p priority s.queues f.queues (readied c r runs).queues (keeps-left p priority s.queues q other) (keeps-readied p priority c r runs);
        }

    pub fault-waits : (s : State) (code : FaultCode) (address : ℕ) (handler : Option Capability) → Waits s (fault s q code address handler).state
    unfolding fault fault_state
    fault-waits s code address handler = answered-waits s code address (handler_of s.store q handler).payload (heard_by s.store q handler)

    -- it listens, and those who slept on it are made ready
    listening-waits : (s : State) (accept : AcceptValue) → Waits s (listening_state s q accept)
    unfolding listening_state listening
    listening-waits s accept =
        let v = receiving (system s.store s.queues) q accept in
        let c = schedule_by Meant v.store in
        let r = runs_of v.store v.queues in
        record {
          harts = ap length (harts-readied_all c _ _) ∙ length-map s.queues.harts (hart_without q);
          place = keeps-then p priority s.queues v.queues (woken c q r).queues (keeps-left p priority s.queues q other) (keeps-woken p priority c q r);
        }

    pub listen-waits : (s : State) (inv : InvocationValue) → Waits s (listen s q inv).state
    unfolding listen
    listen-waits s inv =
        let t = listening_from s q inv in
        let begins : Waits s t = cond_both inv.send _ _ (Waits s) (λ e. waits-alike s s refl) (λ e. waits-alike s (advance s q) refl) in
        waits-then s t (listening_state t q inv.accept) begins (listening-waits t inv.accept)

    -- the sender goes on behind its message
    sent_off-waits : (s : State) (receives : Bool) → Waits s (sent_off s q receives)
    sent_off-waits s true = waits-alike s (sent_off s q true) refl
    sent_off-waits s false = waits-alike s (sent_off s q false) refl

    -- a message with its string
    delivered-waits : (s : State) (e r : ℕ) (inv : InvocationValue) (from to : List Piece) → Waits s (delivered s q e r inv from to).state
    delivered-waits s e r inv from to =
        let moved = (bytes_moved s from to).state in
        let message = message_of moved q inv (size_of_pieces to) in
        let t = told_state moved e r message in
        waits-then s moved (delivered s q e r inv from to).state (waits-alike s moved refl)
        (waits-then moved t (sent_off t q inv.receive) (told-waits moved e r message) (sent_off-waits t inv.receive))

    sent-waits : (s : State) (e r : ℕ) (inv : InvocationValue) (from : List Piece) (f : Option StringFault) → Waits s (sent_by_fault s q e r inv from f).state
    sent-waits s e r inv from None = delivered-waits s e r inv from (received_side s r inv.length).pieces
    sent-waits s e r inv from (Some f) = fault-waits s f.why.code f.address f.why.handler

    pub open-waits : (s : State) (e r : ℕ) (inv : InvocationValue) → Waits s (send_open s q e r inv).state
    unfolding send_open
    open-waits s e r inv = let from = sent_side s q inv in sent-waits s e r inv from.pieces from.fault
