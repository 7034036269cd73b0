-- What a plain process makes of objects and queues writes nothing that may not be passed on: one law for each write.
use Rattle.std.proofs.Common.{◌≡◌, ℕ, ◌⊎◌, inl, inr, true, List, [], ◌∷◌, get_or, take, drop, refl, sym, ◌∙◌, ap}
use Rattle.cap_format.specs.declared.fault.FaultCode.{FaultCode}
use Rattle.cap_format.specs.Capability.{Capability, null}
use Rattle.page_store.specs.Page.{with_bytes}
use Rattle.page_store.specs.CapPage.{cap_at, with_cap, empty_cappage}
use Rattle.process_objects.specs.declared.state.State.{State as RunState}
use Rattle.process_objects.specs.declared.state.State.TheVariants.{Receiving, Faulted}
use Rattle.process_objects.specs.Accept.{AcceptValue}
use Rattle.process_objects.specs.Process.{ProcessValue, capreg_of, slot_of, empty_process, with_state}
use Rattle.endpoint_objects.specs.declared.endpoint.Endpoint.{Endpoint as EndpointValue}
use Rattle.endpoint_objects.specs.Endpoint.{empty_endpoint}
use Rattle.object_store.specs.Store.{Store, page_at, cappage_at, process_at, endpoint_at, with_page, with_cappage, with_process, with_endpoint}
use Rattle.schedules.specs.Queues.{sleepers_of}
use Rattle.schedules.specs.Ready.{readied, readied_process, readied_all, unslept, woken, runs_of}
use Rattle.invocation.specs.declared.message.Message.{Message}
use Rattle.invocation.specs.Delivery.{passed, passed_at, received, delivered}
use Rattle.string_move.specs.declared.piece.Piece.{Piece}
use Rattle.string_move.specs.Move.{with_piece, gathered, scattered, copied, size_of_pieces}
use Rattle.operations.specs.System.{System, Reading, system, with_store, with_runs, schedule_by}
use Rattle.fault_path.specs.message_path.Messages.{told_system, waiting, receiving, listening}
use Rattle.confinement.specs.Passing.{Passing, may_pass, PassesAtMost}
use Rattle.confinement.proofs.Sleeping.{each_set}
use Rattle.confinement.proofs.Giving.{AllAre, RegistersGain, passed-recipient, gain-then, received-rest, gains-received}

module _ (passing : Passing) where
  -- a capability that may be passed on
  abbrev pub Passes : Capability → Type 0
  Passes c = may_pass passing c ≡ true

  -- ---- one thing after another

  pub writes-same : (s : Store) → PassesAtMost passing s s
  writes-same s = record {
    capregs = λ p i. inl refl;
    cappages = λ n i. inl refl;
    process_slots = λ p i. refl;
    slots = λ g i. refl;
    recipients = λ e. refl;
  }

  pub writes-then : (s t u : Store) → PassesAtMost passing s t → PassesAtMost passing t u → PassesAtMost passing s u
  writes-then s t u first second = record {
    capregs = λ p i. gain-then Passes (capreg_of (process_at s p) i) (capreg_of (process_at t p) i) (capreg_of (process_at u p) i)
        (first.capregs p i) (second.capregs p i);
    cappages = λ n i. gain-then Passes (cap_at (cappage_at s n) i) (cap_at (cappage_at t n) i) (cap_at (cappage_at u n) i)
        (first.cappages n i) (second.cappages n i);
    process_slots = λ p i. first.process_slots p i ∙ second.process_slots p i;
    slots = λ g i. first.slots g i ∙ second.slots g i;
    recipients = λ e. first.recipients e ∙ second.recipients e;
  }

  -- ---- one object

  -- a process, of which capability registers gain what may be passed on
  pub writes-process : (s : Store) (p : ℕ) (v : ProcessValue) → RegistersGain Passes (process_at s p) v
      → (process_at s p).slots ≡ v.slots → PassesAtMost passing s (with_process s p v)
  writes-process s p v gains slots = record {
    capregs = λ n i. each_set (λ n (x : ProcessValue). (capreg_of (process_at s n) i ≡ capreg_of x i) ⊎ Passes (capreg_of x i))
        s.contents.processes p v empty_process (gains i) (λ n. inl refl) n;
    cappages = λ n i. inl refl;
    process_slots = λ n i. each_set (λ n (x : ProcessValue). slot_of (process_at s n) i ≡ slot_of x i)
        s.contents.processes p v empty_process (ap (λ (cs : List Capability). get_or cs i null) slots) (λ n. refl) n;
    slots = λ g i. refl;
    recipients = λ e. refl;
  }

  -- one whose capabilities are the same
  pub writes-nothing : (s : Store) (p : ℕ) (v : ProcessValue) → (process_at s p).capregs ≡ v.capregs
      → (process_at s p).slots ≡ v.slots → PassesAtMost passing s (with_process s p v)
  writes-nothing s p v capregs slots =
      writes-process s p v (λ i. inl (ap (λ (cs : List Capability). get_or cs i null) capregs)) slots

  -- a page
  pub writes-page : (s : Store) (n : ℕ) (page : List ℕ) → PassesAtMost passing s (with_page s n page)
  writes-page s n page = record {
    capregs = λ p i. inl refl;
    cappages = λ n i. inl refl;
    process_slots = λ p i. refl;
    slots = λ g i. refl;
    recipients = λ e. refl;
  }

  -- a place of a capability page
  pub writes-cap : (s : Store) (n i : ℕ) (c : Capability) → Passes c
      → PassesAtMost passing s (with_cappage s n (with_cap (cappage_at s n) i c))
  writes-cap s n i c is = record {
    capregs = λ p j. inl refl;
    cappages = λ m j. each_set (λ m (page : List Capability). (cap_at (cappage_at s m) j ≡ cap_at page j) ⊎ Passes (cap_at page j))
        s.contents.cappages n (with_cap (cappage_at s n) i c) empty_cappage
        (each_set (λ j (x : Capability). (cap_at (cappage_at s n) j ≡ x) ⊎ Passes x) (cappage_at s n) i c null (inr is) (λ j. inl refl) j)
        (λ m. inl refl) m;
    process_slots = λ p j. refl;
    slots = λ g j. refl;
    recipients = λ e. refl;
  }

  -- an endpoint whose recipient is the same
  writes-endpoint : (s : Store) (e : ℕ) (v : EndpointValue) → (endpoint_at s e).recipient ≡ v.recipient
      → PassesAtMost passing s (with_endpoint s e v)
  writes-endpoint s e v recipient = record {
    capregs = λ p i. inl refl;
    cappages = λ n i. inl refl;
    process_slots = λ p i. refl;
    slots = λ g i. refl;
    recipients = λ f. each_set (λ f (x : EndpointValue). (endpoint_at s f).recipient ≡ x.recipient)
        s.contents.endpoints e v empty_endpoint recipient (λ f. refl) f;
  }

  -- ---- made ready

  pub writes-readied : (w : System) (schedule : Capability) (p : ℕ)
      → PassesAtMost passing w.store (with_runs w (readied schedule p (runs_of w.store w.queues))).store
  writes-readied w schedule p =
      writes-nothing w.store p (readied_process schedule.kind (process_at w.store p)) refl refl

  writes-readied_all : (w : System) (f : ℕ → Capability) (ps : List ℕ)
      → PassesAtMost passing w.store (with_runs w (readied_all f ps (runs_of w.store w.queues))).store
  unfolding readied_all
  writes-readied_all w f [] = writes-same w.store
  writes-readied_all w f (p ∷ ps) =
      let v = with_runs w (readied (f p) p (runs_of w.store w.queues)) in
      writes-then w.store v.store (with_runs v (readied_all f ps (runs_of v.store v.queues))).store
      (writes-readied w (f p) p) (writes-readied_all v f ps)

  pub writes-woken : (w : System) (f : ℕ → Capability) (on : ℕ)
      → PassesAtMost passing w.store (with_runs w (woken f on (runs_of w.store w.queues))).store
  writes-woken w f on = writes-readied_all (system w.store (unslept w.queues on)) f (sleepers_of w.queues on)

  -- ---- messages

  -- a message of which each capability may be passed on
  pub writes-told : (reading : Reading) (w : System) (e q : ℕ) (message : Message) → AllAre Passes message.caps
      → PassesAtMost passing w.store (told_system reading w e q message).store
  unfolding told_system delivered
  writes-told reading w e q message all =
      let x = process_at w.store q in
      let id = (endpoint_at w.store e).id in
      let passed-on = passed_at w.store e in
      let value = received x id message in
      let given = with_process passed-on q value in
      let rest = received-rest x id message in
      let v = with_store w given in
      writes-then w.store given (with_runs v (readied (schedule_by reading given q) q (runs_of given w.queues))).store
      (writes-then w.store passed-on given
      (writes-endpoint w.store e (passed (endpoint_at w.store e)) (sym (passed-recipient (endpoint_at w.store e))))
      (writes-process passed-on q value (gains-received Passes x id message all) rest.slots))
      (writes-readied v (schedule_by reading given q) q)

  -- a process leaves its place with another state
  writes-state : (s : Store) (p : ℕ) (state : RunState) → PassesAtMost passing s (with_process s p (with_state (process_at s p) state))
  writes-state s p state = writes-nothing s p (with_state (process_at s p) state) refl refl

  pub writes-faulted : (s : Store) (p : ℕ) (code : FaultCode) (address : ℕ)
      → PassesAtMost passing s (with_process s p (with_state (process_at s p) (Faulted code address)))
  writes-faulted s p code address = writes-state s p (Faulted code address)

  pub writes-waiting : (w : System) (p q : ℕ) → PassesAtMost passing w.store (waiting w p q).store
  unfolding waiting
  writes-waiting w p q = writes-same w.store

  pub writes-listening : (reading : Reading) (w : System) (p : ℕ) (accept : AcceptValue)
      → PassesAtMost passing w.store (listening reading w p accept).store
  unfolding listening
  writes-listening reading w p accept =
      let v = receiving w p accept in
      writes-then w.store v.store (with_runs v (woken (schedule_by reading v.store) p (runs_of v.store v.queues))).store
      (writes-state w.store p (Receiving accept)) (writes-woken v (schedule_by reading v.store) p)

  -- ---- strings

  writes-scattered : (s : Store) (pieces : List Piece) (bytes : List ℕ) → PassesAtMost passing s (scattered s pieces bytes)
  unfolding scattered
  writes-scattered s [] bytes = writes-same s
  writes-scattered s (piece ∷ pieces) bytes =
      let t = with_piece s piece (take piece.len bytes) in
      writes-then s t (scattered t pieces (drop piece.len bytes))
      (writes-page s piece.page (with_bytes (page_at s piece.page) piece.at (take piece.len bytes)))
      (writes-scattered t pieces (drop piece.len bytes))

  pub writes-copied : (s : Store) (from to : List Piece) → PassesAtMost passing s (copied s from to)
  unfolding copied
  writes-copied s from to = writes-scattered s to (take (size_of_pieces to) (gathered s from))
