-- What becomes of messages, of faults and of those who listen, in their ranges.
use Rattle.std.proofs.Common.{◌≡◌, ℕ, zero, suc, ◌+◌, ◌<◌, ◌≤◌, ◌^◌, inl, inr, Bool, true, false, List, [], ◌∷◌, All, length, Option, Some, None, IfSome, Result, Ok, Err, refl, sym, ap, ◌∙◌, subst, arith}
use Rattle.std.proofs.lemmas.Bool.{cond_both, cases_lt}
use Rattle.std.proofs.lemmas.List.{length-set, get_or_past}
use Rattle.std.proofs.lemmas.List.Elements.{All-cons, All-nil, All-head, All-tail}
use Rattle.cap_format.specs.declared.kind.CapKind.{CapKind}
use Rattle.cap_format.specs.declared.kind.CapKind.TheVariants.{Page, CapPage, Gpt, Endpoint, Process}
use Rattle.cap_format.specs.declared.fault.FaultCode.{FaultCode}
use Rattle.cap_format.specs.declared.fault.FaultCode.TheVariants.{Stopped, InvalidDataReference, InvalidCapReference, DataAccessTypeError, CapAccessTypeError, AccessViolation, MalformedSpace, NoSchedule, MalformedSyscall, BadAlign, BadOpcode, Breakpoint}
use Rattle.cap_format.specs.Codes.{fault_number}
use Rattle.cap_format.specs.Kind.{is_object, object_limit}
use Rattle.cap_format.specs.Capability.{Capability, null, to_object}
use Rattle.cap_format.proofs.Ranges.{IsGuard-none, limits}
use Rattle.process_objects.specs.Accept.{AcceptValue}
use Rattle.process_objects.specs.Process.{ProcessValue, slot_of, empty_process, empty_slots, with_capreg, with_state}
use Rattle.process_objects.specs.declared.state.State.TheVariants.{Receiving, Faulted}
use Rattle.endpoint_objects.specs.declared.endpoint.Endpoint.{Endpoint as EndpointValue}
use Rattle.object_store.specs.Store.{Items, Store, slot_at, process_at, endpoint_at}
use Rattle.schedules.specs.Queues.{QueuesValue, sleepers_of}
use Rattle.schedules.specs.Ready.{Runs, runs_of, process_in, readied_process, readied, woken, unslept, with_processes}
use Rattle.invocation.specs.declared.message.Message.{Message}
use Rattle.invocation.specs.Answerer.{Answer, answerer}
use Rattle.invocation.specs.Answerer.Answer.{Dead, Open, Busy}
use Rattle.invocation.specs.Delivery.{passed, passed_at, accepted, accepting, number_given, status_of, told_process, given, received, delivered}
use Rattle.operations.specs.System.{System, Meant, system, schedule_by}
use Rattle.fault_path.specs.message_path.Messages.{told_system, waiting, receiving, listening}
use Rattle.fault_path.specs.Fault.{is_answer, handler_of, heard_by, fault_message, faulted, answered}
use Rattle.walk_meaning.specs.declared.at.At.{At}
use Rattle.walk_meaning.specs.declared.kind.Kind.{Kind}
use Rattle.walk_meaning.specs.declared.place.Place.{Place}
use Rattle.walk_meaning.specs.declared.place.WalkFault.{WalkFault}
use Rattle.walk_meaning.specs.declared.step.Step.{Step}
use Rattle.walk_meaning.specs.declared.step.Step.TheVariants.{Reach, Fault, Go}
use Rattle.walk_meaning.specs.Walk.{handler_of as walk_handler, step, walk, access, start_at}
use Rattle.walk_meaning.specs.After.{walk_after}
use Rattle.walk_meaning.proofs.Walked.{walk-zero, walk-suc}
use Rattle.walk_engine.specs.declared.hit.Hit.{Hit}
use Rattle.walk_engine.specs.Answer.{hit_of}
use Rattle.machine_state.specs.State.{State, space_of}
use Rattle.machine_state.specs.Faulting.{fault_state}
use Rattle.machine_state.specs.Messaging.{told_state, waiting_state, listening_state}
use Rattle.machine_state.specs.DataAccess.{data_access}
use Rattle.machine_state.specs.CapAccess.{cap_access}
use Rattle.run_ranges.specs.Ranges.{IsModelCap, IsWord, IsRangedProcess, IsRangedEndpoint, AreInRanges}
use Rattle.run_ranges.proofs.Words.{word_at}
use Rattle.run_ranges.proofs.Objects.{process-in, endpoint-in, slot-in, process_slot-in, with_reg-in, with_capreg-in, with_state-in, with_processes-in, with_process-in, with_endpoint-in, readied-in, readied_all-in, length-readied_all}

-- ---- processes that are made ready

pub readied_at-in : (s : Store) → AreInRanges s → (schedule : Capability) (p : ℕ) (q : QueuesValue) → AreInRanges (with_processes s (readied schedule p (runs_of s q)).processes)
readied_at-in s r schedule p q =
    with_processes-in s r (readied schedule p (runs_of s q)).processes (readied-in schedule p (runs_of s q) r.processes)
    (let same = length-set s.contents.processes p (readied_process schedule.kind (process_in (runs_of s q) p)) in let few = r.few in omega (arith, same, few))

pub woken-in : (s : Store) → AreInRanges s → (schedule : ℕ → Capability) (on : ℕ) (q : QueuesValue) → AreInRanges (with_processes s (woken schedule on (runs_of s q)).processes)
woken-in s r schedule on q =
    let start : Runs = record { processes = s.contents.processes; queues = unslept q on } in
    with_processes-in s r (woken schedule on (runs_of s q)).processes (readied_all-in schedule (sleepers_of q on) start r.processes)
    (let same = length-readied_all schedule (sleepers_of q on) start in let few = r.few in omega (arith, same, few))

-- ---- messages

-- a message of words and of at most four capabilities of the model
pub record IsRangedMessage (message : Message) : Type 0 where
  pub words : All IsWord message.words
  pub payload : IsWord message.payload
  pub bytes : IsWord message.length
  pub caps : All IsModelCap message.caps
  pub few : length message.caps ≤ 4

status-small : (cut : Bool) (number : ℕ) → number ≤ 4 → IsWord (status_of cut number)
status-small true number few = omega arith
status-small false number few = omega arith

told_process-in : (q : ProcessValue) → IsRangedProcess q → (id number : ℕ) (message : Message) → IsWord id → number ≤ 4 → IsRangedMessage message → IsRangedProcess (told_process q id number message)
unfolding told_process
told_process-in q r id number message word few m =
    let at = λ (i : ℕ). word_at message.words i m.words in
    let status = with_reg-in q r 10 _ (status-small message.cut number few) in
    let first = with_reg-in _ status 11 _ (at 0) in
    let second = with_reg-in _ first 12 _ (at 1) in
    let third = with_reg-in _ second 13 _ (at 2) in
    let fourth = with_reg-in _ third 14 _ (at 3) in
    let payload = with_reg-in _ fourth 15 _ m.payload in
    let bytes = with_reg-in _ payload 16 _ m.bytes in
    with_reg-in _ bytes 22 _ word

given-in : (q : ProcessValue) → IsRangedProcess q → (registers : List ℕ) (caps : List Capability) → All IsModelCap caps → IsRangedProcess (given q registers caps)
unfolding given
given-in q r [] caps all = r
given-in q r (i ∷ is) [] all = r
given-in q r (i ∷ is) (cap ∷ caps) all = given-in (with_capreg q i cap) (with_capreg-in q r i cap (All-head IsModelCap cap caps all)) is caps (All-tail IsModelCap cap caps all)

received-in : (q : ProcessValue) → IsRangedProcess q → (id : ℕ) (message : Message) → IsWord id → IsRangedMessage message → IsRangedProcess (received q id message)
unfolding received
received-in q r id message word m =
    let accept = accepted q.state in
    let few : number_given accept message.caps ≤ 4 = let most = m.few in omega (arith, most) in
    given-in (told_process q id (number_given accept message.caps) message) (told_process-in q r id (number_given accept message.caps) message word few m) (accepting accept) message.caps m.caps

passed-in : (e : EndpointValue) → IsRangedEndpoint e → IsRangedEndpoint (passed e)
passed-in e r = cond_both e.matching _ _ IsRangedEndpoint (λ h. record { id = r.id; payload = omega arith; recipient = r.recipient }) (λ h. r)

delivered-in : (s : Store) → AreInRanges s → (e q : ℕ) (message : Message) → IsRangedMessage message → AreInRanges (delivered s e q message)
unfolding delivered
delivered-in s r e q message m =
    with_process-in (passed_at s e) (with_endpoint-in s r e (passed (endpoint_at s e)) (passed-in (endpoint_at s e) (endpoint-in s r e))) q
    (received (process_at s q) (endpoint_at s e).id message) (received-in (process_at s q) (process-in s r q) (endpoint_at s e).id message (endpoint-in s r e).id m)

told-in : (w : System) → AreInRanges w.store → (e q : ℕ) (message : Message) → IsRangedMessage message → AreInRanges (told_system Meant w e q message).store
unfolding told_system
told-in w r e q message m =
    let s = delivered w.store e q message in
    readied_at-in s (delivered-in w.store r e q message m) (schedule_by Meant s q) q w.queues

pub told_state-in : (s : State) → AreInRanges s.store → (e q : ℕ) (message : Message) → IsRangedMessage message → AreInRanges (told_state s e q message).store
unfolding told_state
told_state-in s r e q message m = told-in (system s.store s.queues) r e q message m

pub waiting_state-in : (s : State) → AreInRanges s.store → (p q : ℕ) → AreInRanges (waiting_state s p q).store
unfolding waiting_state waiting
waiting_state-in s r p q = r

pub listening_state-in : (s : State) → AreInRanges s.store → (p : ℕ) (accept : AcceptValue) → accept.at + accept.bound ≤ 2 ^ 32 → AreInRanges (listening_state s p accept).store
unfolding listening_state listening
listening_state-in s r p accept ends =
    let v = receiving (system s.store s.queues) p accept in
    woken-in v.store (with_process-in s.store r p (with_state (process_at s.store p) (Receiving accept)) (with_state-in (process_at s.store p) (process-in s.store r p) (Receiving accept) ends))
    (schedule_by Meant v.store) p v.queues

-- ---- what a walk's fault names

-- a handler, if there is one, is a capability of the model; a process that is not there has none
abbrev pub IsHandler : State → ℕ → Option Capability → Type 0
IsHandler s p handler = IfSome handler IsModelCap × (length s.store.contents.processes ≤ p → handler ≡ None)

-- the same of an answer
abbrev pub IsPlaceAnswer : State → ℕ → Result Place WalkFault → Type 0
IsPlaceAnswer s p (Ok place) = Unit {0}
IsPlaceAnswer s p (Err f) = IsHandler s p f.handler

abbrev pub IsHitAnswer : State → ℕ → Result Hit WalkFault → Type 0
IsHitAnswer s p (Ok hit) = Unit {0}
IsHitAnswer s p (Err f) = IsHandler s p f.handler

abbrev HasHandler : Result Place WalkFault → Type 0
HasHandler (Ok place) = Unit {0}
HasHandler (Err f) = IfSome f.handler IsModelCap

abbrev HasNone : Result Place WalkFault → Type 0
HasNone (Ok place) = Unit {0}
HasNone (Err f) = f.handler ≡ None

module _ (o : Items) (slots : (g i : ℕ) → IsModelCap (slot_at o g i)) (kind : Kind) where
  handled : (handler : Option ℕ) → IfSome (walk_handler o handler) IsModelCap
  handled None = tt
  handled (Some g) = slots g 15

  walk-handler : (n : ℕ) (c : Capability) (w : At) → HasHandler (walk o kind n c w)
  walk-handler zero c w = subst HasHandler (sym (walk-zero o kind c w)) (handled w.handler)
  walk-handler (suc n) c w = subst HasHandler (sym (walk-suc o kind n c w)) (after (λ d v. walk-handler n d v) (step o kind c w))
    where
      after : ((d : Capability) (v : At) → HasHandler (walk o kind n d v)) → (t : Step) → HasHandler (walk_after o kind n t)
      after rest (Reach place) = tt
      after rest (Fault code handler) = handled handler
      after rest (Go next g i) = rest (slot_at o g i) next

null-none : (o : Items) (kind : Kind) (address : ℕ) → HasNone (access o null address kind)
null-none o kind address = subst HasNone (sym (walk-suc o kind 31 null (start_at address))) refl

empty_slot : slot_of empty_process 0 ≡ null
unfolding empty_slots
empty_slot = refl

module _ (s : State) (r : AreInRanges s.store) (p : ℕ) where
  -- a process that is not there has no capability
  absent : length s.store.contents.processes ≤ p → (i : ℕ) → slot_of (process_at s.store p) i ≡ slot_of empty_process i
  absent past i = ap (λ (q : ProcessValue). slot_of q i) (get_or_past s.store.contents.processes p empty_process past)

  pub cap_access-answer : (address : ℕ) (kind : Kind) → IsPlaceAnswer s p (cap_access s p address kind)
  cap_access-answer address kind =
      by (access s.store.items (space_of s p) address kind) (walk-handler s.store.items (slot-in s.store r) kind 32 (space_of s p) (start_at address))
      (λ past. subst (λ (c : Capability). HasNone (access s.store.items c address kind)) (sym (absent past 0 ∙ empty_slot)) (null-none s.store.items kind address))
    where
      by : (answer : Result Place WalkFault) → HasHandler answer → (length s.store.contents.processes ≤ p → HasNone answer) → IsPlaceAnswer s p answer
      by (Ok place) has none = tt
      by (Err f) has none = (has, none)

  pub data_access-answer : (address : ℕ) (kind : Kind) → IsHitAnswer s p (data_access s p address kind)
  data_access-answer address kind = by (access s.store.items (space_of s p) address kind) (cap_access-answer address kind)
    where
      by : (answer : Result Place WalkFault) → IsPlaceAnswer s p answer → IsHitAnswer s p (hit_of answer)
      by (Ok place) is = tt
      by (Err f) is = is

-- ---- capabilities to objects

-- a capability to an object that there may be
pub object-in : (kind : CapKind) → is_object kind ≡ true → (n : ℕ) → n < object_limit kind → IsModelCap (to_object kind n 0)
object-in Page is n below = (record { restr = omega arith; count = omega arith; guard = IsGuard-none; unguarded = λ e. refl; object = below; aligned = λ e. absurd (cc (e)); payload = omega arith; slot = omega arith }, refl)
object-in CapPage is n below = (record { restr = omega arith; count = omega arith; guard = IsGuard-none; unguarded = λ e. refl; object = below; aligned = λ e. absurd (cc (e)); payload = omega arith; slot = omega arith }, refl)
object-in Gpt is n below = (record { restr = omega arith; count = omega arith; guard = record { low = omega arith; high = omega arith; fits = omega arith }; unguarded = λ e. absurd (cc (e)); object = below; aligned = λ e. absurd (cc (e)); payload = omega arith; slot = omega arith }, refl)
object-in Endpoint is n below = (record { restr = omega arith; count = omega arith; guard = IsGuard-none; unguarded = λ e. refl; object = below; aligned = λ e. absurd (cc (e)); payload = omega arith; slot = omega arith }, refl)
object-in Process is n below = (record { restr = omega arith; count = omega arith; guard = IsGuard-none; unguarded = λ e. refl; object = below; aligned = λ e. absurd (cc (e)); payload = omega arith; slot = omega arith }, refl)
object-in _ is n below = absurd (cc (is))

-- ---- faults

pub payload-small : (c : Capability) → IsModelCap c → IsWord c.payload
payload-small c is = let below = is.0.payload in let most = (limits c.kind).payload in omega (arith, below, most)

four_words : (a b c d : ℕ) → IsWord a → IsWord b → IsWord c → IsWord d → All IsWord (a ∷ b ∷ c ∷ d ∷ [])
four_words a b c d w x y z =
    All-cons IsWord a (b ∷ c ∷ d ∷ []) w (All-cons IsWord b (c ∷ d ∷ []) x (All-cons IsWord c (d ∷ []) y (All-cons IsWord d [] z (All-nil IsWord))))

pub code-small : (code : FaultCode) → IsWord (fault_number code)
code-small Stopped = omega arith
code-small InvalidDataReference = omega arith
code-small InvalidCapReference = omega arith
code-small DataAccessTypeError = omega arith
code-small CapAccessTypeError = omega arith
code-small AccessViolation = omega arith
code-small MalformedSpace = omega arith
code-small NoSchedule = omega arith
code-small MalformedSyscall = omega arith
code-small BadAlign = omega arith
code-small BadOpcode = omega arith
code-small Breakpoint = omega arith

module _ (s : State) (r : AreInRanges s.store) (p : ℕ) (code : FaultCode) (address : ℕ) (word : IsWord address) where
  fault_handler : (handler : Option Capability) → IsHandler s p handler → IsModelCap (handler_of s.store p handler)
  unfolding handler_of
  fault_handler None is = process_slot-in s.store r p 2
  fault_handler (Some h) is = cond_both (is_answer (answerer s.store h)) _ _ IsModelCap (λ e. is.0) (λ e. process_slot-in s.store r p 2)

  -- nobody hears a process that is not there
  unheard : (handler : Option Capability) → IsHandler s p handler → length s.store.contents.processes ≤ p → heard_by s.store p handler ≡ Dead
  unfolding handler_of answerer empty_slots
  unheard handler is past = ap (λ (h : Option Capability). heard_by s.store p h) (is.1 past) ∙ ap (λ (c : Capability). answerer s.store c) (absent s r p past 2)

  faulted-in : AreInRanges (faulted (system s.store s.queues) p code address).store
  unfolding faulted
  faulted-in = with_process-in s.store r p (with_state (process_at s.store p) (Faulted code address)) (with_state-in (process_at s.store p) (process-in s.store r p) (Faulted code address) word)

  answered-in : (handler : Option Capability) → IsHandler s p handler → (answer : Answer) → heard_by s.store p handler ≡ answer
      → AreInRanges (answered Meant (system s.store s.queues) p code address (handler_of s.store p handler).payload answer).store
  unfolding answered waiting
  answered-in handler is Dead e = faulted-in
  answered-in handler is (Busy q) e = r
  answered-in handler is (Open n q) e =
      told-in (faulted (system s.store s.queues) p code address) faulted-in n q
      (fault_message (to_object Process p 0) (process_at s.store p) code address (handler_of s.store p handler).payload)
      (record {
        words = four_words (fault_number code) address (process_at s.store p).pc 0 (code-small code) word (process-in s.store r p).pc (omega arith);
        payload = payload-small (handler_of s.store p handler) (fault_handler handler is);
        bytes = omega arith;
        caps = All-cons IsModelCap (to_object Process p 0) [] (object-in Process refl p there) (All-nil IsModelCap);
        few = omega arith;
      })
    where
      there : p < 256
      there = elim (cases_lt p (length s.store.contents.processes)) [
        | inl below ↦ let few = r.few in omega (arith, below, few)
        | inr past ↦ let no : ◌≡◌ {A = Answer} Dead (Open n q) = sym (unheard handler is past) ∙ e in absurd (cc (no))
      ]

  pub fault_state-in : (handler : Option Capability) → IsHandler s p handler → AreInRanges (fault_state s p code address handler).store
  unfolding fault_state
  fault_state-in handler is = answered-in handler is (heard_by s.store p handler) refl
