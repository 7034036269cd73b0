-- A delivery as it means, and what it leaves as it was.
use Rattle.std.proofs.Common.{◌≡◌, ℕ, ◌<◌, Bool, true, false, if◌then◌else◌, [], ◌∷◌, length, map, min, inl, inr, refl, sym, ap, ◌∙◌, arith}
use Rattle.std.specs.List.{All}
use Rattle.std.proofs.lemmas.Bool.{cases_lt, both_ways}
use Rattle.std.proofs.lemmas.List.{length-map, length-take-le, get_or_past}
use Rattle.cap_format.specs.declared.kind.CapKind.TheVariants.{Endpoint, Process}
use Rattle.cap_format.specs.Capability.{Capability, null}
use Rattle.process_objects.specs.Accept.{AcceptValue, IsAccept}
use Rattle.process_objects.specs.Process.{ProcessValue, empty_process}
use Rattle.endpoint_objects.specs.declared.endpoint.Endpoint.{Endpoint as EndpointValue}
use Rattle.endpoint_objects.specs.Endpoint.{raised}
use Rattle.object_store.specs.Store.{Store, process_at, endpoint_at, with_process}
use Rattle.object_store.specs.Meaning.{meaning, process_map, endpoint_map, state_map}
use Rattle.object_store.proofs.Means.{process_at-state_map, state_map-with_process}
use Rattle.object_store.specs.Ahead.{IsBehind, NoneAhead}
use Rattle.object_store.proofs.Each.{capregs-each, process_slots-each}
use Rattle.object_store.proofs.Behind.{NoneAhead-with_process}
use Rattle.object_store.proofs.Writes.{id_means, put_endpoint}
use Rattle.object_store.proofs.WritesBehind.{null_behind, recipient_behind, put_endpoint_behind}
use Rattle.object_store.specs.Object.{Stays, object_name}
use Rattle.object_store.proofs.Stays.{stays_then, stays_more, stays_endpoint, stays_process}
use Rattle.invocation.specs.declared.message.Message.{Message}
use Rattle.invocation.specs.Target.{is_receiving}
use Rattle.invocation.specs.Delivery.{accepted, accepting, number_given, given, told_process, received, passed, passed_at, delivered, message_map, changed_by_message}
use Rattle.invocation.proofs.Given.{given_map, given_each, given-slots}

-- ---- the receiver

-- words change no capability
told_map : (f : Capability → Capability) (process : ProcessValue) (id number : ℕ) (message : Message) → process_map f (told_process process id number message) ≡ told_process (process_map f process) id number (message_map f message)
unfolding told_process
told_map f process id number message = refl

told-capregs : (process : ProcessValue) (id number : ℕ) (message : Message) → (told_process process id number message).capregs ≡ process.capregs
unfolding told_process
told-capregs process id number message = refl

told-slots : (process : ProcessValue) (id number : ℕ) (message : Message) → (told_process process id number message).slots ≡ process.slots
unfolding told_process
told-slots process id number message = refl

-- what a receiver means is what it meant, with the meaning of the message
received_map : (f : Capability → Capability) → f null ≡ null → (process : ProcessValue) (id : ℕ) (message : Message) → process_map f (received process id message) ≡ received (process_map f process) id (message_map f message)
unfolding received
received_map f null_is process id message =
    let accept = accepted process.state in
    let number = number_given accept message.caps in
    let count : length (map f message.caps) ≡ length message.caps = length-map message.caps f in
    given_map f null_is (told_process process id number message) (accepting accept) message.caps
    ∙ ap (λ x. given x (accepting accept) (map f message.caps))
    (told_map f process id number message ∙ ap (λ n. told_process (process_map f process) id (min n accept.caps) (message_map f message)) (sym count))

-- capabilities that are given to the registers that accept them make the receiver, after its registers were written
pub received_by : (process : ProcessValue) (id : ℕ) (message : Message) (accept : AcceptValue) (number : ℕ) → accept ≡ accepted process.state → IsAccept accept
    → number ≡ min (length message.caps) (length (accepting accept)) → given (told_process process id number message) (accepting accept) message.caps ≡ received process id message
unfolding received
received_by process id message accept number accept_is range number_is =
    let registers : length (accepting accept) ≡ accept.caps = length-take-le accept.caps accept.regs (omega (arith, range.four, range.caps)) in
    let same : number ≡ number_given accept message.caps = number_is ∙ ap (min (length message.caps)) registers in
    ap (λ n. given (told_process process id n message) (accepting accept) message.caps) same
    ∙ ap (λ (a : AcceptValue). given (told_process process id (number_given a message.caps) message) (accepting a) message.caps) accept_is

-- a receiver keeps its slots, its state and its pc
pub received-slots : (process : ProcessValue) (id : ℕ) (message : Message) → (received process id message).slots ≡ process.slots
unfolding received
received-slots process id message = given-slots _ _ _ ∙ told-slots process id _ message

-- its capability registers have what they had, and capabilities of the message
pub received_each : (P : Capability → Type 0) → P null → (process : ProcessValue) (id : ℕ) (message : Message) → All P message.caps → All P process.capregs → All P (received process id message).capregs
unfolding received
received_each P of_null process id message new old =
    given_each P of_null (told_process process id (number_given (accepted process.state) message.caps) message) (accepting (accepted process.state)) message.caps new
    (rw (told-capregs process id (number_given (accepted process.state) message.caps) message) old)

-- ---- the endpoint

-- a message goes through an endpoint as it means
passed_map : (f : Capability → Capability) (endpoint : EndpointValue) → endpoint_map f (passed endpoint) ≡ passed (endpoint_map f endpoint)
passed_map f endpoint = by endpoint.matching
  where
    by : (b : Bool) → endpoint_map f (if b then raised endpoint else endpoint) ≡ (if b then raised (endpoint_map f endpoint) else endpoint_map f endpoint)
    by true = refl
    by false = refl

-- an endpoint keeps its recipient
passed-recipient : (endpoint : EndpointValue) → (passed endpoint).recipient ≡ endpoint.recipient
passed-recipient endpoint = by endpoint.matching
  where
    by : (b : Bool) → (if b then raised endpoint else endpoint).recipient ≡ endpoint.recipient
    by true = refl
    by false = refl

-- ---- both

-- a process that receives is there
pub receiving_there : (s : Store) (q : ℕ) → is_receiving (process_at s q).state ≡ true → q < length s.contents.processes
receiving_there s q receives = elim (cases_lt q (length s.contents.processes)) [
  | inl there ↦ there
  | inr past ↦ absurd (both_ways (is_receiving (process_at s q).state) (ap (λ (process : ProcessValue). is_receiving process.state) (get_or_past s.contents.processes q empty_process past)) receives)
]

-- a delivery as it means
pub delivered_means : (s : Store) (e q : ℕ) (message : Message) → state_map (delivered s e q message) ≡ delivered (state_map s) e q (message_map (meaning s.items) message)
unfolding delivered
delivered_means s e q message =
    let f = meaning s.items in
    let id = (endpoint_at s e).id in
    let endpoint : state_map (passed_at s e) ≡ passed_at (state_map s) e = put_endpoint s e (passed (endpoint_at s e)) passed (passed_map f (endpoint_at s e)) in
    let process : process_map f (received (process_at s q) id message) ≡ received (process_at (state_map s) q) (endpoint_at (state_map s) e).id (message_map f message) =
    received_map f refl (process_at s q) id message
    ∙ (ap (λ x. received x id (message_map f message)) (sym (process_at-state_map s q))
    ∙ ap (λ n. received (process_at (state_map s) q) n (message_map f message)) (id_means s e)) in
    state_map-with_process (passed_at s e) q (received (process_at s q) id message)
    ∙ (ap (λ t. with_process t q (process_map f (received (process_at s q) id message))) endpoint
    ∙ ap (with_process (passed_at (state_map s) e) q) process)

-- a delivery of capabilities that are not ahead puts none ahead
pub delivered_behind : (s : Store) (e q : ℕ) (message : Message) → All (IsBehind s.items) message.caps → NoneAhead s → NoneAhead (delivered s e q message)
unfolding delivered
delivered_behind s e q message new none =
    let P = IsBehind s.items in
    let endpoint : NoneAhead (passed_at s e) = put_endpoint_behind s none e (passed (endpoint_at s e)) (rw (passed-recipient (endpoint_at s e)) (recipient_behind s none e)) in
    let id = (endpoint_at s e).id in
    NoneAhead-with_process (passed_at s e) endpoint q (received (process_at s q) id message)
    (received_each P (null_behind s) (process_at s q) id message new (capregs-each P (null_behind s) s none q))
    (rw (received-slots (process_at s q) id message) (process_slots-each P (null_behind s) s none q))

-- all but the endpoint and the receiver stay as they are stored
pub delivered_stays : (s : Store) (e q : ℕ) (message : Message) → Stays (changed_by_message e q) s (delivered s e q message)
unfolding delivered
delivered_stays s e q message =
    stays_then (changed_by_message e q) s (passed_at s e) (with_process (passed_at s e) q (received (process_at s q) (endpoint_at s e).id message))
    (stays_endpoint (object_name Process q ∷ []) s e (passed (endpoint_at s e)))
    (stays_more (object_name Endpoint e) (object_name Process q ∷ []) (passed_at s e) _ (stays_process [] (passed_at s e) q (received (process_at s q) (endpoint_at s e).id message)))
