-- Each of these tests answers true exactly where both are equal.
use Rattle.std.proofs.Common.{◌≡◌, ℕ, ◌==◌, Bool, true, false, IsTrue, ◌&&◌, List, refl, ap, arith}
use Rattle.std.specs.Bool.{beq, Decides}
use Rattle.std.specs.Cmp.{unsigned_Decides, booleans_Decides}
use Rattle.std.specs.Cmp.Lexicographic.{pointwise_decides}
use Rattle.std.proofs.lemmas.Bool.Decides.{Decides-and, Decides-like}
use Rattle.cap_format.specs.declared.fault.FaultCode.{FaultCode}
use Rattle.cap_format.specs.declared.fault.FaultCode.TheVariants.{Stopped, InvalidDataReference, InvalidCapReference, DataAccessTypeError, CapAccessTypeError, AccessViolation, MalformedSpace, NoSchedule, MalformedSyscall, BadAlign, BadOpcode, Breakpoint}
use Rattle.cap_format.specs.Kind.{number_of}
use Rattle.cap_format.specs.Codes.{fault_number}
use Rattle.cap_format.specs.Guard.{guard_of}
use Rattle.cap_format.specs.Capability.{Capability, capability}
use Rattle.cap_format.proofs.KindNumbers.{kind_of_number}
use Rattle.gpt_objects.specs.Header.{HeaderValue, header_of}
use Rattle.gpt_objects.specs.Gpt.{GptValue}
use Rattle.process_objects.specs.declared.wait.Wait.{Wait}
use Rattle.process_objects.specs.declared.wait.Wait.TheVariants.{Open, Closed}
use Rattle.process_objects.specs.declared.state.State.{State}
use Rattle.process_objects.specs.declared.state.State.TheVariants.{Running, Receiving, Faulted}
use Rattle.process_objects.specs.Accept.{AcceptValue, accept_of}
use Rattle.process_objects.specs.Process.{ProcessValue, process_of}
use Rattle.endpoint_objects.specs.declared.endpoint.Endpoint.{Endpoint as EndpointValue}
use Rattle.object_store.specs.Object.{ObjectValue}
use Rattle.object_store.specs.Object.ObjectValue.{OfPage, OfCapPage, OfGpt, OfProcess, OfEndpoint, OfNone}
use Rattle.object_parts.specs.Part.{hashed}
use Rattle.object_parts.specs.Same.{same_numbers, cap_fields, same_cap, same_caps, same_header, same_gpt, wait_fields, same_wait, same_accept, same_doing, same_process, same_endpoint, same_object}

-- two different answers
apart : {P : Type 0} → false ≡ true → P
apart e = cc

-- ---- capabilities

-- lists of numbers are the same where each number is
pub numbers_decide : (a b : List ℕ) → Decides (same_numbers a b) (a ≡ b)
numbers_decide a b = pointwise_decides unsigned_Decides a b

-- capabilities of the same fields are one
cap_by : (a b : Capability) → cap_fields a ≡ cap_fields b → a ≡ b
cap_by a b same = joined (kind_of_number a.kind b.kind number) restr count l2g matches object payload slot
  where
    number : number_of a.kind ≡ number_of b.kind
    number = cc

    restr : a.restr ≡ b.restr
    restr = cc

    count : a.count ≡ b.count
    count = cc

    l2g : a.guard.l2g ≡ b.guard.l2g
    l2g = cc

    matches : a.guard.matches ≡ b.guard.matches
    matches = cc

    object : a.object ≡ b.object
    object = cc

    payload : a.payload ≡ b.payload
    payload = cc

    slot : a.slot ≡ b.slot
    slot = cc

    by : (c : Capability) → Capability
    by c = capability c.kind c.restr c.count (guard_of c.guard.l2g c.guard.matches) c.object c.payload c.slot

    joined : a.kind ≡ b.kind → a.restr ≡ b.restr → a.count ≡ b.count → a.guard.l2g ≡ b.guard.l2g → a.guard.matches ≡ b.guard.matches → a.object ≡ b.object → a.payload ≡ b.payload → a.slot ≡ b.slot → by a ≡ by b
    joined h1 h2 h3 h4 h5 h6 h7 h8 = rw (h1, h2, h3, h4, h5, h6, h7, h8) refl

pub cap_decides : (a b : Capability) → Decides (same_cap a b) (a ≡ b)
cap_decides a b = Decides-like (same_cap a b) (cap_by a b) (λ e. ap cap_fields e) (numbers_decide (cap_fields a) (cap_fields b))

pub caps_decide : (a b : List Capability) → Decides (same_caps a b) (a ≡ b)
caps_decide a b = pointwise_decides cap_decides a b

-- ---- GPTs

header_decides : (a b : HeaderValue) → Decides (same_header a b) (a ≡ b)
header_decides a b =
    Decides-like (same_header a b) whole parts
    (Decides-and (a.l2v == b.l2v) (beq a.ha b.ha && beq a.bg b.bg) (unsigned_Decides a.l2v b.l2v)
    (Decides-and (beq a.ha b.ha) (beq a.bg b.bg) (booleans_Decides a.ha b.ha) (booleans_Decides a.bg b.bg)))
  where
    by : (h : HeaderValue) → HeaderValue
    by h = header_of h.l2v h.ha h.bg

    whole : (a.l2v ≡ b.l2v) × ((a.ha ≡ b.ha) × (a.bg ≡ b.bg)) → by a ≡ by b
    whole e = rw (e.0, e.1.0, e.1.1) refl

    parts : a ≡ b → (a.l2v ≡ b.l2v) × ((a.ha ≡ b.ha) × (a.bg ≡ b.bg))
    parts e = (ap (λ (h : HeaderValue). h.l2v) e, (ap (λ (h : HeaderValue). h.ha) e, ap (λ (h : HeaderValue). h.bg) e))

pub gpt_decides : (a b : GptValue) → Decides (same_gpt a b) (a ≡ b)
gpt_decides a b =
    Decides-like (same_gpt a b) whole parts
    (Decides-and (same_header a.header b.header) (same_caps a.slots b.slots) (header_decides a.header b.header) (caps_decide a.slots b.slots))
  where
    by : (g : GptValue) → GptValue
    by g = record { header = g.header; slots = g.slots }

    whole : (a.header ≡ b.header) × (a.slots ≡ b.slots) → by a ≡ by b
    whole e = rw (e.0, e.1) refl

    parts : a ≡ b → (a.header ≡ b.header) × (a.slots ≡ b.slots)
    parts e = (ap (λ (g : GptValue). g.header) e, ap (λ (g : GptValue). g.slots) e)

-- ---- processes

wait_by : (a b : Wait) → wait_fields a ≡ wait_fields b → a ≡ b
wait_by Open Open e = refl
wait_by Open (Closed j) e = cc
wait_by (Closed i) Open e = cc
wait_by (Closed i) (Closed j) e = let same : i ≡ j = cc in ap Closed same

wait_decides : (a b : Wait) → Decides (same_wait a b) (a ≡ b)
wait_decides a b = Decides-like (same_wait a b) (wait_by a b) (λ e. ap wait_fields e) (numbers_decide (wait_fields a) (wait_fields b))

accept_decides : (a b : AcceptValue) → Decides (same_accept a b) (a ≡ b)
accept_decides a b =
    Decides-like (same_accept a b) whole parts
    (Decides-and (same_wait a.wait b.wait) ((a.caps == b.caps) && (same_numbers a.regs b.regs && ((a.at == b.at) && (a.bound == b.bound)))) (wait_decides a.wait b.wait)
    (Decides-and (a.caps == b.caps) (same_numbers a.regs b.regs && ((a.at == b.at) && (a.bound == b.bound))) (unsigned_Decides a.caps b.caps)
    (Decides-and (same_numbers a.regs b.regs) ((a.at == b.at) && (a.bound == b.bound)) (numbers_decide a.regs b.regs)
    (Decides-and (a.at == b.at) (a.bound == b.bound) (unsigned_Decides a.at b.at) (unsigned_Decides a.bound b.bound)))))
  where
    by : (x : AcceptValue) → AcceptValue
    by x = accept_of x.wait x.caps x.regs x.at x.bound

    whole : (a.wait ≡ b.wait) × ((a.caps ≡ b.caps) × ((a.regs ≡ b.regs) × ((a.at ≡ b.at) × (a.bound ≡ b.bound)))) → by a ≡ by b
    whole e = rw (e.0, e.1.0, e.1.1.0, e.1.1.1.0, e.1.1.1.1) refl

    parts : a ≡ b → (a.wait ≡ b.wait) × ((a.caps ≡ b.caps) × ((a.regs ≡ b.regs) × ((a.at ≡ b.at) × (a.bound ≡ b.bound))))
    parts e = (ap (λ (x : AcceptValue). x.wait) e, (ap (λ (x : AcceptValue). x.caps) e, (ap (λ (x : AcceptValue). x.regs) e, (ap (λ (x : AcceptValue). x.at) e, ap (λ (x : AcceptValue). x.bound) e))))

-- faults of one number are one
fault_by : (c d : FaultCode) → fault_number c ≡ fault_number d → c ≡ d
fault_by Stopped Stopped e = refl
fault_by InvalidDataReference InvalidDataReference e = refl
fault_by InvalidCapReference InvalidCapReference e = refl
fault_by DataAccessTypeError DataAccessTypeError e = refl
fault_by CapAccessTypeError CapAccessTypeError e = refl
fault_by AccessViolation AccessViolation e = refl
fault_by MalformedSpace MalformedSpace e = refl
fault_by NoSchedule NoSchedule e = refl
fault_by MalformedSyscall MalformedSyscall e = refl
fault_by BadAlign BadAlign e = refl
fault_by BadOpcode BadOpcode e = refl
fault_by Breakpoint Breakpoint e = refl
fault_by c d e = absurd (omega (arith, e))

pub doing_decides : (s t : State) → Decides (same_doing s t) (s ≡ t)
doing_decides Running Running = (λ e. refl, λ e. refl)
doing_decides Running (Receiving b) = (λ e. apart e, λ e. cc)
doing_decides Running (Faulted d y) = (λ e. apart e, λ e. cc)
doing_decides (Receiving a) Running = (λ e. apart e, λ e. cc)
doing_decides (Receiving a) (Receiving b) = Decides-like (same_accept a b) (λ e. ap Receiving e) (λ e. cc) (accept_decides a b)
doing_decides (Receiving a) (Faulted d y) = (λ e. apart e, λ e. cc)
doing_decides (Faulted c x) Running = (λ e. apart e, λ e. cc)
doing_decides (Faulted c x) (Receiving b) = (λ e. apart e, λ e. cc)
doing_decides (Faulted c x) (Faulted d y) =
    Decides-like (same_doing (Faulted c x) (Faulted d y)) whole parts
    (Decides-and (fault_number c == fault_number d) (x == y) (unsigned_Decides (fault_number c) (fault_number d)) (unsigned_Decides x y))
  where
    whole : (fault_number c ≡ fault_number d) × (x ≡ y) → Faulted c x ≡ Faulted d y
    whole e = rw (fault_by c d e.0, e.1) refl

    parts : Faulted c x ≡ Faulted d y → (fault_number c ≡ fault_number d) × (x ≡ y)
    parts e = (let same : c ≡ d = cc in ap fault_number same, cc)

pub process_decides : (a b : ProcessValue) → Decides (same_process a b) (a ≡ b)
process_decides a b =
    Decides-like (same_process a b) whole parts
    (Decides-and (a.pc == b.pc) (same_numbers a.regs b.regs && (same_doing a.state b.state && (same_caps a.slots b.slots && same_caps a.capregs b.capregs))) (unsigned_Decides a.pc b.pc)
    (Decides-and (same_numbers a.regs b.regs) (same_doing a.state b.state && (same_caps a.slots b.slots && same_caps a.capregs b.capregs)) (numbers_decide a.regs b.regs)
    (Decides-and (same_doing a.state b.state) (same_caps a.slots b.slots && same_caps a.capregs b.capregs) (doing_decides a.state b.state)
    (Decides-and (same_caps a.slots b.slots) (same_caps a.capregs b.capregs) (caps_decide a.slots b.slots) (caps_decide a.capregs b.capregs)))))
  where
    by : (p : ProcessValue) → ProcessValue
    by p = process_of p.pc p.regs p.capregs p.slots p.state

    whole : (a.pc ≡ b.pc) × ((a.regs ≡ b.regs) × ((a.state ≡ b.state) × ((a.slots ≡ b.slots) × (a.capregs ≡ b.capregs)))) → by a ≡ by b
    whole e = rw (e.0, e.1.0, e.1.1.0, e.1.1.1.0, e.1.1.1.1) refl

    parts : a ≡ b → (a.pc ≡ b.pc) × ((a.regs ≡ b.regs) × ((a.state ≡ b.state) × ((a.slots ≡ b.slots) × (a.capregs ≡ b.capregs))))
    parts e = (ap (λ (p : ProcessValue). p.pc) e, (ap (λ (p : ProcessValue). p.regs) e, (ap (λ (p : ProcessValue). p.state) e, (ap (λ (p : ProcessValue). p.slots) e, ap (λ (p : ProcessValue). p.capregs) e))))

-- ---- endpoints

pub endpoint_decides : (a b : EndpointValue) → Decides (same_endpoint a b) (a ≡ b)
endpoint_decides a b =
    Decides-like (same_endpoint a b) whole parts
    (Decides-and (same_cap a.recipient b.recipient) ((a.id == b.id) && ((a.payload == b.payload) && beq a.matching b.matching)) (cap_decides a.recipient b.recipient)
    (Decides-and (a.id == b.id) ((a.payload == b.payload) && beq a.matching b.matching) (unsigned_Decides a.id b.id)
    (Decides-and (a.payload == b.payload) (beq a.matching b.matching) (unsigned_Decides a.payload b.payload) (booleans_Decides a.matching b.matching))))
  where
    by : (x : EndpointValue) → EndpointValue
    by x = record { recipient = x.recipient; id = x.id; payload = x.payload; matching = x.matching }

    whole : (a.recipient ≡ b.recipient) × ((a.id ≡ b.id) × ((a.payload ≡ b.payload) × (a.matching ≡ b.matching))) → by a ≡ by b
    whole e = rw (e.0, e.1.0, e.1.1.0, e.1.1.1) refl

    parts : a ≡ b → (a.recipient ≡ b.recipient) × ((a.id ≡ b.id) × ((a.payload ≡ b.payload) × (a.matching ≡ b.matching)))
    parts e = (ap (λ (x : EndpointValue). x.recipient) e, (ap (λ (x : EndpointValue). x.id) e, (ap (λ (x : EndpointValue). x.payload) e, ap (λ (x : EndpointValue). x.matching) e)))

-- ---- objects

-- objects of one kind, by their counts and records
same_kind_decides : {A : Type 0} (make : ℕ → A → ObjectValue) (test : A → A → Bool) (c d : ℕ) (a b : A) → Decides (test a b) (a ≡ b) → (make c a ≡ make d b → (c ≡ d) × (a ≡ b)) → Decides ((c == d) && test a b) (make c a ≡ make d b)
same_kind_decides make test c d a b decides back =
    Decides-like ((c == d) && test a b) (λ e. rw (e.0, e.1) refl) back (Decides-and (c == d) (test a b) (unsigned_Decides c d) decides)

pub object_decides : (x y : ObjectValue) → Decides (same_object x y) (x ≡ y)
object_decides (OfPage c a) (OfPage d b) = same_kind_decides OfPage same_numbers c d a b (numbers_decide a b) (λ e. (cc, cc))
object_decides (OfCapPage c a) (OfCapPage d b) = same_kind_decides OfCapPage same_caps c d a b (caps_decide a b) (λ e. (cc, cc))
object_decides (OfGpt c a) (OfGpt d b) = same_kind_decides OfGpt same_gpt c d a b (gpt_decides a b) (λ e. (cc, cc))
object_decides (OfProcess c a) (OfProcess d b) = same_kind_decides OfProcess same_process c d a b (process_decides a b) (λ e. (cc, cc))
object_decides (OfEndpoint c a) (OfEndpoint d b) = same_kind_decides OfEndpoint same_endpoint c d a b (endpoint_decides a b) (λ e. (cc, cc))
object_decides OfNone OfNone = (λ e. refl, λ e. refl)
object_decides x y = (λ e. apart e, λ e. cc)

-- what is the same is hashed alike
pub stands_hashed : (x y : ObjectValue) → IsTrue (same_object x y) → hashed x ≡ hashed y
stands_hashed x y same = ap hashed ((object_decides x y).0 same)

-- and is the same as what the other is
pub stands_alike : (x y z : ObjectValue) → IsTrue (same_object x y) → same_object x z ≡ same_object y z
stands_alike x y z same = ap (λ (v : ObjectValue). same_object v z) ((object_decides x y).0 same)
