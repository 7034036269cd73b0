-- Equality of what is stored, as it is computed.
use Rattle.std.specs.Prelude.{ℕ, ◌==◌, Bool, true, false, ◌&&◌, List, [], ◌∷◌, nat_eq}
use Rattle.std.specs.Bool.{beq}
use Rattle.std.specs.Cmp.Lexicographic.{pointwise}
use Rattle.cap_format.specs.Kind.{number_of}
use Rattle.cap_format.specs.Codes.{fault_number}
use Rattle.cap_format.specs.Capability.{Capability}
use Rattle.gpt_objects.specs.Header.{HeaderValue}
use Rattle.gpt_objects.specs.Gpt.{GptValue}
use Rattle.process_objects.specs.declared.wait.Wait.{Wait}
use Rattle.process_objects.specs.declared.wait.Wait.TheVariants.{Open, Closed}
use Rattle.process_objects.specs.declared.state.State.{State}
use Rattle.process_objects.specs.declared.state.State.TheVariants.{Running, Receiving, Faulted}
use Rattle.process_objects.specs.Accept.{AcceptValue}
use Rattle.process_objects.specs.Process.{ProcessValue}
use Rattle.endpoint_objects.specs.declared.endpoint.Endpoint.{Endpoint as EndpointValue}
use Rattle.object_store.specs.Object.{ObjectValue}
use Rattle.object_store.specs.Object.ObjectValue.{OfPage, OfCapPage, OfGpt, OfProcess, OfEndpoint, OfNone}

-- lists of numbers
abbrev pub same_numbers : List ℕ → List ℕ → Bool
same_numbers a b = pointwise nat_eq a b

-- the fields of a capability, its kind by its number
abbrev pub cap_fields : Capability → List ℕ
cap_fields c = number_of c.kind ∷ c.restr ∷ c.count ∷ c.guard.l2g ∷ c.guard.matches ∷ c.object ∷ c.payload ∷ c.slot ∷ []

-- capabilities
abbrev pub same_cap : Capability → Capability → Bool
same_cap a b = same_numbers (cap_fields a) (cap_fields b)

-- lists of capabilities
abbrev pub same_caps : List Capability → List Capability → Bool
same_caps a b = pointwise same_cap a b

-- headers of GPTs
abbrev pub same_header : HeaderValue → HeaderValue → Bool
same_header a b = (a.l2v == b.l2v) && (beq a.ha b.ha && beq a.bg b.bg)

-- GPTs
abbrev pub same_gpt : GptValue → GptValue → Bool
same_gpt a b = same_header a.header b.header && same_caps a.slots b.slots

-- for whom a receiver waits, as numbers
abbrev pub wait_fields : Wait → List ℕ
wait_fields Open = 0 ∷ 0 ∷ []
wait_fields (Closed id) = 1 ∷ id ∷ []

-- for whom receivers wait
abbrev pub same_wait : Wait → Wait → Bool
same_wait a b = same_numbers (wait_fields a) (wait_fields b)

-- what receivers take
abbrev pub same_accept : AcceptValue → AcceptValue → Bool
same_accept a b = same_wait a.wait b.wait && ((a.caps == b.caps) && (same_numbers a.regs b.regs && ((a.at == b.at) && (a.bound == b.bound))))

-- what processes do
abbrev pub same_doing : State → State → Bool
same_doing Running Running = true
same_doing (Receiving a) (Receiving b) = same_accept a b
same_doing (Faulted c x) (Faulted d y) = (fault_number c == fault_number d) && (x == y)
same_doing _ _ = false

-- processes
abbrev pub same_process : ProcessValue → ProcessValue → Bool
same_process a b = (a.pc == b.pc) && (same_numbers a.regs b.regs && (same_doing a.state b.state && (same_caps a.slots b.slots && same_caps a.capregs b.capregs)))

-- endpoints
abbrev pub same_endpoint : EndpointValue → EndpointValue → Bool
same_endpoint a b = same_cap a.recipient b.recipient && ((a.id == b.id) && ((a.payload == b.payload) && beq a.matching b.matching))

-- objects, their counts included
abbrev pub same_object : ObjectValue → ObjectValue → Bool
same_object (OfPage c a) (OfPage d b) = (c == d) && same_numbers a b
same_object (OfCapPage c a) (OfCapPage d b) = (c == d) && same_caps a b
same_object (OfGpt c a) (OfGpt d b) = (c == d) && same_gpt a b
same_object (OfProcess c a) (OfProcess d b) = (c == d) && same_process a b
same_object (OfEndpoint c a) (OfEndpoint d b) = (c == d) && same_endpoint a b
same_object OfNone OfNone = true
same_object _ _ = false
