-- What an invocation of a capability reaches.
use Rattle.std.specs.Prelude.{◌≡◌, ◌≢◌, ◌<◌, Bool, true, false}
use Rattle.cap_format.specs.declared.kind.CapKind.{CapKind}
use Rattle.cap_format.specs.declared.kind.CapKind.TheVariants.{Entry, Process, Endpoint}
use Rattle.cap_format.specs.Capability.{Capability, bare}
use Rattle.process_objects.specs.declared.state.State.{State}
use Rattle.process_objects.specs.declared.state.State.TheVariants.{Running, Receiving, Faulted}
use Rattle.object_store.specs.Store.{Store, size_of, process_at}
use Rattle.object_store.specs.Meaning.{is_live}
use Rattle.object_store.specs.Ahead.{IsBehind}
use Rattle.invocation.specs.declared.callee.Callee.{Callee}
use Rattle.invocation.specs.declared.callee.Callee.TheVariants.{Kernel, Open, Busy, Dead}
use Rattle.invocation.specs.Answerer.{Answer, entered}
use Rattle.invocation.specs.Answerer.Answer.{Dead as NobodyAnswers, Open as Answers, Busy as IsBusy}

-- who answers an entry, as a callee
abbrev pub called_by : Answer → Callee
called_by NobodyAnswers = Dead
called_by (Answers e q) = Open e q
called_by (IsBusy q) = Busy q

-- what is reached through a capability, by its kind: the kernel itself, unless it is an entry
abbrev pub called : Store → CapKind → Capability → Callee
called s Entry c = called_by (entered s c.object c.payload)
called s _ c = Kernel c

-- what is reached through a capability of the map
unfoldable pub callee : Store → Capability → Callee
callee s c = called s c.kind c

-- the same without the count of the capability that the kernel is asked through
abbrev pub bare_callee : Callee → Callee
bare_callee (Kernel c) = Kernel (bare c)
bare_callee (Open e q) = Open e q
bare_callee (Busy q) = Busy q
bare_callee Dead = Dead

-- a callee as one who answers an entry: the kernel doesn't
abbrev pub answer_of : Callee → Answer
answer_of (Kernel c) = NobodyAnswers
answer_of (Open e q) = Answers e q
answer_of (Busy q) = IsBusy q
answer_of Dead = NobodyAnswers

-- whether a process in this state receives
abbrev pub is_receiving : State → Bool
is_receiving (Receiving accept) = true
is_receiving Running = false
is_receiving (Faulted code address) = false

-- what is reached is there: a live capability that is no entry, an endpoint and a process that receives, or a process
abbrev pub IsReached : Store → Callee → Type 0
IsReached s (Kernel c) = (c.kind ≢ Entry) × (is_live s.items c ≡ true) × IsBehind s.items c
IsReached s (Open e q) = (e < size_of s.items Endpoint) × (q < size_of s.items Process) × (is_receiving (process_at s q).state ≡ true)
IsReached s (Busy q) = q < size_of s.items Process
IsReached s Dead = Unit {0}
