-- What changes, answers and systems mean: a function of each capability in them, as the meaning is one.
use Rattle.std.proofs.Common.{List, map}
use Rattle.cap_format.specs.Capability.{Capability}
use Rattle.object_store.specs.Meaning.{process_map, endpoint_map, state_map}
use Rattle.operations.specs.System.{System, system}
use Rattle.operations.specs.Change.{Change, PageIs, CapPageIs, SlotIs, HeaderIs, EndpointIs, ProcessIs, Left, Readied, Woken, Destroyed}
use Rattle.operations.specs.Row.{Answer, Settled}
use Rattle.operations.specs.Meaning.{cap_map}

-- the system as its capabilities mean
abbrev pub system_map : System → System
system_map w = system (state_map w.store) w.queues

-- a change with the function applied to each capability that it writes
abbrev pub change_map : (Capability → Capability) → Change → Change
change_map f (PageIs n page) = PageIs n page
change_map f (CapPageIs n page) = CapPageIs n (map f page)
change_map f (SlotIs g i c) = SlotIs g i (f c)
change_map f (HeaderIs g header) = HeaderIs g header
change_map f (EndpointIs e endpoint) = EndpointIs e (endpoint_map f endpoint)
change_map f (ProcessIs p process) = ProcessIs p (process_map f process)
change_map f (Left p) = Left p
change_map f (Readied p) = Readied p
change_map f (Woken p) = Woken p
change_map f (Destroyed kind n) = Destroyed kind n

-- an answer with the function applied to each capability in it
abbrev pub answer_map : (Capability → Capability) → Answer → Answer
answer_map f answer = record { changes = map (change_map f) answer.changes; words = answer.words; cap = cap_map f answer.cap }

-- a code with such an answer
abbrev pub settled_map : (Capability → Capability) → Settled → Settled
settled_map f settled = record { code = settled.code; answer = answer_map f settled.answer }
