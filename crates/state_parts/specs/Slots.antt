-- How many slots of GPTs are read at most. (This project's.)
use Rattle.std.specs.Prelude.{ℕ, ◌+◌}
use Rattle.machine_state.specs.declared.event.Event.{Event}
use Rattle.machine_state.specs.State.{State}
use Rattle.kernel_core.specs.Event.{event_of}
use Rattle.event_reach.specs.FreshWalks.{walked}
use Rattle.event_reach.specs.Reads.{an_instruction, a_plain_look}

-- by the look for what an event may change: for a plain instruction, and where it is none for all that it may change
abbrev pub a_look : ℕ
a_look = a_plain_look + an_instruction

-- to perform an event: what its touches read where each access is a fresh walk, and the look
abbrev pub event_slots : State → Event → ℕ
event_slots s e = walked (event_of s e).touches + a_look
