-- The history of a machine, and what an event and an undo make of it. (This project's.)
use Rattle.std.specs.Prelude.{ℕ, Bool, true, false, List, [], ◌∷◌, map, take, length}
use Rattle.machine_state.specs.declared.event.Event.{Event}
use Rattle.machine_state.specs.State.{State, state_of}
use Rattle.kernel_core.specs.Event.{event_of}
use Rattle.reverse_run.specs.Moments.{ReversibleValue, state_at, moments_of}

-- the present state, and the states before each event that is remembered, the latest first
pub record History : Type 0 where
  pub present : State
  pub before : List State

-- a history of which no event is remembered
abbrev pub begun : State → History
begun s = record { present = s; before = [] }

-- how many events are remembered
abbrev pub remembered : History → ℕ
remembered h = length h.before

-- an event adds the new state; where `depth` states stand before the present one, the oldest is dropped
abbrev pub after_event : ℕ → History → Event → History
after_event depth h e = record { present = (event_of h.present e).state; before = take depth (h.present ∷ h.before) }

-- an undo drops the present state, if there is one before it
abbrev pub back_to : State → List State → History
back_to s [] = begun s
back_to s (t ∷ ts) = record { present = t; before = ts }

-- the history after an undo
abbrev pub after_undo : History → History
after_undo h = back_to h.present h.before

-- whether an undo finds an event that is remembered
abbrev pub can_undo : List State → Bool
can_undo [] = false
can_undo (t ∷ ts) = true

-- the history of a machine of which pasts are kept
abbrev pub history_of : {T : Type 0} → ReversibleValue T → History
history_of r = record { present = state_of r.machine; before = map state_at (moments_of r) }
