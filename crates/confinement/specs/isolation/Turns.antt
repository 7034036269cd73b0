-- What one side of a cut has of a run: the turns of its processes, and what is told of them. (Own.)
use Rattle.std.specs.Prelude.{ℕ, if◌then◌else◌, List, [], ◌∷◌, ◌++◌, Option, Some, None}
use Rattle.cap_format.specs.declared.kind.CapKind.TheVariants.{Process}
use Rattle.machine_state.specs.declared.event.Event.{Event}
use Rattle.machine_state.specs.declared.event.Event.TheVariants.{Step, Tick}
use Rattle.machine_state.specs.declared.record.Record.{Record}
use Rattle.machine_state.specs.State.{State}
use Rattle.kernel_core.specs.Event.{performer, event_of}
use Rattle.confinement.specs.declared.cut_side.CutSide.{CutSide}
use Rattle.confinement.specs.Cut.{Cut, side_of, same_side}

-- a turn of a process: it performs an instruction, or its hart's timer ticks and it goes to the end of its queue
pub data Turn : Type 0 where
  Stepped : ℕ → Turn
  Ticked : ℕ → Turn

-- the turn that an event is for the process that performs it; on which hart is not part of it
abbrev pub turn_of : Event → ℕ → Turn
turn_of (Step hart) p = Stepped p
turn_of (Tick hart) p = Ticked p

-- what this side has of an event by who performs it: nothing, unless a process of this side does
abbrev pub of_side : {A : Type 0} → Cut → CutSide → Option ℕ → (ℕ → List A) → List A
of_side cut side None has = []
of_side cut side (Some p) has = if same_side (side_of cut Process p) side then has p else []

-- the turns of this side's processes, in their order
unfoldable pub turns : Cut → CutSide → State → List Event → List Turn
turns cut side s [] = []
turns cut side s (e ∷ es) =
    of_side cut side (performer s e) (λ p. turn_of e p ∷ []) ++ turns cut side (event_of s e).state es

-- the records of the events that this side's processes perform, in their order
unfoldable pub side_records : Cut → CutSide → State → List Event → List Record
side_records cut side s [] = []
side_records cut side s (e ∷ es) =
    of_side cut side (performer s e) (λ p. (event_of s e).records) ++ side_records cut side (event_of s e).state es
