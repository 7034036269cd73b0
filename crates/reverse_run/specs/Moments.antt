-- The moments to which a machine can be brought back: what is stored then, counts and dead capabilities included, the
-- queues with the harts, and whether it is halted. (This project's.)
use Rattle.std.specs.Prelude.{ℕ, ◌+◌, ◌≤◌, Bool, List, [], ◌∷◌, length}
use Rattle.std.specs.List.{All}
use Rattle.object_store.specs.Store.{Store, sizes_of}
use Rattle.object_store.specs.Meaning.{state_map}
use Rattle.object_store.specs.Saved.{restored, AreThere}
use Rattle.schedules.specs.Queues.{QueuesValue}
use Rattle.machine_state.specs.Machine.{MachineValue, IsMachine}
use Rattle.machine_state.specs.State.{State}
use Rattle.machine_state.specs.Outcome.{Touch}
use Rattle.machine_state.specs.Past.{names_in, saved_in, touches_back, IsFor}
use Rattle.reverse_run.specs.Remembered.{MementoValue, AtMostOneGpt, queues_before, halted_before}

-- a machine without its translator, as it is stored
pub record Moment : Type 0 where
  pub objects : Store
  pub queues : QueuesValue
  pub halted : Bool

-- the present moment of a machine
abbrev pub moment_of : {T : Type 0} → MachineValue T → Moment
moment_of m = record { objects = m.objects; queues = m.queues; halted = m.halted }

-- the state that a moment means
abbrev pub state_at : Moment → State
state_at m = record { store = state_map m.objects; queues = m.queues; halted = m.halted }

-- the moment before an event, by what is remembered of the event and the moment behind it
abbrev pub moment_before : Moment → MementoValue → Moment
moment_before m kept = record { objects = restored (saved_in kept.past) m.objects; queues = queues_before kept m.queues; halted = halted_before kept m.halted }

-- the moments before events, from a later moment back: the latest event comes first
abbrev pub unwound : Moment → List MementoValue → List Moment
unwound m [] = []
unwound m (kept ∷ pasts) = moment_before m kept ∷ unwound (moment_before m kept) pasts

-- what a translator is told of an undo, one after the other: the copies that the latest event left are put back
abbrev pub undo_touches : List MementoValue → List Touch
undo_touches [] = []
undo_touches (kept ∷ pasts) = touches_back kept.past.places

-- each of these moments, one after the other, is that of a machine
abbrev pub CanUnwind : Moment → List MementoValue → Type 0
CanUnwind m [] = Unit {0}
CanUnwind m (kept ∷ pasts) =
    AreThere m.objects (names_in kept.past) × IsMachine (moment_before m kept).objects (moment_before m kept).queues × CanUnwind (moment_before m kept) pasts

-- a machine, what is remembered of events, the latest first, and of how many there is room for it
pub record ReversibleValue (T : Type 0) : Type 0 where
  pub machine : MachineValue T
  pub pasts : List MementoValue
  pub depth : ℕ

-- the moments before each event that is remembered, the latest first
abbrev pub moments_of : {T : Type 0} → ReversibleValue T → List Moment
moments_of r = unwound (moment_of r.machine) r.pasts

-- what is kept of pasts in use, the latest first, and of spare ones, with room for so many of either: all were made for the
-- machine's sizes, all fit on either side, there are 1 to 256, and those in use have one GPT at most and lead back
pub record AreKept (m : Moment) (pasts spare : List MementoValue) (room spare_room : ℕ) : Type 0 where
  pub in_use : All (λ kept. IsFor kept.past (sizes_of m.objects)) pasts
  pub not_in_use : All (λ kept. IsFor kept.past (sizes_of m.objects)) spare
  pub fit : length pasts + length spare ≤ room
  pub spare_fit : length pasts + length spare ≤ spare_room
  pub least : 1 ≤ length pasts + length spare
  pub most : length pasts + length spare ≤ 256
  pub few : All (λ kept. AtMostOneGpt kept.past) pasts
  pub unwinds : CanUnwind m pasts
