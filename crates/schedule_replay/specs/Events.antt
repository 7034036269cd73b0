-- The events that a line of the schedule stands for.
use Rattle.std.specs.Prelude.{◌≡◌, ℕ, List, [], ◌∷◌, replicate, Option, Some, None}
use Rattle.machine_state.specs.declared.event.Event.{Event}
use Rattle.machine_state.specs.declared.event.Event.TheVariants.{Step, Tick}
use Rattle.listing_read.specs.declared.schedule.Timed.{Timed}
use Rattle.listing_read.specs.declared.schedule.Timed.TheVariants.{Step as Steps, Tick as TimerTick, Round}
pub use Rattle.untraced_steps.specs.HartSteps.{rounds, steps_left, OfHarts}
use Rattle.schedule_replay.specs.declared.events.Events.{Events}
use Rattle.schedule_replay.specs.declared.events.Events.TheVariants.{StepsLeft, TickLeft, NoneLeft}

-- the events of a line, on a machine with so many harts
abbrev pub line_events : ℕ → Timed → List Event
line_events harts (Steps hart times) = replicate times (Step hart)
line_events harts (TimerTick hart) = Tick hart ∷ []
line_events harts (Round times) = rounds harts times

-- the events that are left
abbrev pub left : Events → List Event
left (StepsLeft steps) = steps_left steps
left (TickLeft hart) = Tick hart ∷ []
left NoneLeft = []

-- the first of the events that were left was taken, or none was left
abbrev pub IsTaken : Option Event → List Event → List Event → Type 0
IsTaken None old new = (old ≡ []) × (new ≡ [])
IsTaken (Some event) old new = old ≡ event ∷ new
