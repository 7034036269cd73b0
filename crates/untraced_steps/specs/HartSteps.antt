-- Steps of one hart, or of all in rounds.
use Rattle.std.specs.Prelude.{◌≡◌, ℕ, zero, suc, ◌+◌, ◌<◌, nat_lt, if◌then◌else◌, List, [], ◌∷◌, ◌++◌, Option, Some, None, ⊤}
use Rattle.machine_state.specs.Machine.{hart_in}
use Rattle.machine_state.specs.declared.event.Event.{Event}
use Rattle.machine_state.specs.declared.event.Event.TheVariants.{Step}
use Rattle.untraced_steps.specs.declared.hart_steps.HartSteps.{HartSteps}

-- one step of each of so many harts, from this hart upwards
abbrev pub steps_from : ℕ → ℕ → List Event
steps_from hart zero = []
steps_from hart (suc n) = Step hart ∷ steps_from (suc hart) n

-- so many rounds: in each, one step of each hart, from hart 0 upwards
abbrev pub rounds : ℕ → ℕ → List Event
rounds harts zero = []
rounds harts (suc n) = steps_from 0 harts ++ rounds harts n

-- the hart behind this one: the next, and the first behind the last
abbrev pub hart_behind : ℕ → ℕ → ℕ → ℕ
hart_behind first last hart = if nat_lt hart last then hart + 1 else first

-- so many steps, one hart behind the other, the first of this hart
abbrev pub in_cycle : ℕ → ℕ → ℕ → ℕ → List Event
in_cycle first last hart zero = []
in_cycle first last hart (suc n) = Step hart ∷ in_cycle first last (hart_behind first last hart) n

-- the steps that are left
abbrev pub steps_left : HartSteps → List Event
steps_left steps = in_cycle steps.first steps.last steps.hart steps.times

-- the first of the steps that were left was taken, and is of this hart, or none was left
abbrev pub IsFirst : Option ℕ → List Event → List Event → Type 0
IsFirst None old new = (old ≡ []) × (new ≡ [])
IsFirst (Some hart) old new = old ≡ Step hart ∷ new

-- all events are of harts that are there
abbrev pub OfHarts : ℕ → List Event → Type 0
OfHarts harts [] = ⊤
OfHarts harts (event ∷ events) = (hart_in event < harts) × OfHarts harts events
