-- Turns: steps of a machine with a hart for each process, by who performs them. (Own.)
use Rattle.std.specs.Prelude.{◌≡◌, ℕ, ◌≤◌, List, [], ◌∷◌, length, map, Some}
use Rattle.machine_state.specs.declared.event.Event.{Event}
use Rattle.machine_state.specs.declared.event.Event.TheVariants.{Step}
use Rattle.machine_state.specs.State.{State}
use Rattle.kernel_core.specs.Event.{performer, event_of}
use Rattle.kernel_core.specs.Run.{run_state, run_records}
use Rattle.preemption.specs.Wide.{Spread, IsForEach}

-- the process performs the step of the hart of its own number
abbrev pub IsTurn : State → ℕ → Type 0
IsTurn s p = performer s (Step p) ≡ Some p

-- so do all of these, one after the other
abbrev pub AreTurns : State → List ℕ → Type 0
AreTurns s [] = Unit {0}
AreTurns s (p ∷ ps) = IsTurn s p × AreTurns (event_of s (Step p)).state ps

-- their steps
abbrev pub steps_of : List ℕ → List Event
steps_of ps = map Step ps

-- What events do in a machine with few harts, turns do in a wide one. There are no more of them,
-- they tell the same, and the states after both are spread.
pub record InTurns (few many : ℕ) (s : State) (es : List Event) (w : State) : Type 0 where
  pub turns : List ℕ
  pub of : AreTurns w turns
  pub no_more : length turns ≤ length es
  pub records : run_records w (steps_of turns) ≡ run_records s es
  pub spread : Spread few many (run_state s es) (run_state w (steps_of turns))

-- whatever turns are taken, no more than so many, each process that is on a hart then runs, and
-- has a schedule
abbrev pub StaysWithin : ℕ → ℕ → State → Type 0
StaysWithin most many w = (ps : List ℕ) → AreTurns w ps → length ps ≤ most
    → IsForEach many (run_state w (steps_of ps))

-- whatever turns are taken, it does
abbrev pub StaysForEach : ℕ → State → Type 0
StaysForEach many w = (ps : List ℕ) → AreTurns w ps → IsForEach many (run_state w (steps_of ps))
