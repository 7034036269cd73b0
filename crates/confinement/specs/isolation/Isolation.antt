-- The theorem: what one side of a cut is told and has doesn't depend on the other side, but for when its turns come. (Own.)
use Rattle.std.specs.Prelude.{◌≡◌, List}
use Rattle.machine_state.specs.declared.event.Event.{Event}
use Rattle.machine_state.specs.State.{State}
use Rattle.kernel_core.specs.Run.{run_state}
use Rattle.confinement.specs.declared.cut_side.CutSide.{CutSide}
use Rattle.confinement.specs.Cut.{Cut}
use Rattle.confinement.specs.Acts.{system_of}
use Rattle.confinement.specs.isolation.Agree.{Agree, Apart}
use Rattle.confinement.specs.isolation.Turns.{turns, side_records}

-- two runs, each of the events of a list from a state on, in which the same is told of this side, and which end in states
-- that agree on it
pub record AlikeRuns (cut : Cut) (side : CutSide) (s t : State) (es fs : List Event) : Type 0 where
  pub records : side_records cut side s es ≡ side_records cut side t fs
  pub ends : Agree cut side (system_of (run_state s es)) (system_of (run_state t fs))

-- Two runs that give this side's processes the same turns in the same order are alike for this side, whatever the other
-- side does in either before, between and after these turns. That the turns are the same is a premise: ready queues are
-- shared by both sides, and a process of either may halt the machine.
abbrev pub Isolated : Cut → CutSide → State → State → Type 0
Isolated cut side s t = (es fs : List Event) → turns cut side s es ≡ turns cut side t fs → AlikeRuns cut side s t es fs

-- so it is where this side may hold nothing across the cut, the cut holds in both states, and they agree on this side
abbrev pub Isolation : Type 0
Isolation = (cut : Cut) (side : CutSide) (s t : State) → Apart cut side s t → Isolated cut side s t
