-- The theorem: what a cut keeps apart. (Own.)
use Rattle.std.specs.Prelude.{◌≡◌, ◌<◌, ℕ, List, length, Some, None}
use Rattle.cap_format.specs.declared.kind.CapKind.TheVariants.{Process}
use Rattle.machine_state.specs.declared.event.Event.{Event}
use Rattle.machine_state.specs.Machine.{hart_in}
use Rattle.machine_state.specs.State.{State}
use Rattle.kernel_core.specs.Event.{performer, event_of}
use Rattle.kernel_core.specs.Run.{run_state}
use Rattle.confinement.specs.Cut.{Cut, side_of, Holds}
use Rattle.confinement.specs.Acts.{Spares, SparesSleepers, SparesPlaces, system_of}

-- An event takes state `s` to state `t`. The cut holds afterwards, and there are as many harts. Each object that is not of
-- the side of the process which performs the event is the same, its age and state included, and so is who sleeps on each
-- process that is not; those processes stand in the same order in each ready queue, and on the same harts. Where nobody
-- performs it, no object changes, and no sleeper; and where it is an event of a hart that there is, no queue and no hart.
pub record Kept (cut : Cut) (s : State) (e : Event) (t : State) : Type 0 where
  pub holds : Holds cut (system_of t)
  pub spares : (p : ℕ) → performer s e ≡ Some p → Spares cut (side_of cut Process p) s.store t.store
  pub sleepers : (p : ℕ) → performer s e ≡ Some p → SparesSleepers cut (side_of cut Process p) s.queues t.queues
  pub places : (p : ℕ) → performer s e ≡ Some p → SparesPlaces cut (side_of cut Process p) s.queues t.queues
  pub idle : performer s e ≡ None → (t.store ≡ s.store) × (t.queues.sleepers ≡ s.queues.sleepers)
  pub still : performer s e ≡ None → hart_in e < length s.queues.harts → t.queues ≡ s.queues
  pub harts : length t.queues.harts ≡ length s.queues.harts

-- so it is with every event, behind any events, from this state on
abbrev pub Separated : Cut → State → Type 0
Separated cut s = (before : List Event) (e : Event) →
    let t = run_state s before in
    Kept cut t e (event_of t e).state

-- where a cut holds, its sides are kept apart for good
abbrev pub Separation : Type 0
Separation = (cut : Cut) (s : State) → Holds cut (system_of s) → Separated cut s
