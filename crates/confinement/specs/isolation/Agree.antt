-- Two systems that agree on one side of a cut. (Own.)
use Rattle.std.specs.Prelude.{◌≡◌, ℕ, false}
use Rattle.cap_format.specs.declared.kind.CapKind.{CapKind}
use Rattle.cap_format.specs.declared.kind.CapKind.TheVariants.{Process}
use Rattle.object_store.specs.Object.{SameObject}
use Rattle.schedules.specs.Queues.{sleepers_of}
use Rattle.operations.specs.System.{System}
use Rattle.machine_state.specs.State.{State}
use Rattle.confinement.specs.declared.cut_side.CutSide.{CutSide}
use Rattle.confinement.specs.Cut.{Cut, side_of, Holds}
use Rattle.confinement.specs.Acts.{SameSizes, system_of}

-- Each object of this side is the same in both, its age and state included; the same processes sleep on each process of
-- this side, in the same order; and both have as many objects of each kind. Nothing is said of the other side, of ready
-- queues, of harts, and of whether a machine is halted.
pub record Agree (cut : Cut) (side : CutSide) (w v : System) : Type 0 where
  pub same : (kind : CapKind) (n : ℕ) → side_of cut kind n ≡ side → SameObject kind n w.store v.store
  pub sleepers : (p : ℕ) → side_of cut Process p ≡ side → sleepers_of w.queues p ≡ sleepers_of v.queues p
  pub sizes : SameSizes w v

-- This side may hold no capability to an object of the other, a harmless one neither; the other may hold harmless ones, if
-- the cut says so. The cut holds in both states, and they agree on this side.
pub record Apart (cut : Cut) (side : CutSide) (s t : State) : Type 0 where
  pub own_alone : cut.weakly side ≡ false
  pub first : Holds cut (system_of s)
  pub second : Holds cut (system_of t)
  pub agree : Agree cut side (system_of s) (system_of t)
