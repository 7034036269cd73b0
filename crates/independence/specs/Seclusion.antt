-- What processes have to themselves: a cut with them on its left, and with the pages and GPTs that nobody else can name. It is
-- looked at in the model's map, where a capability that is dead is Null, and so names nothing. (Own.)
use Rattle.std.specs.Prelude.{◌≡◌, ℕ, false, Some}
use Rattle.cap_format.specs.declared.kind.CapKind.TheVariants.{Gpt, Process as ProcessKind}
use Rattle.page_store.specs.CapPage.{cap_at}
use Rattle.process_objects.specs.declared.state.State.TheVariants.{Running}
use Rattle.process_objects.specs.Process.{capreg_of, slot_of}
use Rattle.object_store.specs.Store.{Store, slot_at, cappage_at, process_at}
use Rattle.schedules.specs.Queues.{QueuesValue, ready_queue, sleepers_of, hart_of}
use Rattle.machine_state.specs.State.{State, process, IsOnHart}
use Rattle.confinement.specs.declared.cut_side.CutSide.TheVariants.{Left, Right}
use Rattle.confinement.specs.Cut.{Cut, IsClosed, side_of, MayHold, AllOn}

-- Each capability that stands on the right, or in a capability page, names nothing on the left, by whatever restrictions, and none
-- is a Range; SysCtl and KernLog are there where the cut lets the right have them. Whatever else stands on the left is free. So are
-- the recipients of endpoints: nobody is given them, and nobody asks one but whether it receives. Nobody calls across.
pub record HeldApart (cut : Cut) (s : Store) : Type 0 where
  pub strictly : cut.weakly Right ≡ false
  pub closed : IsClosed cut
  pub slots : (g i : ℕ) → side_of cut Gpt g ≡ Right → MayHold cut Right (slot_at s.items g i)
  pub cappages : (n i : ℕ) → MayHold cut Right (cap_at (cappage_at s n) i)
  pub capregs : (p i : ℕ) → side_of cut ProcessKind p ≡ Right → MayHold cut Right (capreg_of (process_at s p) i)
  pub process_slots : (p i : ℕ) → side_of cut ProcessKind p ≡ Right → MayHold cut Right (slot_of (process_at s p) i)

-- A process of the left waits nowhere, and is on one hart.
pub record OnHarts (cut : Cut) (q : QueuesValue) : Type 0 where
  pub ready : (priority : ℕ) → AllOn cut Right (ready_queue q priority)
  pub sleepers : (p : ℕ) → AllOn cut Right (sleepers_of q p)
  pub there : (p : ℕ) → side_of cut ProcessKind p ≡ Left → IsOnHart q p
  pub once : (p g h : ℕ) → side_of cut ProcessKind p ≡ Left → hart_of q g ≡ Some p → hart_of q h ≡ Some p → g ≡ h

-- The processes on the left have what is there to themselves: nobody else names them or it, they run, and they are on harts.
pub record Secluded (cut : Cut) (s : State) : Type 0 where
  pub apart : HeldApart cut s.store
  pub running : (p : ℕ) → side_of cut ProcessKind p ≡ Left → (process s p).state ≡ Running
  pub harts : OnHarts cut s.queues
