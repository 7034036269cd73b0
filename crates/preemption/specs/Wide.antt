-- A machine with a hart for each process, beside one with fewer. (Own.)
use Rattle.std.specs.Prelude.{◌≡◌, ℕ, ◌<◌, true, false, length}
use Rattle.cap_format.specs.declared.kind.CapKind.TheVariants.{Schedule}
use Rattle.process_objects.specs.declared.state.State.TheVariants.{Running}
use Rattle.schedules.specs.Queues.{priorities, ready_queue, sleepers_of, stands_in}
use Rattle.machine_state.specs.State.{State, IsOnHart, process, schedule_slot}
use Rattle.machine_state.specs.Home.{widened}
use Rattle.preemption.specs.Places.{Thins}

-- State `w` of a machine with `many` harts has the objects of state `s` of one with `few`, and the
-- same processes in its queues, but for those that have a hart in the wide machine alone.
pub record Spread (few many : ℕ) (s w : State) : Type 0 where
  pub same : w ≡ widened many s w.queues
  pub places : Thins few s.queues w.queues

-- the process has a schedule, of a priority that there is
pub record HasSchedule (s : State) (p : ℕ) : Type 0 where
  pub kind : (schedule_slot s p).kind ≡ Schedule
  pub priority : (schedule_slot s p).object < priorities

-- A state of a machine with `many` harts, and a ready queue for each priority. There is a hart for
-- each process that waits for one. Each process that is on a hart waits nowhere, runs, and has a
-- schedule.
pub record IsForEach (many : ℕ) (s : State) : Type 0 where
  pub harts : length s.queues.harts ≡ many
  pub queues : length s.queues.ready ≡ priorities
  pub each : (priority p : ℕ) → stands_in (ready_queue s.queues priority) p ≡ true → p < many
  pub ready : (priority p : ℕ) → IsOnHart s.queues p
      → stands_in (ready_queue s.queues priority) p ≡ false
  pub sleeps : (on p : ℕ) → IsOnHart s.queues p → stands_in (sleepers_of s.queues on) p ≡ false
  pub running : (p : ℕ) → IsOnHart s.queues p → (process s p).state ≡ Running
  pub scheduled : (p : ℕ) → IsOnHart s.queues p → HasSchedule s p
