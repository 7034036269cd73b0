-- Whether a state of the wide machine is as the laws ask, as a test. (Own.)
use Rattle.std.specs.Prelude.{◌≡◌, ℕ, ◌≤◌, ◌==◌, nat_lt, Bool, true, false, ◌&&◌, Option, Some, None, length}
use Rattle.std.specs.List.{list_all}
use Rattle.cap_format.specs.declared.kind.CapKind.{CapKind}
use Rattle.cap_format.specs.declared.kind.CapKind.TheVariants.{Schedule}
use Rattle.schedules.specs.Queues.{priorities}
use Rattle.schedules.specs.Standing.{IsQueues, standing}
use Rattle.schedules.specs.Ready.{Agrees, runs_of}
use Rattle.machine_state.specs.State.{State, process, schedule_slot}
use Rattle.quiet_runs.specs.Finding.{runs}
use Rattle.preemption.specs.Wide.{IsForEach}

-- a capability of this kind is a schedule
abbrev pub is_schedule : CapKind → Bool
is_schedule Schedule = true
is_schedule _ = false

-- the process has a schedule, of a priority that there is
abbrev pub has_schedule : State → ℕ → Bool
has_schedule s p =
    is_schedule (schedule_slot s p).kind && nat_lt (schedule_slot s p).object priorities

-- nobody is on a hart, or one who has a schedule
abbrev pub is_scheduled : State → Option ℕ → Bool
is_scheduled s None = true
is_scheduled s (Some p) = has_schedule s p

-- each process that is on a hart has a schedule
abbrev pub all_scheduled : State → Bool
all_scheduled s = list_all (is_scheduled s) s.queues.harts

-- nobody is on a hart, or one who stands nowhere else, runs, and has a schedule
abbrev pub is_served : State → Option ℕ → Bool
is_served s None = true
is_served s (Some p) =
    (standing s.queues p == 1) && (runs (process s p).state && has_schedule s p)

-- So it is with each hart. There are `many`, one for each process that waits for one, and a ready
-- queue for each priority.
abbrev pub is_for_each : ℕ → State → Bool
is_for_each many s =
    (length s.queues.harts == many)
    && ((length s.queues.ready == priorities)
    && (list_all (list_all (λ p. nat_lt p many)) s.queues.ready
    && list_all (is_served s) s.queues.harts))

-- A state that passes is as the laws ask.
abbrev pub TestLaw : Type 0
TestLaw = (many : ℕ) (s : State) → is_for_each many s ≡ true → IsForEach many s

-- In a state of a machine with `many` harts, and no more processes, it is enough to test that each
-- process that is on a hart has a schedule: a machine keeps the rest.
abbrev pub KeptLaw : Type 0
KeptLaw = (many : ℕ) (s : State)
    → IsQueues s.queues → Agrees (runs_of s.store s.queues)
    → length s.queues.harts ≡ many → length s.queues.sleepers ≤ many
    → is_for_each many s ≡ all_scheduled s
