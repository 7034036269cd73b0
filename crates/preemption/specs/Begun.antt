-- Machines of which all harts are idle, or some. (Own.)
use Rattle.std.specs.Prelude.{ℕ, None, ◌++◌, replicate}
use Rattle.schedules.specs.Queues.{QueuesValue}
use Rattle.schedules.specs.Home.{on_harts}
use Rattle.machine_state.specs.State.{State}
use Rattle.machine_state.specs.Home.{widened}

-- the state with so many harts, all of them idle
abbrev pub at_rest : ℕ → State → State
at_rest many s = widened many s (on_harts s.queues (replicate many None))

-- these queues with so many more harts, which are idle
abbrev pub idle_added : ℕ → QueuesValue → QueuesValue
idle_added more q = on_harts q (q.harts ++ replicate more None)

-- the state in a machine with `many` harts, of which so many are more than it had, and idle
abbrev pub with_idle : ℕ → ℕ → State → State
with_idle many more s = widened many s (idle_added more s.queues)
