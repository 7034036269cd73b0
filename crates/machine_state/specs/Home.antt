-- The same machine with another number of harts. (Own.)
use Rattle.std.specs.Prelude.{ℕ}
use Rattle.object_store.specs.Store.{with_harts}
use Rattle.schedules.specs.Queues.{QueuesValue}
use Rattle.schedules.specs.Home.{on_harts, own_harts}
use Rattle.machine_state.specs.State.{State}

-- the same objects in a machine with `many` harts, whose processes stand in these queues
abbrev pub widened : ℕ → State → QueuesValue → State
widened many s queues =
    record { store = with_harts s.store many; queues = queues; halted = s.halted }

-- the state with so many harts, where each process that is on a hart is on its own
abbrev pub at_home : ℕ → State → State
at_home many s = widened many s (on_harts s.queues (own_harts s.queues.harts many))
