-- Harts of which each has the process of its own number, or none. (Own.)
use Rattle.std.specs.Prelude.{ℕ, ◌==◌, if◌then◌else◌, List, map, Option, Some, None}
use Rattle.std.specs.List.{sum_by, range_with_len}
use Rattle.schedules.specs.Queues.{QueuesValue}
use Rattle.schedules.specs.Standing.{times_on}

-- hart `p` has process `p`, if that is on one of these harts
abbrev pub own_hart : List (Option ℕ) → ℕ → Option ℕ
own_hart harts p = if sum_by (times_on p) harts == 0 then None else Some p

-- so many harts, where each process that is on one of these is on its own
abbrev pub own_harts : List (Option ℕ) → ℕ → List (Option ℕ)
own_harts harts many = map (own_hart harts) (range_with_len 0 many)

-- these queues with other harts
abbrev pub on_harts : QueuesValue → List (Option ℕ) → QueuesValue
on_harts q harts = record { ready = q.ready; sleepers = q.sleepers; harts = harts }
