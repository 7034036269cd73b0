use Rattle.std.proofs.Common.{◌≡◌, ℕ, ◌<◌, slice_get}
use Rattle.schedules.specs.Queues.{ready_queue}
use Rattle.state_parts.proofs.lists.ready_queue_same.Given as goal

-- the places so far are the same
abbrev pub invariant-loop-n : goal.invariant-loop-n
invariant-loop-n l = (k : ℕ) → k < l.n → slice_get (ready_queue l.a l.priority) k ≡ slice_get (ready_queue l.b l.priority) k
