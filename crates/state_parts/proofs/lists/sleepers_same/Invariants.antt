use Rattle.std.proofs.Common.{◌≡◌, ℕ, ◌<◌, slice_get}
use Rattle.schedules.specs.Queues.{sleepers_of}
use Rattle.state_parts.proofs.lists.sleepers_same.Given as goal

-- the places so far are the same
abbrev pub invariant-loop-n : goal.invariant-loop-n
invariant-loop-n l = (k : ℕ) → k < l.n → slice_get (sleepers_of l.a l.on) k ≡ slice_get (sleepers_of l.b l.on) k
