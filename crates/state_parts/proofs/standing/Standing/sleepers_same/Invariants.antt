use Rattle.std.proofs.Common.{◌≡◌, take}
use Rattle.state_parts.proofs.standing.Standing.sleepers_same.Given as goal

-- the sleepers so far are the same
abbrev pub invariant-loop-on : goal.invariant-loop-on
invariant-loop-on l = take l.on l.self.queues.sleepers ≡ take l.on l.other.queues.sleepers
