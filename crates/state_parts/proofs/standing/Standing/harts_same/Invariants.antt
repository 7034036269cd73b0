use Rattle.std.proofs.Common.{◌≡◌, take}
use Rattle.state_parts.proofs.standing.Standing.harts_same.Given as goal

-- the harts so far are the same
abbrev pub invariant-loop-i : goal.invariant-loop-i
invariant-loop-i l = take l.i l.self.queues.harts ≡ take l.i l.other.queues.harts
