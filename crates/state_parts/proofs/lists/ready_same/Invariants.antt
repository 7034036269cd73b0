use Rattle.std.proofs.Common.{◌≡◌, take}
use Rattle.state_parts.proofs.lists.ready_same.Given as goal

-- the queues so far are the same
abbrev pub invariant-loop-priority : goal.invariant-loop-priority
invariant-loop-priority l = take l.priority l.a.ready ≡ take l.priority l.b.ready
