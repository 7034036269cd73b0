use Rattle.std.proofs.Common.{◌≡◌, ◌++◌, take}
use Rattle.state_parts.proofs.going.mark_all.Given as goal

-- those so far are marked
abbrev pub invariant-loop-i : goal.invariant-loop-i
invariant-loop-i l = l.marked.items ≡ l.fn.marked.items ++ take l.i l.names
