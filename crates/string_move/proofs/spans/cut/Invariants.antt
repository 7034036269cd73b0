use Rattle.std.proofs.Common.{◌≡◌, ◌+◌, ◌++◌}
use Rattle.string_move.specs.Spans.{spans}
use Rattle.string_move.proofs.spans.cut.Given as goal

-- the spans so far, and those of the bytes that are left, are those of all
abbrev pub invariant-loop-left : goal.invariant-loop-left
invariant-loop-left l = record { same : l.list ++ spans l.next l.left ≡ spans l.fn.at l.fn.size; ends : l.next + l.left ≡ l.fn.at + l.fn.size }

abbrev pub decreases-loop-left : goal.decreases-loop-left
decreases-loop-left l = l.left
