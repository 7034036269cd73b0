use Rattle.std.proofs.Common.{◌≡◌, replicate, []}
use Rattle.breadth_first.proofs.marks.no_marks.Given as goal

-- so many lists so far
abbrev pub invariant-loop : goal.invariant-loop
invariant-loop l = l.lists.items ≡ replicate l.counter []
