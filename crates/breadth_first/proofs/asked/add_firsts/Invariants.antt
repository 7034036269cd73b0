use Rattle.std.proofs.Common.{◌≡◌, ◌++◌, take}
use Rattle.breadth_first.specs.Marks.{firsts_of}
use Rattle.breadth_first.proofs.asked.add_firsts.Given as goal

abbrev pub invariant-loop-want : goal.invariant-loop-want
invariant-loop-want l = l.tests.items ≡ l.fn.tests.items ++ firsts_of (take l.want-index l.wants)
