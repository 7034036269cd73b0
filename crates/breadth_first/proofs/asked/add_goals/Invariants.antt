use Rattle.std.proofs.Common.{◌≡◌, ◌++◌, map, take}
use Rattle.breadth_first.specs.Marks.{goal_of}
use Rattle.breadth_first.specs.declared.asked.Test.TheVariants.{Passes}
use Rattle.breadth_first.proofs.asked.add_goals.Given as goal

abbrev pub invariant-loop-want : goal.invariant-loop-want
invariant-loop-want l = l.tests.items ≡ l.fn.tests.items ++ map (λ want. Passes (goal_of want)) (take l.want-index l.wants)
