use Rattle.std.proofs.Common.{◌≡◌, ◌++◌, map, take}
use Rattle.breadth_first.specs.declared.asked.Test.TheVariants.{Passes}
use Rattle.breadth_first.proofs.asked.add_counts.Given as goal

abbrev pub invariant-loop-test : goal.invariant-loop-test
invariant-loop-test l = l.tests.items ≡ l.fn.tests.items ++ map Passes (take l.test-index l.counts)
