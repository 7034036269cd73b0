use Rattle.std.proofs.Common.{◌≡◌, ℕ, ◌<◌, false, not, get_or}
use Rattle.breadth_first.proofs.counting.first_mark.Given as goal

abbrev pub invariant-loop-index : goal.invariant-loop-index
invariant-loop-index l = (k : ℕ) → k < l.index → get_or l.marks k false ≡ not l.wanted
