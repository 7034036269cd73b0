use Rattle.std.proofs.Common.{◌≡◌, ℕ, ◌<◌, false, get_or}
use Rattle.reaches_back.specs.Edges.{end_of}
use Rattle.reaches_back.proofs.backwards.leads_to_marked.Given as goal

abbrev pub invariant-loop-edge : goal.invariant-loop-edge
invariant-loop-edge l = (k : ℕ) → k < l.edge → get_or l.marks (end_of l.width l.ends l.at k) false ≡ false
