use Rattle.std.proofs.Common.{◌≡◌, ℕ, ◌<◌, length}
use Rattle.reaches_back.specs.Edges.{end_of}
use Rattle.fair_rounds.specs.Table.{is_marked}
use Rattle.fair_rounds.proofs.loops.with_edge.Given as goal

abbrev pub invariant-loop-at : goal.invariant-loop-at
invariant-loop-at l = record {
  many : length l.edges.items ≡ l.at;
  each : (i : ℕ) → i < l.at → is_marked l.edges.items i ≡ is_marked l.marks (end_of l.width l.ends i l.choice);
}
