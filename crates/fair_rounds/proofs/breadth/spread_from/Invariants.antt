use Rattle.std.proofs.Common.{◌≡◌, ℕ, ◌+◌, ◌<◌, Some, slice_get}
use Rattle.reaches_back.specs.Edges.{end_of}
use Rattle.fair_rounds.specs.Search.{IsFound, IsSpread}
use Rattle.fair_rounds.proofs.breadth.spread_from.Given as goal

abbrev pub invariant-loop-choice : goal.invariant-loop-choice
invariant-loop-choice l = record {
  there : slice_get l.found.items l.at ≡ Some l.from;
  first : slice_get l.found.items 0 ≡ slice_get l.fn.found.items 0;
  spread : IsSpread l.width l.ends l.seen l.found.items l.at;
  so_far : (c : ℕ) → c < l.choice → IsFound l.found.items (end_of l.width l.ends l.from.node c) (l.from.depth + 1);
}
