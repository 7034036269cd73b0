use Rattle.std.proofs.Common.{ℕ, List, ◌<◌, length, reverse}
use Rattle.fair_rounds.specs.Search.{IsTree, IsWay}
use Rattle.fair_rounds.proofs.ways.path_to.Given as goal

abbrev pub invariant-loop-at : goal.invariant-loop-at
invariant-loop-at l = record {
  within : l.at < length l.found;
  way : (width : ℕ) (ends : List ℕ) → IsTree width ends l.found → IsWay width ends l.found l.at l.place (reverse l.path.items);
}

abbrev pub decreases-loop-at : goal.decreases-loop-at
decreases-loop-at l = l.at
