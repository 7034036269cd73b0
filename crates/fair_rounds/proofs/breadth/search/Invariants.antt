use Rattle.std.proofs.Common.{◌≡◌, ◌-◌, length, Some, slice_get}
use Rattle.fair_rounds.specs.declared.breadth.Found.{Found}
use Rattle.fair_rounds.specs.Search.{IsSpread}
use Rattle.fair_rounds.proofs.breadth.search.Given as goal

abbrev pub invariant-loop-at : goal.invariant-loop-at
invariant-loop-at l = record {
  many : length l.seen.items ≡ l.nodes;
  first : (f : Found) × (slice_get l.found.items 0 ≡ Some f) × (f.node ≡ l.start);
  spread : IsSpread l.width l.ends l.seen.items l.found.items l.at;
}

abbrev pub decreases-loop-at : goal.decreases-loop-at
decreases-loop-at l = l.nodes - l.at
