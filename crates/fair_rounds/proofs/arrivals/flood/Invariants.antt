use Rattle.std.proofs.Common.{◌≡◌, ℕ, true}
use Rattle.reaches_back.specs.Edges.{CanReach}
use Rattle.fair_rounds.specs.Table.{is_marked}
use Rattle.fair_rounds.specs.Loops.{AreMarkedNodes}
use Rattle.fair_rounds.proofs.arrivals.flood.Given as goal

abbrev pub invariant-loop-at : goal.invariant-loop-at
invariant-loop-at l = record {
  sound : (i : ℕ) → is_marked l.marks i ≡ true → CanReach l.width l.ends l.fn.marks i;
  kept : (i : ℕ) → is_marked l.fn.marks i ≡ true → is_marked l.marks i ≡ true;
  list : AreMarkedNodes l.marks l.list.items;
}
