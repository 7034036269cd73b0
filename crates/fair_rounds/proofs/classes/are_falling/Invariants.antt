use Rattle.std.proofs.Common.{ℕ, ◌<◌, length}
use Rattle.fair_rounds.specs.Classes.{class_of, FallsFrom}
use Rattle.fair_rounds.proofs.classes.are_falling.Given as goal

abbrev pub invariant-loop-at : goal.invariant-loop-at
invariant-loop-at l = record {
  few : (i : ℕ) → i < l.at → class_of l.classes i < length l.classes;
  falls : (i : ℕ) → i < l.at → FallsFrom l.width l.ends l.classes i;
}
