use Rattle.std.proofs.Common.{◌≡◌, ℕ, ◌<◌, length}
use Rattle.fair_rounds.specs.Classes.{IsInnerFrom}
use Rattle.fair_rounds.proofs.classes.inner_choices.Given as goal

abbrev pub invariant-loop-at : goal.invariant-loop-at
invariant-loop-at l = record {
  many : length l.inner.items ≡ length l.ends;
  each : (i : ℕ) → i < l.at → IsInnerFrom l.width l.ends l.classes i l.inner.items;
}
