use Rattle.std.proofs.Common.{◌≡◌, ℕ, ◌+◌, ◌*◌, ◌<◌, true}
use Rattle.reaches_back.specs.Edges.{end_of}
use Rattle.fair_rounds.specs.Table.{is_marked}
use Rattle.fair_rounds.specs.Classes.{class_of}
use Rattle.fair_rounds.proofs.classes.mark_inner.Given as goal

abbrev pub invariant-loop-choice : goal.invariant-loop-choice
invariant-loop-choice l = record {
  kept : (i : ℕ) → is_marked l.fn.inner i ≡ true → is_marked l.inner i ≡ true;
  inner : (c : ℕ) → c < l.choice → class_of l.classes (end_of l.width l.ends l.at c) ≡ class_of l.classes l.at → is_marked l.inner (class_of l.classes l.at * l.width + c) ≡ true;
}
