use Rattle.std.proofs.Common.{ℕ, ◌<◌, ◌≤◌}
use Rattle.reaches_back.specs.Edges.{end_of}
use Rattle.fair_rounds.specs.Classes.{class_of}
use Rattle.fair_rounds.proofs.classes.falls_from.Given as goal

abbrev pub invariant-loop-choice : goal.invariant-loop-choice
invariant-loop-choice l = (c : ℕ) → c < l.choice → class_of l.classes (end_of l.width l.ends l.at c) ≤ class_of l.classes l.at
