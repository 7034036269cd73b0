use Rattle.std.proofs.Common.{◌≡◌, ℕ, ◌<◌, ◌+◌, ◌*◌, true}
use Rattle.fair_rounds.specs.Table.{is_marked}
use Rattle.fair_rounds.proofs.classes.lacks.Given as goal

abbrev pub invariant-loop-choice : goal.invariant-loop-choice
invariant-loop-choice l = (c : ℕ) → c < l.choice → is_marked l.inner (l.class * l.width + c) ≡ true
