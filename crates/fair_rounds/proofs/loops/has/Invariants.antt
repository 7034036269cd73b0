use Rattle.std.proofs.Common.{◌≡◌, ℕ, ◌<◌, slice_index}
use Rattle.fair_rounds.proofs.loops.has.Given as goal

abbrev pub invariant-loop-other : goal.invariant-loop-other
invariant-loop-other l = (k : ℕ) → k < l.other-index → slice_index l.choices k ≡ l.choice → ⊥
