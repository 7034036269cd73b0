use Rattle.std.proofs.Common.{◌≡◌, ℕ, ◌<◌, ◌≤◌, true, false, not, length, get_or, count_by}
use Rattle.reaches_back.specs.Edges.{CanReach, NoneMarked}
use Rattle.reaches_back.proofs.backwards.sweep.Given as goal

abbrev pub invariant-loop-at : goal.invariant-loop-at
invariant-loop-at l = record {
  within : l.at ≤ length l.marks;
  sound : (i : ℕ) → get_or l.marks i false ≡ true → CanReach l.width l.ends l.fn.marks i;
  kept : (i : ℕ) → get_or l.fn.marks i false ≡ true → get_or l.marks i false ≡ true;
  least : count_by not l.marks ≤ count_by not l.fn.marks;
  fewer : l.changed ≡ true → count_by not l.marks < count_by not l.fn.marks;
  done : l.changed ≡ false → (i : ℕ) → l.at ≤ i → i < length l.marks → get_or l.marks i false ≡ false → NoneMarked l.width l.ends l.marks i;
}

abbrev pub decreases-loop-at : goal.decreases-loop-at
decreases-loop-at l = l.at
