use Rattle.std.proofs.Common.{◌≡◌, ℕ, ◌+◌, ◌<◌, ◌≤◌, true, false, not, cond, length, get_or, count_by}
use Rattle.reaches_back.specs.Edges.{CanReach, NoneMarked}
use Rattle.reaches_back.proofs.backwards.reach_back.Given as goal

abbrev pub invariant-loop-changed : goal.invariant-loop-changed
invariant-loop-changed l = record {
  sound : (i : ℕ) → get_or l.marks i false ≡ true → CanReach l.width l.ends l.fn.marks i;
  kept : (i : ℕ) → get_or l.fn.marks i false ≡ true → get_or l.marks i false ≡ true;
  done : l.changed ≡ false → (i : ℕ) → i < length l.fn.marks → get_or l.marks i false ≡ false → NoneMarked l.width l.ends l.marks i;
}

abbrev pub decreases-loop-changed : goal.decreases-loop-changed
decreases-loop-changed l = count_by not l.marks + cond l.changed 1 0
