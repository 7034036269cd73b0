use Rattle.std.proofs.Common.{◌≡◌, ℕ, ◌<◌, false, get_or, Some, slice_get}
use Rattle.fair_rounds.specs.declared.breadth.Found.{Found}
use Rattle.fair_rounds.proofs.ways.first_marked.Given as goal

abbrev pub invariant-loop-place : goal.invariant-loop-place
invariant-loop-place l = (i : ℕ) (f : Found) → i < l.place → slice_get l.found i ≡ Some f → get_or l.marks f.node false ≡ false
