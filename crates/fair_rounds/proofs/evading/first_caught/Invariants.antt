use Rattle.std.proofs.Common.{◌≡◌, ℕ, ◌<◌, Some, slice_get}
use Rattle.fair_rounds.specs.declared.breadth.Found.{Found}
use Rattle.fair_rounds.specs.Loops.{NoneFrom}
use Rattle.fair_rounds.proofs.evading.first_caught.Given as goal

abbrev pub invariant-loop-place : goal.invariant-loop-place
invariant-loop-place l = (i : ℕ) (f : Found) → i < l.place → slice_get l.found i ≡ Some f → NoneFrom l.width l.walls l.nodes f.node
