use Rattle.std.proofs.Common.{◌≡◌, ◌<◌, ◌≤◌, ◌+◌, ◌*◌, ℕ, false, drop, slice_index_or}
use Rattle.std.specs.List.{sum_by}
use Rattle.machine_state.specs.State.{state_of}
use Rattle.questions.specs.Question.{PropertyValue, atoms_in, fails}
use Rattle.questions.proofs.judging.failing.Given as goal

abbrev pub invariant-each : goal.invariant-each
invariant-each g l = record {
  none : (k : ℕ) (d : PropertyValue) → k < l.i → fails l.crossing (state_of l.machine) (slice_index_or l.properties k d) ≡ false;
  least : l.fn.fetches ≤ l.fetches;
  most : l.fetches + 16 * sum_by atoms_in (drop l.i l.properties) ≤ l.fn.fetches + 16 * sum_by atoms_in l.properties;
}
