use Rattle.std.proofs.Common.{◌≡◌, ◌≤◌, ◌+◌, ◌*◌, drop}
use Rattle.machine_state.specs.State.{state_of}
use Rattle.questions.specs.Question.{any_holds, count_atoms}
use Rattle.questions.proofs.judging.any_holds.Given as goal

abbrev pub invariant-each : goal.invariant-each
invariant-each g l = record {
  left : any_holds l.crossing (state_of l.machine) l.groups ≡ any_holds l.crossing (state_of l.machine) (drop l.i l.groups);
  least : l.fn.fetches ≤ l.fetches;
  most : l.fetches + 16 * count_atoms (drop l.i l.groups) ≤ l.fn.fetches + 16 * count_atoms l.groups;
}
