use Rattle.std.proofs.Common.{◌≡◌, ◌≤◌, ◌+◌, ◌*◌, true, take}
use Rattle.machine_state.specs.State.{state_of}
use Rattle.questions.specs.Atom.{all_hold}
use Rattle.questions.proofs.judging.all_hold.Given as goal

abbrev pub invariant-each : goal.invariant-each
invariant-each g l = record {
  all : all_hold l.crossing (state_of l.machine) (take l.atom-index l.atoms) ≡ true;
  least : l.fn.fetches ≤ l.fetches;
  most : l.fetches ≤ l.fn.fetches + 16 * l.atom-index;
}
