use Rattle.std.proofs.Common.{◌≡◌, ◌+◌, ◌*◌, false}
use Rattle.object_store.specs.Meaning.{state_map}
use Rattle.object_store.specs.Places.{cap_in, reads_in}
use Rattle.quiet_runs.specs.Finding.{is_below}
use Rattle.questions.specs.Atom.{is_held}
use Rattle.questions.proofs.object_holds.object_holds.Given as goal

abbrev pub invariant-each : goal.invariant-each
invariant-each g l = record {
  none : is_below (λ i. is_held l.holding (cap_in (state_map l.objects) l.kind l.n i)) l.i ≡ false;
  fetches : l.fetches ≡ l.fn.fetches + reads_in l.kind * l.i;
}
