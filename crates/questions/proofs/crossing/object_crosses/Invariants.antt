use Rattle.std.proofs.Common.{◌≡◌, ◌+◌, ◌*◌, false}
use Rattle.object_store.specs.Places.{reads_in}
use Rattle.separation_check.specs.Crossings.{all_below, crossing_by, listed, stored_cap}
use Rattle.questions.specs.Atom.{is_any}
use Rattle.questions.proofs.crossing.object_crosses.Given as goal

abbrev pub invariant-each : goal.invariant-each
invariant-each g l = record {
  none : is_any (all_below (λ i. listed (crossing_by l.policy l.kind l.n i (stored_cap l.objects l.kind l.n i))) l.i) ≡ false;
  fetches : l.fetches ≡ l.fn.fetches + reads_in l.kind * l.i;
}
